-- Laws of the check: the sum word by word, and the blocks' checks block by block. Assumes nothing.
use mathlib.Core.Path.{◌≡◌, refl, sym, ◌∙◌}
use mathlib.Core.Bool.{Bool, true, false}
use mathlib.Core.List.{List}
use Prim.Native.Nat.{ℕ, suc, ◌+◌, ◌-◌, ◌*◌, ◌≤◌, ◌<◌}
use native.Mathlib.Omega.{arith}
use lib.ListN.{length, take, drop, drop_of_length-le}
use lib.Seq.{drop-cons, drop-drop, take-take, get_or-take}
use lib.Dec.{eqb}
use Rattle.words.specs.Parts.{high_at}
use Rattle.rules.specs.Image.{block_size, data_size, word_sum, folded, check_of, any_check_wrong}

-- the next word
pub sum_next : (bytes : List ℕ) (i : ℕ) → i + 1 < length bytes → word_sum (drop i bytes) ≡ high_at bytes i + word_sum (drop (i + 2) bytes)
unfolding word_sum
sum_next bytes i h =
    let e : i + 2 ≡ suc (suc i) = omega arith in
    let s : i + 1 ≡ suc i = omega arith in
    rw (e, s, drop-cons bytes i 0 (omega arith), drop-cons bytes (suc i) 0 (omega arith))

-- no word is left
pub sum_end : (bytes : List ℕ) (i : ℕ) → length bytes ≤ i → word_sum (drop i bytes) ≡ 0
unfolding word_sum
sum_end bytes i h = rw (drop_of_length-le bytes h)

-- two foldings leave no carry, for the sum of 255 words
pub folded_small : {s t u : ℕ} → s ≤ 65535 * 255 → t ≡ folded s → u ≡ folded t → u ≤ 65535
unfolding folded
folded_small h p q = omega arith

-- the check, as the code computes it
pub check_is : (bytes : List ℕ) {s t u : ℕ} → s ≡ word_sum bytes → t ≡ folded s → u ≡ folded t → 65535 - u ≡ check_of bytes
unfolding check_of
check_is bytes p q r = rw (r, q, p)

-- ---- the checks of all blocks

-- the check that stands in a block is its data's
abbrev pub is_right : List ℕ → Bool
is_right m = eqb (check_of (take data_size m)) (high_at m data_size)

-- it is looked for in the block alone
right_in : (m : List ℕ) → is_right (take block_size m) ≡ is_right m
right_in m =
    rw (
      take-take data_size block_size m (omega arith),
      get_or-take block_size m data_size 0 (omega arith),
      get_or-take block_size m (data_size + 1) 0 (omega arith),
    )

-- the first block is right, n more are to be looked at; or it is wrong
pub right_one : (m : List ℕ) (n : ℕ) → is_right m ≡ true → any_check_wrong (suc n) m ≡ any_check_wrong n (drop block_size m)
unfolding any_check_wrong
right_one m n e = rw (e, any_check_wrong)

pub wrong_one : (m : List ℕ) (n : ℕ) → is_right m ≡ false → any_check_wrong (suc n) m ≡ true
unfolding any_check_wrong
wrong_one m n e = rw (e, any_check_wrong)

-- no block is wrong: neither the first nor one behind it
pub right_all : (m : List ℕ) (n : ℕ) → any_check_wrong (suc n) m ≡ false → (is_right m ≡ true)
    × (any_check_wrong n (drop block_size m) ≡ false)
right_all m n e = go (is_right m) refl
  where
    go : (b : Bool) → is_right m ≡ b → (is_right m ≡ true) × (any_check_wrong n (drop block_size m) ≡ false)
    go true t = (t, sym (right_one m n t) ∙ e)
    go false f = absurd (let z : ◌≡◌ {A = ℕ} 0 1 = cc (wrong_one m n f) in omega arith)

-- the same of block i, in a loop
pub checks_next : (image : List ℕ) (i n : ℕ) → is_right (take block_size (drop (block_size * i) image)) ≡ true
    → any_check_wrong (suc n) (drop (block_size * i) image) ≡ any_check_wrong n (drop (block_size * (i + 1)) image)
checks_next image i n e =
    let m : List ℕ = drop (block_size * i) image in
    let d : block_size * i + block_size ≡ block_size * (i + 1) = omega arith in
    right_one m n (sym (right_in m) ∙ e) ∙ rw (drop-drop block_size (block_size * i) image, d)

pub checks_stop : (m : List ℕ) (n : ℕ) → is_right (take block_size m) ≡ false → any_check_wrong (suc n) m ≡ true
checks_stop m n e = wrong_one m n (sym (right_in m) ∙ e)

pub checks_end : (m : List ℕ) → any_check_wrong 0 m ≡ false
unfolding any_check_wrong
checks_end m = refl
