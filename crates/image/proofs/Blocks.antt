-- Data in blocks and back: the data of written blocks is the data and their checks are right; an image whose checks are right is the blocks
-- of its data. Assumes nothing.
use mathlib.Core.Path.{◌≡◌, refl, sym, ap, ◌∙◌}
use mathlib.Core.Bool.{true, false}
use mathlib.Core.List.{List, [], ◌∷◌, ◌++◌, append_assoc}
use Prim.Native.Nat.{ℕ, zero, suc, ◌+◌, ◌*◌, ◌/◌, ◌%◌, ◌≤◌, ◌<◌}
use native.Mathlib.Omega.{arith}
use borrow.Author.Tests.{eq-eqb, eqb-true}
use lib.ListN.{length, get_or, take, drop, length-drop, take-append-drop}
use lib.Seq.{length-take-le, take_at, drop_at, get_or-append-add, take-add, drop-cons, get_or-drop}
use Rattle.words.specs.Parts.{high_at, Bytes}
use Rattle.rules.specs.Image.{block_size, data_size, check_of, block, blocks, any_check_wrong, data_in}
use Rattle.image.proofs.Checks.{is_right, right_one, right_all}
use Rattle.image.proofs.Writes.{length_block}

-- ---- a block in front of others

module _ (bytes rest : List ℕ) (size : length bytes ≡ data_size) where
  pub block_front : take data_size (block bytes ++ rest) ≡ bytes
  unfolding block
  block_front = rw append_assoc (take_at bytes _ data_size size)

  pub block_behind : drop block_size (block bytes ++ rest) ≡ rest
  block_behind = drop_at (block bytes) rest block_size (length_block bytes size)

  block_check : high_at (block bytes ++ rest) data_size ≡ check_of bytes
  unfolding block
  block_check =
      let c : ℕ = check_of bytes in
      let two : List ℕ = (c / 256 ∷ c % 256 ∷ []) ++ rest in
      let at : (k : ℕ) → get_or (bytes ++ two) (data_size + k) 0 ≡ get_or two k 0
      = λ k. ap (λ (n : ℕ). get_or (bytes ++ two) (n + k) 0) (sym size) ∙ get_or-append-add bytes two k 0 in
      let h : get_or (bytes ++ two) data_size 0 ≡ c / 256 = at 0 in
      let l : get_or (bytes ++ two) (data_size + 1) 0 ≡ c % 256 = at 1 in
      rw append_assoc (omega (arith, h, l))

  pub block_right : is_right (block bytes ++ rest) ≡ true
  block_right = eq-eqb _ _ (ap check_of block_front ∙ sym block_check)

-- ---- written and read

pub data_blocks : (n : ℕ) (bytes : List ℕ) → length bytes ≡ data_size * n → data_in n (blocks n bytes) ≡ bytes
unfolding data_in blocks
data_blocks zero [] h = refl
data_blocks zero (b ∷ bytes) h = absurd (omega arith)
data_blocks (suc n) bytes h =
    let size : length (take data_size bytes) ≡ data_size = length-take-le data_size bytes (omega arith) in
    let more : length (drop data_size bytes) ≡ data_size * n = rw length-drop (omega arith) in
    let rest : List ℕ = blocks n (drop data_size bytes) in
    rw (
      block_front (take data_size bytes) rest size,
      block_behind (take data_size bytes) rest size,
      data_blocks
          n (drop data_size bytes) more,
    )
    (take-append-drop data_size bytes)

pub checks_blocks : (n : ℕ) (bytes : List ℕ) → length bytes ≡ data_size * n → any_check_wrong n (blocks n bytes) ≡ false
unfolding blocks any_check_wrong
checks_blocks zero bytes h = refl
checks_blocks (suc n) bytes h =
    let size : length (take data_size bytes) ≡ data_size = length-take-le data_size bytes (omega arith) in
    let more : length (drop data_size bytes) ≡ data_size * n = rw length-drop (omega arith) in
    let rest : List ℕ = blocks n (drop data_size bytes) in
    right_one (block (take data_size bytes) ++ rest) n (block_right (take data_size bytes) rest size)
    ∙ rw (block_behind (take data_size bytes) rest size) (checks_blocks n (drop data_size bytes) more)

-- ---- read and written

-- the check of a right block is its last two bytes
block_same : (m : List ℕ) → Bytes m → block_size ≤ length m → is_right m ≡ true → block (take data_size m) ≡ take block_size m
unfolding block
block_same m byte h e =
    let c : check_of (take data_size m) ≡ high_at m data_size = eqb-true (check_of (take data_size m)) (high_at m data_size) e in
    let high : get_or m data_size 0 < 256 = byte data_size in
    let low : get_or m (data_size + 1) 0 < 256 = byte (data_size + 1) in
    let q : check_of (take data_size m) / 256 ≡ get_or m data_size 0 = omega arith in
    let r : check_of (take data_size m) % 256 ≡ get_or m (data_size + 1) 0 = omega arith in
    let two : take 2 (drop data_size m) ≡ get_or m data_size 0 ∷ get_or m (data_size + 1) 0 ∷ []
    = rw (drop-cons m data_size 0 (omega arith), drop-cons m (data_size + 1) 0 (omega arith)) in
    rw (q, r, take-add data_size 2 m, two)

bytes_drop : (n : ℕ) (m : List ℕ) → Bytes m → Bytes (drop n m)
bytes_drop n m byte j = rw (get_or-drop n m j 0) (byte (n + j))

pub blocks_data : (n : ℕ) (image : List ℕ) → Bytes image → block_size * n ≡ length image → any_check_wrong n image ≡ false
    → blocks n (data_in n image) ≡ image
unfolding data_in blocks
blocks_data zero [] byte h e = refl
blocks_data zero (b ∷ image) byte h e = absurd (omega arith)
blocks_data (suc n) image byte h e =
    let right = right_all image n e in
    let size : length (take data_size image) ≡ data_size = length-take-le data_size image (omega arith) in
    let rest : List ℕ = drop block_size image in
    let more : block_size * n ≡ length rest = rw length-drop (omega arith) in
    rw (
      take_at (take data_size image) (data_in n rest) data_size size,
      drop_at (take data_size image) (data_in n rest) data_size size,
      block_same image byte (omega arith) right.0,
      blocks_data n rest (bytes_drop block_size image byte) more right.1,
    )
    (take-append-drop block_size image)
