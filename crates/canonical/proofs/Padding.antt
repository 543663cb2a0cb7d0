-- Laws of zeros behind what is in use: cells read from bytes, of which the first k are in use, are written to the same bytes exactly if
-- the bytes behind the first k cells are zero. One law for values, for queue cells and for code. Assumes nothing.
use mathlib.Core.Path.{◌≡◌, refl, sym, ap, ◌∙◌, subst}
use mathlib.Core.Bool.{Bool, true}
use mathlib.Core.List.{List, [], ◌∷◌, ◌++◌, map}
use Prim.Native.Nat.{ℕ, zero, suc, ◌+◌, ◌*◌, ◌≤◌, ◌<◌}
use native.Mathlib.Nat.{zero-add, suc-add, mul-zero, mul-suc, le_of_suc-le-suc}
use native.Mathlib.Omega.{arith}
use lib.ListN.{length, get_or, take, drop, length-drop}
use lib.Seq.{length-take-le, take-add, drop_at}
use lib.Dec.{eqb}
use lib.Bits.{bit_or, or_add_and, and_le_l, and_le_r}
use borrow.Author.Tests.{eqb-true, eq-eqb}
use Rattle.rules.specs.Bytes.{flat, pad, pieces}
use Rattle.rules.specs.EndStep.{only_if}
use Rattle.rules.specs.SoundTest.{all}
use Rattle.rules.proofs.TestLaws.{both, left_of, right_of}
use Rattle.words.specs.Parts.{Bytes}
use Rattle.words.proofs.Pieces.{flat_append}
use Rattle.canonical.specs.Canonical.{is_zero, all_zero}
use Rattle.canonical.proofs.Tests.{same_test, all_more}
use Rattle.canonical.proofs.Bytes.{bytes_take, bytes_drop, length_part}

-- ---- zeros

pub all_zero_read : (l : List ℕ) → all_zero l ≡ true → l ≡ pad (length l) 0 []
unfolding all_zero all pad
all_zero_read [] h = refl
all_zero_read (x ∷ xs) h =
    let first = eqb-true x 0 (left_of (eqb x 0) (all is_zero xs) h) in
    let rest = all_zero_read xs (right_of (eqb x 0) (all is_zero xs) h) in
    λ i. first i ∷ rest i

pub all_zero_write : (n : ℕ) → all_zero (pad n 0 []) ≡ true
unfolding all_zero all pad
all_zero_write zero = refl
all_zero_write (suc n) = all_zero_write n

-- a loop that joins bytes by or: before it, and after a turn
pub all_zero_none : true ≡ all_zero []
unfolding all_zero all
all_zero_none = refl

or_zero : (a b : ℕ) → eqb (bit_or a b) 0 ≡ only_if (eqb a 0) (eqb b 0)
or_zero a b = same_test (eqb (bit_or a b) 0) (only_if (eqb a 0) (eqb b 0)) forth back
  where
    forth : eqb (bit_or a b) 0 ≡ true → only_if (eqb a 0) (eqb b 0) ≡ true
    forth h =
        let none : bit_or a b ≡ 0 = eqb-true (bit_or a b) 0 h in
        let sum = or_add_and a b in
        let left = and_le_l a b in
        let right = and_le_r a b in
        both (eq-eqb a 0 (omega arith)) (eq-eqb b 0 (omega arith))

    back : only_if (eqb a 0) (eqb b 0) ≡ true → eqb (bit_or a b) 0 ≡ true
    back h =
        let none : a ≡ 0 = eqb-true a 0 (left_of (eqb a 0) (eqb b 0) h) in
        let none' : b ≡ 0 = eqb-true b 0 (right_of (eqb a 0) (eqb b 0) h) in
        let sum = or_add_and a b in
        eq-eqb (bit_or a b) 0 (omega arith)

pub all_zero_more : (a : ℕ) (l : List ℕ) (i : ℕ) → i < length l → eqb a 0 ≡ all_zero (take i l)
    → eqb (bit_or a (get_or l i 0)) 0 ≡ all_zero (take (i + 1) l)
unfolding all_zero
all_zero_more a l i h e =
    or_zero a (get_or l i 0) ∙ ap (λ (t : Bool). only_if t (eqb (get_or l i 0) 0)) e ∙ sym (all_more is_zero l i 0 h)

pad_pad : {A : Type 0} (n k : ℕ) (z : A) → pad n z [] ++ pad k z [] ≡ pad (n + k) z []
unfolding pad
pad_pad zero k z = rw (zero-add k)
pad_pad (suc n) k z = rw (suc-add n k) (ap (λ (r : List _). z ∷ r) (pad_pad n k z))

-- the first k of a list, with j behind them
pub pad_first : {A : Type 0} (k j : ℕ) (z : A) (xs : List A) → k ≤ length xs → pad (k + j) z (take k xs) ≡ take k xs ++ pad j z []
unfolding pad
pad_first zero j z xs h = rw (zero-add j)
pad_first (suc k) j z [] h = absurd (omega arith)
pad_first (suc k) j z (x ∷ xs) h = rw (suc-add k j) (ap (λ (r : List _). x ∷ r) (pad_first k j z xs (le_of_suc-le-suc h)))

-- ---- bytes that are zero behind the first n

module _ (n j : ℕ) (m : List ℕ) (fits : n + j ≤ length m) where
  pub zeros_behind : all_zero (take j (drop n m)) ≡ true → take n m ++ pad j 0 [] ≡ take (n + j) m
  zeros_behind h =
      let behind : take j (drop n m) ≡ pad j 0 [] = all_zero_read (take j (drop n m)) h
      ∙ ap (λ (k : ℕ). pad k 0 []) (length_part n j m fits) in
      sym (take-add n j m ∙ ap (λ (r : List ℕ). take n m ++ r) behind)

  pub behind_zeros : take n m ++ pad j 0 [] ≡ take (n + j) m → all_zero (take j (drop n m)) ≡ true
  behind_zeros e =
      let long : length (take n m) ≡ n = length-take-le n m (omega arith) in
      let behind : pad j 0 [] ≡ take j (drop n m) =
      sym (drop_at (take n m) (pad j 0 []) n long) ∙ ap (drop n) (e ∙ take-add n j m) ∙ drop_at (take n m) (take j (drop n m)) n long in
      subst (λ (r : List ℕ). all_zero r ≡ true) behind (all_zero_write j)

-- the first k bytes padded are the first n exactly if those between are zero
module _ (k j n : ℕ) (e : k + j ≡ n) (m : List ℕ) (fits : n ≤ length m) where
  first_is : pad n 0 (take k m) ≡ take k m ++ pad j 0 []
  first_is = subst (λ (i : ℕ). pad i 0 (take k m) ≡ take k m ++ pad j 0 []) e (pad_first k j 0 m (omega arith))

  pub first_from : all_zero (take j (drop k m)) ≡ true → pad n 0 (take k m) ≡ take n m
  first_from h = first_is ∙ zeros_behind k j m (omega arith) h ∙ ap (λ (i : ℕ). take i m) e

  pub first_to : pad n 0 (take k m) ≡ take n m → all_zero (take j (drop k m)) ≡ true
  first_to h = behind_zeros k j m (omega arith) (sym first_is ∙ h ∙ ap (λ (i : ℕ). take i m) (sym e))

-- ---- cells: f writes one in w bytes, g reads one, z is written as zeros

module _ {A : Type 0} (f : A → List ℕ) (w : ℕ) (z : A) (none : f z ≡ pad w 0 []) (g : List ℕ → A)
    (back : (p : List ℕ) → Bytes p → length p ≡ w → f (g p) ≡ p) where
  pub flat_none : (j : ℕ) → flat f (pad j z []) ≡ pad (w * j) 0 []
  unfolding flat pad
  flat_none zero = rw (mul-zero w)
  flat_none (suc j) =
      let e : w * suc j ≡ w + w * j = rw (mul-suc w j) (omega arith) in
      rw (e, none, flat_none j) (pad_pad w (w * j) 0)

  pub flat_cells : (k : ℕ) (m : List ℕ) → Bytes m → w * k ≤ length m → flat f (map g (pieces k w m)) ≡ take (w * k) m
  unfolding flat pieces
  flat_cells zero m b h = rw (mul-zero w)
  flat_cells (suc k) m b h =
      let e : w * suc k ≡ w + w * k = rw (mul-suc w k) (omega arith) in
      let l : w + w * k ≤ length m = rw e at h in
      let first : f (g (take w m)) ≡ take w m = back (take w m) (bytes_take w m b) (length-take-le w m (omega arith)) in
      let rest = flat_cells k (drop w m) (bytes_drop w m b) (rw (length-drop w m) (omega arith)) in
      rw (first, rest, e, take-add w (w * k) m)

  take_cells : (k j : ℕ) (m : List ℕ) → take k (map g (pieces (k + j) w m)) ≡ map g (pieces k w m)
  unfolding pieces
  take_cells zero j m = refl
  take_cells (suc k) j m = rw (suc-add k j) (ap (λ (r : List A). g (take w m) ∷ r) (take_cells k j (drop w m)))

  length_cells : (n : ℕ) (m : List ℕ) → length (map g (pieces n w m)) ≡ n
  unfolding pieces
  length_cells zero m = refl
  length_cells (suc n) m = ap suc (length_cells n (drop w m))

  -- the first k cells, with j cells of zeros behind them
  pub flat_padded : (k j : ℕ) (m : List ℕ) → Bytes m → w * k ≤ length m
      → flat f (pad (k + j) z (take k (map g (pieces (k + j) w m)))) ≡ take (w * k) m ++ pad (w * j) 0 []
  flat_padded k j m b h =
      let cells = map g (pieces (k + j) w m) in
      let long : k ≤ length cells = rw (length_cells (k + j) m) (omega arith) in
      ap (flat f) (pad_first k j z cells long)
      ∙ flat_append f (take k cells) (pad j z [])
      ∙ (λ i. flat f (take_cells k j m i) ++ flat_none j i)
      ∙ ap (λ (r : List ℕ). r ++ pad (w * j) 0 []) (flat_cells k m b h)

  -- the cells are written to the same bytes if the bytes behind the first k are zero, and only then
  module _ (k j n : ℕ) (e : k + j ≡ n) (m : List ℕ) (b : Bytes m) (fits : w * n ≤ length m) where
    padded_is : flat f (pad n z (take k (map g (pieces n w m)))) ≡ take (w * k) m ++ pad (w * j) 0 []
    padded_is =
        let l : w * k + w * j ≤ length m = omega (arith, ap (λ (i : ℕ). w * i) e) in
        subst (λ (i : ℕ). flat f (pad i z (take k (map g (pieces i w m)))) ≡ take (w * k) m ++ pad (w * j) 0 []) e
        (flat_padded k j m b (omega arith))

    whole : w * k + w * j ≡ w * n
    whole = omega (arith, ap (λ (i : ℕ). w * i) e)

    pub cells_from : all_zero (take (w * j) (drop (w * k) m)) ≡ true → flat f (pad n z (take k (map g (pieces n w m)))) ≡ take (w * n) m
    cells_from h =
        padded_is ∙ zeros_behind (w * k) (w * j) m (omega (arith, whole)) h ∙ ap (λ (i : ℕ). take i m) whole

    pub cells_to : flat f (pad n z (take k (map g (pieces n w m)))) ≡ take (w * n) m → all_zero (take (w * j) (drop (w * k) m)) ≡ true
    cells_to h =
        behind_zeros (w * k) (w * j) m (omega (arith, whole)) (sym padded_is ∙ h ∙ ap (λ (i : ℕ). take i m) (sym whole))
