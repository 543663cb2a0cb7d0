-- Laws of `pad`, a list in a fixed length with one element behind it. Assumes nothing.
use mathlib.Core.Path.{◌≡◌, refl, sym, ap, ◌∙◌}
use mathlib.Core.List.{List, [], ◌∷◌, ◌++◌}
use Prim.Native.Nat.{ℕ, zero, suc, ◌+◌, ◌≤◌, ◌<◌}
use native.Mathlib.Nat.{zero-add, suc-add, suc_inj, le_of_suc-le-suc}
use native.Mathlib.Omega.{arith}
use lib.ListN.{length, get_or, take, drop, replicate}
use lib.Seq.{drop-nil}
use Rattle.rules.specs.Bytes.{pad}
use Rattle.words.specs.Parts.{put_at}
use Rattle.words.proofs.Parts.{put_skip, put_front}

module _ {A : Type 0} where
  pub length_pad : (n : ℕ) (z : A) (xs : List A) → length (pad n z xs) ≡ n
  unfolding pad
  length_pad zero z xs = refl
  length_pad (suc n) z [] = ap suc (length_pad n z [])
  length_pad (suc n) z (x ∷ xs) = ap suc (length_pad n z xs)

  pub get_d_pad : (n : ℕ) (z : A) (xs : List A) (i : ℕ) → i < n → get_or (pad n z xs) i z ≡ get_or xs i z
  unfolding pad
  get_d_pad zero z xs i h = absurd (omega arith)
  get_d_pad (suc n) z [] zero h = refl
  get_d_pad (suc n) z [] (suc i) h = get_d_pad n z [] i (le_of_suc-le-suc h)
  get_d_pad (suc n) z (x ∷ xs) zero h = refl
  get_d_pad (suc n) z (x ∷ xs) (suc i) h = get_d_pad n z xs i (le_of_suc-le-suc h)

  -- what holds of z and of every element holds of every element after padding
  pub pad_all : (P : A → Type 0) (n : ℕ) (z : A) (xs : List A) → P z → ((j : ℕ) → P (get_or xs j z))
      → (j : ℕ) → P (get_or (pad n z xs) j z)
  unfolding pad
  pad_all P zero z xs pz h j = pz
  pad_all P (suc n) z [] pz h zero = pz
  pad_all P (suc n) z [] pz h (suc j) = pad_all P n z [] pz (λ k. pz) j
  pad_all P (suc n) z (x ∷ xs) pz h zero = h 0
  pad_all P (suc n) z (x ∷ xs) pz h (suc j) = pad_all P n z xs pz (λ k. h (suc k)) j

  -- nothing, padded, is the element n times
  pub replicated : (n : ℕ) (z : A) → replicate n z ≡ pad n z []
  unfolding pad
  replicated zero z = refl
  replicated (suc n) z = ap (λ (r : List A). z ∷ r) (replicated n z)

  -- a list of that length is itself
  pub pad_same : (n : ℕ) (z : A) (xs : List A) → length xs ≡ n → pad n z xs ≡ xs
  unfolding pad
  pad_same zero z [] e = refl
  pad_same (suc n) z (x ∷ xs) e = ap (λ (r : List A). x ∷ r) (pad_same n z xs (suc_inj e))
  pad_same zero z (x ∷ xs) e = absurd (omega arith)
  pad_same (suc n) z [] e = absurd (omega arith)

  -- the first k of a padded list, and what is behind them
  pub take_pad : (k n : ℕ) (z : A) (xs : List A) → take k (pad (k + n) z xs) ≡ pad k z xs
  unfolding pad
  take_pad zero n z xs = refl
  take_pad (suc k) n z [] = rw (suc-add k n) (ap (λ (r : List A). z ∷ r) (take_pad k n z []))
  take_pad (suc k) n z (x ∷ xs) = rw (suc-add k n) (ap (λ (r : List A). x ∷ r) (take_pad k n z xs))

  pub drop_pad : (k n : ℕ) (z : A) (xs : List A) → drop k (pad (k + n) z xs) ≡ pad n z (drop k xs)
  unfolding pad
  drop_pad zero n z xs = rw zero-add
  drop_pad (suc k) n z [] = rw (suc-add k n) (drop_pad k n z [] ∙ ap (λ (r : List A). pad n z r) (drop-nil k))
  drop_pad (suc k) n z (x ∷ xs) = rw (suc-add k n) (drop_pad k n z xs)

-- a list written at the front of zeros
pub put_pad : (n : ℕ) (xs : List ℕ) → length xs ≤ n → put_at (pad n 0 []) 0 xs ≡ pad n 0 xs
unfolding pad
put_pad n [] h = refl
put_pad zero (x ∷ xs) h = absurd (omega arith)
put_pad (suc n) (x ∷ xs) h =
    put_skip (x ∷ []) (pad n 0 []) 0 xs ∙ ap (λ (r : List ℕ). x ∷ r) (put_pad n xs (le_of_suc-le-suc h))

-- zeros written at the front
pub put_zeros : (m : List ℕ) (n : ℕ) {zeros : List ℕ} → n ≤ length m → zeros ≡ replicate n 0
    → zeros ++ drop n m ≡ put_at m 0 (pad n 0 [])
put_zeros m n h e =
    let padded : List ℕ = pad n 0 [] in
    let l : length padded ≡ n = length_pad {A = ℕ} n 0 [] in
    let f : length padded ≤ length m = omega arith in
    ap (λ (r : List ℕ). r ++ drop n m) (e ∙ replicated n 0) ∙ ap (λ (k : ℕ). padded ++ drop k m) (sym l) ∙ sym (put_front m padded f)
