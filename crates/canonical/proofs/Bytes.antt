-- Laws of lists of bytes and of parts of lists, which hold for any memory: a part of bytes is bytes, a number in bytes fits its width, two
-- equal lists cut at the same place are equal in both parts, and a list of pieces joined is another list exactly if each piece is its part.
-- Assumes nothing.
use mathlib.Core.Path.{◌≡◌, sym, ap, ◌∙◌}
use mathlib.Core.List.{List, [], ◌∷◌, ◌++◌, map}
use Prim.Native.Nat.{ℕ, zero, suc, ◌+◌, ◌-◌, ◌*◌, ◌^◌, ◌≤◌, ◌<◌}
use native.Mathlib.Nat.{pow-succ', mul-zero, mul-suc}
use native.Mathlib.Omega.{arith}
use lib.ListN.{length, get_or, take, drop, length-drop, length-map, take-append-drop, get_or-map}
use lib.Seq.{get_or-take, get_or-drop, length-take-le, take_at, drop_at, take-add, drop-drop, ext_get_or}
use Rattle.rules.specs.Bytes.{number_at, flat}
use Rattle.words.specs.Parts.{Bytes}
use Rattle.words.proofs.Pieces.{cut_flat}
use Rattle.canonical.specs.Canonical.{part}

-- ---- bytes

pub bytes_take : (n : ℕ) (m : List ℕ) → Bytes m → Bytes (take n m)
bytes_take zero m b j = omega arith
bytes_take (suc n) [] b j = omega arith
bytes_take (suc n) (x ∷ m) b zero = b 0
bytes_take (suc n) (x ∷ m) b (suc j) = bytes_take n m (λ i. b (suc i)) j

pub bytes_drop : (n : ℕ) (m : List ℕ) → Bytes m → Bytes (drop n m)
bytes_drop n m b j = rw (get_or-drop n m j 0) (b (n + j))

pub number_fits : (k : ℕ) (m : List ℕ) (at : ℕ) → Bytes m → number_at k m at < 256 ^ k
number_fits zero m at b = omega arith
number_fits (suc k) m at b = omega (arith, b at, number_fits k m (at + 1) b, pow-succ' 256 k)

-- ---- parts

-- a part has its length, where the list is long enough
pub length_part : (at n : ℕ) (m : List ℕ) → at + n ≤ length m → length (take n (drop at m)) ≡ n
length_part at n m h = length-take-le n (drop at m) (rw (length-drop at m) (omega arith))

-- the part that a slice of the code is
pub part_is : (at n : ℕ) (m : List ℕ) → part at (at + n) m ≡ take n (drop at m)
part_is at n m = let e : at + n - at ≡ n = omega arith in ap (λ (k : ℕ). take k (drop at m)) e

-- what is the memory from a place on, cut into a part and the rest
pub cut_off : (at n : ℕ) (a b m : List ℕ) → length a ≡ n → a ++ b ≡ drop at m → (a ≡ take n (drop at m)) × (b ≡ drop (at + n) m)
cut_off at n a b m l e = (sym (take_at a b n l) ∙ ap (take n) e, sym (drop_at a b n l) ∙ ap (drop n) e ∙ drop-drop n at m)

-- a part and what stands behind it
pub cut_at : (at n : ℕ) (m : List ℕ) → drop at m ≡ take n (drop at m) ++ drop (at + n) m
cut_at at n m = sym (take-append-drop n (drop at m)) ∙ ap (λ (r : List ℕ). take n (drop at m) ++ r) (drop-drop n at m)

-- ---- pieces joined

module _ {A : Type 0} (f : A → List ℕ) (w : ℕ) (wide : (x : A) → length (f x) ≡ w) (d : A) where
  -- each piece is its part of the bytes: so are all of them together
  pub flat_from : (xs : List A) (m : List ℕ) → ((i : ℕ) → i < length xs → f (get_or xs i d) ≡ take w (drop (w * i) m))
      → flat f xs ≡ take (w * length xs) m
  unfolding flat
  flat_from [] m h = rw (mul-zero w)
  flat_from (x ∷ xs) m h =
      let first : f x ≡ take w m = h 0 (omega arith) ∙ rw (mul-zero w) in
      let e : w * suc (length xs) ≡ w + w * length xs = rw (mul-suc w (length xs)) (omega arith) in
      rw (e, take-add w (w * length xs) m, first) (ap (λ (r : List ℕ). take w m ++ r) (flat_from xs (drop w m) (λ i l. rest i l)))
    where
      rest : (i : ℕ) → i < length xs → f (get_or xs i d) ≡ take w (drop (w * i) (drop w m))
      rest i l =
          let e : w * suc i ≡ w + w * i = rw (mul-suc w i) (omega arith) in
          h (suc i) (omega arith) ∙ rw (e, drop-drop (w * i) w m)

  -- and all together are the bytes: so is each
  pub flat_at : (xs : List A) (m : List ℕ) → flat f xs ≡ take (w * length xs) m → (i : ℕ) → i < length xs
      → f (get_or xs i d) ≡ take w (drop (w * i) m)
  flat_at xs m e i h =
      let n : ℕ = w * length xs in
      sym (cut_flat f w wide xs i d (drop n m) h)
      ∙ ap (λ (r : List ℕ). take w (drop (w * i) (r ++ drop n m))) e
      ∙ ap (λ (r : List ℕ). take w (drop (w * i) r)) (take-append-drop n m)

-- the same for one byte of each
module _ {A : Type 0} (f : A → ℕ) (d : A) (none : f d ≡ 0) (xs : List A) (m : List ℕ) (fits : length xs ≤ length m) where
  pub map_from : ((i : ℕ) → i < length xs → f (get_or xs i d) ≡ get_or m i 0) → map f xs ≡ take (length xs) m
  map_from h = ext_get_or 0 (map f xs) (take (length xs) m) (length-map xs f ∙ sym (length-take-le (length xs) m fits)) at_each
    where
      at_each : (i : ℕ) → i < length (map f xs) → get_or (map f xs) i 0 ≡ get_or (take (length xs) m) i 0
      at_each i l =
          let k : i < length xs = rw (length-map xs f) at l in
          ap (get_or (map f xs) i) (sym none) ∙ get_or-map f xs i d ∙ h i k ∙ sym (get_or-take (length xs) m i 0 k)

  pub map_at : map f xs ≡ take (length xs) m → (i : ℕ) → i < length xs → f (get_or xs i d) ≡ get_or m i 0
  map_at e i l =
      sym (get_or-map f xs i d) ∙ ap (get_or (map f xs) i) none ∙ ap (λ (r : List ℕ). get_or r i 0) e ∙ get_or-take (length xs) m i 0 l
