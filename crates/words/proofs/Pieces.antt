-- Laws of pieces of one width that stand one after the other: `flat` joins them, `pieces` cuts them apart. Assumes nothing.
use mathlib.Core.Path.{◌≡◌, refl, sym, ap, ◌∙◌}
use mathlib.Core.List.{List, [], ◌∷◌, ◌++◌, map, append-nil, append_assoc}
use Prim.Native.Nat.{ℕ, zero, suc, ◌+◌, ◌*◌, ◌≤◌, ◌<◌}
use native.Mathlib.Nat.{mul-zero, mul-suc, le_of_suc-le-suc}
use native.Mathlib.Numerals.{add-one}
use native.Mathlib.Omega.{arith}
use lib.ListN.{length, get_or, set, take, drop, length-append}
use lib.Seq.{length-take-le, take-suc, take_all, take-add, take_at, drop_at, take-append-le, drop-append-add, drop-drop}
use Rattle.rules.specs.Bytes.{flat, pieces}
use Rattle.words.specs.Parts.{put_at}
use Rattle.words.proofs.Parts.{put_append, put_skip, put_in, put_all}

-- ---- joined

module _ {A : Type 0} (f : A → List ℕ) where
  pub flat_append : (xs ys : List A) → flat f (xs ++ ys) ≡ flat f xs ++ flat f ys
  unfolding flat
  flat_append [] ys = refl
  flat_append (x ∷ xs) ys = rw (flat_append xs ys) (sym (append_assoc (f x) (flat f xs) (flat f ys)))

  -- around piece i
  pub flat_split : (xs : List A) (i : ℕ) (d : A) → i < length xs
      → flat f xs ≡ flat f (take i xs) ++ (f (get_or xs i d) ++ flat f (drop (suc i) xs))
  unfolding flat
  flat_split [] i d h = absurd (omega arith)
  flat_split (a ∷ xs) zero d h = refl
  flat_split (a ∷ xs) (suc i) d h = rw (flat_split xs i d (le_of_suc-le-suc h)) (sym (append_assoc (f a) _ _))

  -- a replaced piece that has the same bytes
  pub flat_same : (xs : List A) (i : ℕ) (x d : A) → f x ≡ f (get_or xs i d) → flat f (set xs i x) ≡ flat f xs
  unfolding flat
  flat_same [] i x d e = refl
  flat_same (a ∷ xs) zero x d e = ap (λ (r : List ℕ). r ++ flat f xs) e
  flat_same (a ∷ xs) (suc i) x d e = ap (λ (r : List ℕ). f a ++ r) (flat_same xs i x d e)

module _ {A : Type 0} (f : A → List ℕ) (w : ℕ) (wide : (x : A) → length (f x) ≡ w) where
  pub length_flat : (xs : List A) → length (flat f xs) ≡ w * length xs
  unfolding flat
  length_flat [] = omega arith
  length_flat (x ∷ xs) = rw (length-append, wide, length_flat xs, mul-suc) (omega arith)

  -- a turn of the loop that writes them
  pub put_more : (m : List ℕ) (at : ℕ) (xs : List A) (k : ℕ) (d : A) → k < length xs
      → put_at (put_at m at (flat f (take k xs))) (at + w * k) (f (get_or xs k d)) ≡ put_at m at (flat f (take (k + 1) xs))
  unfolding flat
  put_more m at xs k d h =
      let e : length (flat f (take k xs)) ≡ w * k = rw (length_flat, length-take-le k xs (omega arith)) in
      rw (add-one, take-suc xs k d h, flat_append f, append-nil, put_append, e)

  -- piece i is replaced
  pub put_flat : (xs : List A) (i : ℕ) (x : A) → i < length xs → put_at (flat f xs) (w * i) (f x) ≡ flat f (set xs i x)
  unfolding flat
  put_flat [] i x h = absurd (omega arith)
  put_flat (a ∷ xs) zero x h =
      let l : 0 + length (f x) ≤ length (f a) = rw (wide x, wide a) (omega arith) in
      rw (mul-zero, put_in (f a) (flat f xs) 0 (f x) l, put_all (f a) (f x) (wide x ∙ sym (wide a)))
  put_flat (a ∷ xs) (suc i) x h =
      let e : w * suc i ≡ length (f a) + w * i = rw (mul-suc, wide a) (omega arith) in
      rw (e, put_skip) (ap (λ (r : List ℕ). f a ++ r) (put_flat xs i x (le_of_suc-le-suc h)))

  -- piece i is read
  pub cut_flat : (xs : List A) (i : ℕ) (d : A) (t : List ℕ) → i < length xs
      → take w (drop (w * i) (flat f xs ++ t)) ≡ f (get_or xs i d)
  unfolding flat
  cut_flat [] i d t h = absurd (omega arith)
  cut_flat (a ∷ xs) zero d t h =
      let l : w ≤ length (f a) = rw (wide a) (omega arith) in
      rw (mul-zero, append_assoc, take-append-le w (f a) (flat f xs ++ t) l) (take_all w (f a) (rw (wide a) (omega arith)))
  cut_flat (a ∷ xs) (suc i) d t h =
      let e : w * suc i ≡ length (f a) + w * i = rw (mul-suc, wide a) (omega arith) in
      rw (e, append_assoc, drop-append-add) (cut_flat xs i d t (le_of_suc-le-suc h))

  -- joined and cut apart, they are the same pieces
  pub pieces_flat : (xs : List A) (t : List ℕ) → pieces (length xs) w (flat f xs ++ t) ≡ map f xs
  unfolding flat pieces
  pieces_flat [] t = refl
  pieces_flat (a ∷ xs) t =
      rw (append_assoc, take_at (f a) (flat f xs ++ t) w (wide a), drop_at (f a) (flat f xs ++ t) w (wide a))
      (ap (λ (r : List (List ℕ)). f a ∷ r) (pieces_flat xs t))

-- ---- cut apart

pub length_pieces : (n w : ℕ) (m : List ℕ) → length (pieces n w m) ≡ n
unfolding pieces
length_pieces zero w m = refl
length_pieces (suc n) w m = ap suc (length_pieces n w (drop w m))

pub get_d_pieces : (n w : ℕ) (m : List ℕ) (i : ℕ) → i < n → get_or (pieces n w m) i [] ≡ take w (drop (w * i) m)
unfolding pieces
get_d_pieces zero w m i h = absurd (omega arith)
get_d_pieces (suc n) w m zero h = rw mul-zero
get_d_pieces (suc n) w m (suc i) h =
    let e : w + w * i ≡ w * suc i = rw mul-suc (omega arith) in
    get_d_pieces n w (drop w m) i (le_of_suc-le-suc h) ∙ rw (drop-drop (w * i) w m, e)

-- cut apart and joined, they are the same bytes
pub flat_pieces : (n w : ℕ) (m : List ℕ) → flat (λ (p : List ℕ). p) (pieces n w m) ≡ take (w * n) m
unfolding flat pieces
flat_pieces zero w m = rw mul-zero
flat_pieces (suc n) w m =
    let e : w * suc n ≡ w + w * n = rw mul-suc (omega arith) in
    rw (flat_pieces n w (drop w m), e, take-add w (w * n) m)
