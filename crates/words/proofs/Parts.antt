-- Laws of `put_at`: two writes are one, a write past a part, within it, over all of it, and what a write leaves. No law looks at what is
-- written. Assumes nothing.
use mathlib.Core.Path.{◌≡◌, refl, sym, ap, ◌∙◌}
use mathlib.Core.List.{List, [], ◌∷◌, ◌++◌}
use Prim.Native.Nat.{ℕ, suc, ◌+◌, ◌-◌, ◌≤◌, ◌<◌}
use native.Mathlib.Nat.{add-zero, zero-add, add_assoc, suc-add, suc_inj}
use native.Mathlib.Numerals.{add-one}
use native.Mathlib.Omega.{arith}
use lib.ListN.{length, get_or, set, take, drop, length-set, length-drop, take-append-drop}
use lib.Seq.{set-append_left, take-suc, length-take-le, drop-drop}
use borrow.Rule.Slice.PartMut.{put_mid}
use Rattle.words.specs.Parts.{put_at}

pub length_put : (m : List ℕ) (at : ℕ) (bytes : List ℕ) → length (put_at m at bytes) ≡ length m
length_put m at [] = refl
length_put m at (b ∷ bytes) = length_put (set m at b) (at + 1) bytes ∙ length-set m at b

-- two writes, one behind the other, are one
pub put_append : (m : List ℕ) (at : ℕ) (xs ys : List ℕ) → put_at m at (xs ++ ys) ≡ put_at (put_at m at xs) (at + length xs) ys
put_append m at [] ys = rw add-zero
put_append m at (x ∷ xs) ys =
    let e : at + 1 + length xs ≡ at + suc (length xs) = omega arith in
    rw (← e) (put_append (set m at x) (at + 1) xs ys)

set_skip : (x m : List ℕ) (o b : ℕ) → set (x ++ m) (length x + o) b ≡ x ++ set m o b
set_skip [] m o b = rw zero-add
set_skip (y ∷ x) m o b = rw suc-add (ap (λ (r : List ℕ). y ∷ r) (set_skip x m o b))

-- a write past the first part
pub put_skip : (x m : List ℕ) (o : ℕ) (bytes : List ℕ) → put_at (x ++ m) (length x + o) bytes ≡ x ++ put_at m o bytes
put_skip x m o [] = refl
put_skip x m o (b ∷ bytes) = rw (set_skip x m o b, add_assoc) (put_skip x (set m o b) (o + 1) bytes)

-- a write within the first part
pub put_in : (x m : List ℕ) (o : ℕ) (bytes : List ℕ) → o + length bytes ≤ length x → put_at (x ++ m) o bytes ≡ put_at x o bytes ++ m
put_in x m o [] h = refl
put_in x m o (b ∷ bytes) h =
    let k : o < length x = omega arith in
    let l : o + 1 + length bytes ≤ length (set x o b) = rw length-set (omega arith) in
    rw (set-append_left x m o b k) (put_in (set x o b) m (o + 1) bytes l)

-- a write over all
pub put_all : (x bytes : List ℕ) → length bytes ≡ length x → put_at x 0 bytes ≡ bytes
put_all [] [] h = refl
put_all (y ∷ x) (b ∷ bytes) h = put_skip (b ∷ []) x 0 bytes ∙ ap (λ (r : List ℕ). b ∷ r) (put_all x bytes (suc_inj h))
put_all [] (b ∷ bytes) h = absurd (omega arith)
put_all (y ∷ x) [] h = absurd (omega arith)

-- a write from the start on leaves what stands behind
pub put_front : (m bytes : List ℕ) → length bytes ≤ length m → put_at m 0 bytes ≡ bytes ++ drop (length bytes) m
put_front m bytes h =
    let n : ℕ = length bytes in
    let e : length (take n m) ≡ n = length-take-le n m h in
    let l : 0 + length bytes ≤ length (take n m) = rw e (omega arith) in
    ap (λ (r : List ℕ). put_at r 0 bytes) (sym (take-append-drop n m))
    ∙ put_in (take n m) (drop n m) 0 bytes l
    ∙ ap (λ (r : List ℕ). r ++ drop n m) (put_all (take n m) bytes (sym e))

-- a write leaves what stands before and behind
pub put_split : (m : List ℕ) (at : ℕ) (bytes : List ℕ) → at + length bytes ≤ length m
    → put_at m at bytes ≡ take at m ++ (bytes ++ drop (at + length bytes) m)
put_split m at bytes h =
    let e : length (take at m) ≡ at = length-take-le at m (omega arith) in
    let l : length bytes ≤ length (drop at m) = rw length-drop (omega arith) in
    let p : at ≡ length (take at m) + 0 = rw e (omega arith) in
    ap (λ (r : List ℕ). put_at r at bytes) (sym (take-append-drop at m))
    ∙ ap (λ (k : ℕ). put_at (take at m ++ drop at m) k bytes) p
    ∙ put_skip (take at m) (drop at m) 0 bytes
    ∙ ap (λ (r : List ℕ). take at m ++ r) (put_front (drop at m) bytes l)
    ∙ ap (λ (r : List ℕ). take at m ++ (bytes ++ r)) (drop-drop (length bytes) at m)

-- what a slice holds once its part from `at` on has been overwritten by as many bytes
pub put_middle : (m : List ℕ) (at : ℕ) (bytes : List ℕ) {ys : List ℕ} → at + length bytes ≤ length m → ys ≡ bytes
    → put_mid at (at + length bytes - at) m ys ≡ put_at m at bytes
put_middle m at bytes h e =
    let k : at + length bytes - at ≡ length bytes = omega arith in
    rw (e, k, put_split m at bytes h, drop-drop)

-- a turn of a loop that writes one byte after the other: one more behind the first i
pub put_next : (m : List ℕ) (at : ℕ) (bytes : List ℕ) (i : ℕ) → i < length bytes
    → set (put_at m at (take i bytes)) (at + i) (get_or bytes i 0) ≡ put_at m at (take (i + 1) bytes)
put_next m at bytes i h =
    let e : length (take i bytes) ≡ i = length-take-le i bytes (omega arith) in
    rw (add-one, take-suc bytes i 0 h, put_append m at (take i bytes) (get_or bytes i 0 ∷ []), e)
