-- Laws of numbers in bytes, each over the width: what was written is read, and what was read and is written gives the same bytes.
-- Assumes nothing.
use mathlib.Core.Path.{◌≡◌, refl, ap, ◌∙◌}
use mathlib.Core.List.{List, [], ◌∷◌, ◌++◌}
use Prim.Native.Nat.{ℕ, zero, suc, ◌+◌, ◌*◌, ◌/◌, ◌%◌, ◌^◌, ◌≤◌, ◌<◌}
use native.Mathlib.Nat.{add_assoc, pow-suc, div-lt_iff_lt-mul}
use native.Mathlib.Omega.{arith}
use lib.ListN.{length, get_or, set, take, drop}
use lib.Seq.{get_or-take, get_or-drop, get_or-append-add, drop-cons, length-take-le}
use Rattle.rules.specs.Bytes.{number_at, bytes_of}
use Rattle.words.specs.Parts.{put_at, Bytes}
use Rattle.words.proofs.Parts.{put_split}

pub length_bytes : (k n : ℕ) → length (bytes_of k n) ≡ k
length_bytes zero n = refl
length_bytes (suc k) n = ap suc (length_bytes k (n / 256))

-- one byte
pub put_byte : (m : List ℕ) (at b : ℕ) → b < 256 → set m at b ≡ put_at m at (bytes_of 1 b)
put_byte m at b h = ap (λ (x : ℕ). set m at x) (omega arith)

-- ---- reading

below : (j low : ℕ) → low < 256 ^ suc j → low / 256 < 256 ^ j
below j low h = let pos : 0 < 256 = omega arith in (div-lt_iff_lt-mul pos).1 (rw pow-suc at h)

-- a number past a part
pub number_skip : (k : ℕ) (x m : List ℕ) (o : ℕ) → number_at k (x ++ m) (length x + o) ≡ number_at k m o
number_skip zero x m o = refl
number_skip (suc k) x m o = rw (get_or-append-add x m o 0, add_assoc, number_skip k x m (o + 1))

-- a number within a part
pub number_in : (k : ℕ) (m : List ℕ) (a w o : ℕ) → o + k ≤ w → number_at k m (a + o) ≡ number_at k (take w (drop a m)) o
number_in zero m a w o h = refl
number_in (suc k) m a w o h =
    let i : o < w = omega arith in
    let h' : o + 1 + k ≤ w = omega arith in
    rw (get_or-take w (drop a m) o 0 i, get_or-drop a m o 0, add_assoc a o 1, number_in k m a w (o + 1) h')

-- the number whose bytes stand there
pub number_bytes : (k n : ℕ) (m : List ℕ) → n < 256 ^ k → number_at k (bytes_of k n ++ m) 0 ≡ n
number_bytes zero n m h = omega arith
number_bytes (suc k) n m h =
    rw (number_skip k (n % 256 ∷ []) (bytes_of k (n / 256) ++ m) 0, number_bytes k (n / 256) m (below k n h)) (omega arith)

-- a number read where it was written
pub number_put : (k : ℕ) (m : List ℕ) (at n : ℕ) → n < 256 ^ k → at + k ≤ length m → number_at k (put_at m at (bytes_of k n)) at ≡ n
number_put k m at n h l =
    let e : length (bytes_of k n) ≡ k = length_bytes k n in
    let f : at + length (bytes_of k n) ≤ length m = rw e l in
    let t : length (take at m) ≡ at = length-take-le at m (omega arith) in
    let p : at ≡ length (take at m) + 0 = rw t (omega arith) in
    let rest : List ℕ = drop (at + length (bytes_of k n)) m in
    rw (put_split m at (bytes_of k n) f)
    (ap (λ (i : ℕ). number_at k (take at m ++ (bytes_of k n ++ rest)) i) p
    ∙ number_skip k (take at m) (bytes_of k n ++ rest) 0
    ∙ number_bytes k n rest h)

-- the bytes of a number that was read are those that stand there
pub bytes_number : (k : ℕ) (m : List ℕ) (at : ℕ) → Bytes m → at + k ≤ length m → bytes_of k (number_at k m at) ≡ take k (drop at m)
bytes_number zero m at b h = refl
bytes_number (suc k) m at b h =
    let byte : get_or m at 0 < 256 = b at in
    let n : ℕ = number_at k m (at + 1) in
    let r : (get_or m at 0 + 256 * n) % 256 ≡ get_or m at 0 = omega arith in
    let q : (get_or m at 0 + 256 * n) / 256 ≡ n = omega arith in
    let s : at + 1 ≡ suc at = omega arith in
    rw (r, q, drop-cons m at 0 (omega arith))
    (ap (λ (x : List ℕ). get_or m at 0 ∷ x) (bytes_number k m (at + 1) b (omega arith) ∙ ap (λ (i : ℕ). take k (drop i m)) s))
