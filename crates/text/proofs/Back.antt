-- What was printed is read back: a number in decimal, bytes in hex. Assumes nothing.
use mathlib.Core.Path.{◌≡◌, refl, sym, ap, ◌∙◌}
use mathlib.Core.List.{List, [], ◌∷◌}
use mathlib.Core.Bool.{true}
use mathlib.Core.Option.{some}
use Prim.Native.Nat.{ℕ, zero, suc, ◌+◌, ◌*◌, ◌/◌, ◌%◌, ◌^◌, ◌≤◌, ◌<◌}
use native.Mathlib.Decide.{dec_le}
use native.Mathlib.Omega.{arith}
use borrow.Author.Tests.{lt-ltb, le-ltb, le-leb}
use lib.ListN.{length}
use Rattle.rules.specs.Bytes.{flat}
use Rattle.rules.specs.Text.{digits_before, decimal}
use Rattle.words.specs.Parts.{Bytes}
use Rattle.text.specs.Written.{hex_digit, hex_byte, hex_text}
use Rattle.text.specs.Digits.{digit_value, all_digits, value_behind, number_in, is_hex, hex_bytes}
use Rattle.text.proofs.Decimals.{digits_left, digits_first, digits_next, less_left}
use Rattle.text.proofs.Hex.{length_text, hex_is}

-- ---- one digit

digit_back : (d : ℕ) → d < 10 → digit_value (48 + d) ≡ d
unfolding digit_value
digit_back d h = rw (le-ltb (48 + d) 48 (omega arith), lt-ltb (48 + d) 58 (omega arith)) (omega arith)

-- one of sixteen, in lower case
hex_digit_back : (d : ℕ) → d < 16 → digit_value (hex_digit d) ≡ d
unfolding hex_digit digit_value
hex_digit_back d h = elim (dec_le 10 d) [ yes l ↦ high l | no l ↦ low (omega arith) ]
  where
    low : d < 10 → digit_value (hex_digit d) ≡ d
    low l = rw (lt-ltb d 10 l) (digit_back d l)

    high : 10 ≤ d → digit_value (hex_digit d) ≡ d
    high l =
        rw (
          le-ltb d 10 l,
          le-ltb (87 + d) 48 (omega arith),
          le-ltb (87 + d) 58 (omega arith),
          le-ltb (87 + d) 65 (omega arith),
          le-ltb (87 + d) 71 (omega arith),
          le-ltb (87 + d) 97 (omega arith),
          lt-ltb (87 + d) 103 (omega arith),
        )
        (omega arith)

-- ---- decimal

-- what is left to spell, spelled in front of digits, is read in front of them
value_back : (n : ℕ) (low : List ℕ) → value_behind (n / 10) ((48 + n % 10) ∷ low) ≡ value_behind n low
unfolding value_behind
value_back n low =
    let d : n % 10 < 10 = omega arith in
    rw (digit_back (n % 10) d) (ap (λ (k : ℕ). value_behind k low) (omega arith))

left_back : (most rest : ℕ) (low : List ℕ) → rest < 10 ^ most → value_behind 0 (digits_left most rest low) ≡ value_behind rest low
unfolding digits_left
left_back zero zero low h = refl
left_back (suc most) zero low h = refl
left_back zero (suc k) low h = absurd (omega arith)
left_back (suc most) (suc k) low h =
    ap (λ (l : List ℕ). value_behind 0 l) (digits_next most (suc k) low (omega arith))
    ∙ left_back most (suc k / 10) ((48 + suc k % 10) ∷ low) (less_left most (suc k) h)
    ∙ value_back (suc k) low

-- all of them are digits
digit_passed : (n : ℕ) (low : List ℕ) → all_digits 10 ((48 + n % 10) ∷ low) ≡ all_digits 10 low
unfolding all_digits
digit_passed n low =
    let d : n % 10 < 10 = omega arith in
    rw (digit_back (n % 10) d, lt-ltb (n % 10) 10 d)

left_digits : (most rest : ℕ) (low : List ℕ) → all_digits 10 (digits_left most rest low) ≡ all_digits 10 low
unfolding digits_left digits_before
left_digits zero zero low = refl
left_digits (suc most) zero low = refl
left_digits zero (suc k) low = refl
left_digits (suc most) (suc k) low =
    ap (λ (l : List ℕ). all_digits 10 l) (digits_next most (suc k) low (omega arith))
    ∙ left_digits most (suc k / 10) ((48 + suc k % 10) ∷ low)
    ∙ digit_passed (suc k) low

-- there are some
left_some : (most rest : ℕ) (low : List ℕ) → length low ≤ length (digits_left most rest low)
unfolding digits_left digits_before
left_some zero zero low = omega arith
left_some (suc most) zero low = omega arith
left_some zero (suc r) low = omega arith
left_some (suc most) (suc r) low =
    let e = ap length (digits_next most (suc r) low (omega arith)) in
    let l = left_some most (suc r / 10) ((48 + suc r % 10) ∷ low) in
    omega arith

last_digit : (n : ℕ) → all_digits 10 ((48 + n % 10) ∷ []) ≡ true
unfolding all_digits
last_digit n = digit_passed n []

value_none : (n : ℕ) → value_behind n [] ≡ n
unfolding value_behind
value_none n = refl

-- a printed number is read back
pub number_back : (limit n : ℕ) → n ≤ limit → n < 10 ^ 20 → number_in limit (decimal n) ≡ some n
unfolding number_in
number_back limit n l h =
    let some_digit : 0 < length (decimal n) =
    let e = ap length (digits_first n) in
    let s = left_some 19 (n / 10) ((48 + n % 10) ∷ []) in
    omega arith
    in
    let digits : all_digits 10 (decimal n) ≡ true =
    ap (λ (w : List ℕ). all_digits 10 w) (digits_first n) ∙ left_digits 19 (n / 10) ((48 + n % 10) ∷ []) ∙ last_digit n
    in
    let value : value_behind 0 (decimal n) ≡ n =
    ap (λ (w : List ℕ). value_behind 0 w) (digits_first n)
    ∙ left_back 19 (n / 10) ((48 + n % 10) ∷ []) (less_left 19 n h)
    ∙ value_back n []
    ∙ value_none n
    in
    rw (lt-ltb 0 (length (decimal n)) some_digit, digits, value, le-leb n limit l)

-- ---- hex

-- printed bytes are read back
pub bytes_back : (bytes : List ℕ) → Bytes bytes → hex_bytes (hex_text bytes) ≡ bytes
unfolding hex_text flat hex_byte hex_bytes
bytes_back [] h = refl
bytes_back (b ∷ bytes) h =
    let small : b < 256 = h 0 in
    let high : b / 16 < 16 = omega arith in
    let low : b % 16 < 16 = omega arith in
    let e : 16 * (b / 16) + b % 16 ≡ b = omega arith in
    rw (hex_digit_back (b / 16) high, hex_digit_back (b % 16) low, e) (ap (λ (r : List ℕ). b ∷ r) (bytes_back bytes (λ j. h (suc j))))

all_hex : (bytes : List ℕ) → Bytes bytes → all_digits 16 (hex_text bytes) ≡ true
unfolding hex_text flat hex_byte all_digits
all_hex [] h = refl
all_hex (b ∷ bytes) h =
    let small : b < 256 = h 0 in
    let high : b / 16 < 16 = omega arith in
    let low : b % 16 < 16 = omega arith in
    rw (hex_digit_back (b / 16) high, lt-ltb (b / 16) 16 high, hex_digit_back (b % 16) low, lt-ltb (b % 16) 16 low)
    (all_hex bytes (λ j. h (suc j)))

pub hex_back : (bytes : List ℕ) → 0 < length bytes → Bytes bytes → is_hex (hex_text bytes) ≡ true
hex_back bytes l₀ h =
    let l = length_text bytes in
    let not_empty : length (hex_text bytes) ≡ 0 → ⊥ = λ e. omega arith in
    sym (hex_is (hex_text bytes) not_empty (omega arith)) ∙ all_hex bytes h
