-- What a text says: where its first word ends, and the number or the bytes that digits mean. Assumes nothing.
use Rattle.std.specs.Prelude.{ℕ, suc, ◌+◌, ◌*◌, ◌-◌, ◌%◌, List, [], ◌∷◌, Bool, true, false, length, ltb, leb, eqb}
use Rattle.std.proofs.Math.Option.{Option, none, some}
use Rattle.text.specs.Written.{pick}

-- how many bytes stand in front of the first `stop`; all where there is none
unfoldable pub length_before : (stop : ℕ) → List ℕ → ℕ
length_before stop [] = 0
length_before stop (b ∷ text) = pick (eqb b stop) 0 (suc (length_before stop text))

-- the value of a digit, 0 to 9, then A to F and a to f; 16 for a byte that is none
unfoldable pub digit_value : ℕ → ℕ
digit_value b =
    pick (ltb b 48) 16
    (pick (ltb b 58) (b - 48)
    (pick (ltb b 65) 16
    (pick (ltb b 71) (b - 55)
    (pick (ltb b 97) 16
    (pick (ltb b 103) (b - 87) 16)))))

-- both tests hold
abbrev pub both : Bool → Bool → Bool
both true y = y
both false y = false

-- each byte is a digit of this base
unfoldable pub all_digits : (base : ℕ) → List ℕ → Bool
all_digits base [] = true
all_digits base (b ∷ word) = both (ltb (digit_value b) base) (all_digits base word)

-- the number that decimal digits say behind those of n
unfoldable pub value_behind : (n : ℕ) → List ℕ → ℕ
value_behind n [] = n
value_behind n (b ∷ word) = value_behind (10 * n + digit_value b) word

-- what is asked holds, or there is no answer
abbrev pub only_if : Bool → Option ℕ → Option ℕ
only_if true x = x
only_if false x = none

-- the number that a word means: one or more decimal digits, for at most the limit; zeros in front mean nothing
unfoldable pub number_in : (limit : ℕ) → List ℕ → Option ℕ
number_in limit word =
    only_if (ltb 0 (length word)) (only_if (all_digits 10 word) (only_if (leb (value_behind 0 word) limit) (some (value_behind 0 word))))

-- a word is hex: two digits for each byte, for at least one byte
unfoldable pub is_hex : List ℕ → Bool
is_hex word = both (ltb 0 (length word)) (both (eqb (length word % 2) 0) (all_digits 16 word))

-- the bytes that a hex word means
unfoldable pub hex_bytes : List ℕ → List ℕ
hex_bytes [] = []
hex_bytes (high ∷ []) = []
hex_bytes (high ∷ low ∷ word) = (16 * digit_value high + digit_value low) ∷ hex_bytes word
