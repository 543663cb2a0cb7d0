-- A part of a list written, and a number in two bytes with the high byte first: what contracts say beside `number_at` and `bytes_of` of
-- `rules`, which are for the low byte first. Assumes nothing.
use Rattle.std.specs.Prelude.{ℕ, ◌+◌, ◌*◌, ◌/◌, ◌%◌, ◌<◌, List, [], ◌∷◌, get_or, set}

-- m with the bytes stored one after the other from `at` on; one that would stand past the end is not stored
abbrev pub put_at : List ℕ → ℕ → List ℕ → List ℕ
put_at m at [] = m
put_at m at (b ∷ bytes) = put_at (set m at b) (at + 1) bytes

-- the number in the two bytes from `at` on, the high byte first
abbrev pub high_at : List ℕ → ℕ → ℕ
high_at m at = 256 * get_or m at 0 + get_or m (at + 1) 0

-- n in two bytes, the high byte first
abbrev pub high_bytes : ℕ → List ℕ
high_bytes n = n / 256 ∷ n % 256 ∷ []

-- every element is a byte; past the end stands 0
abbrev pub Bytes : List ℕ → Type 0
Bytes m = (j : ℕ) → get_or m j 0 < 256
