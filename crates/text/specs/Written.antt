-- What printing into a lent buffer leaves, and bytes in hex. Numbers as text are `decimal` and `signed_decimal` of `rules`. Assumes
-- nothing.
use Rattle.std.specs.Prelude.{◌≡◌, ℕ, ◌+◌, ◌/◌, ◌%◌, List, [], ◌∷◌, Bool, true, false, length, ltb}
use Rattle.rules.specs.Bytes.{flat}
use Rattle.words.specs.Parts.{put_at}

-- a text stands in the buffer from `at` on, all else is as before, and `next` is the place behind it
pub record Written (before : List ℕ) (at : ℕ) (text : List ℕ) (after : List ℕ) (next : ℕ) : Type 0 where
  pub memory : after ≡ put_at before at text
  pub place : next ≡ at + length text

-- the first where the test holds, else the second
abbrev pub pick : Bool → ℕ → ℕ → ℕ
pick true x y = x
pick false x y = y

-- a hex digit in lower case: 0 to 9, then a to f
unfoldable pub hex_digit : ℕ → ℕ
hex_digit d = pick (ltb d 10) (48 + d) (87 + d)

-- a byte in two hex digits, the high one first
unfoldable pub hex_byte : ℕ → List ℕ
hex_byte b = hex_digit (b / 16) ∷ hex_digit (b % 16) ∷ []

-- bytes in hex
unfoldable pub hex_text : List ℕ → List ℕ
hex_text bytes = flat hex_byte bytes
