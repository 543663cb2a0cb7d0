-- The console's grammar: what a line asks for. A line that begins with # is a remark. In any other line words are separated by single
-- spaces, the first one is the command's name, and a command takes exactly its words. Assumes nothing.
use Rattle.std.specs.Prelude.{ℕ, suc, List, [], ◌∷◌, Bool, true, false, length, take, drop, leb, ltb, eqb, Option as Named, Some, None}
use Rattle.std.proofs.Math.Option.{Option, none, some}
use Rattle.rules.specs.Text.{text}
use Rattle.rules.specs.Calls.{same_bytes}
use Rattle.text.specs.Digits.{length_before, number_in, is_hex, hex_bytes}
use Rattle.commands.specs.declared.Name.{Name}
use Rattle.commands.specs.declared.Name.TheVariants.{Load, Write, Record, End, Run, Peek, Poke}

-- what is asked for: nothing that is understood, nothing at all, a load of an image, a write of a code, a step of a record or at an end, a
-- run of a budget from a position, the free ends, the state in words, a number of bytes from a place on, or bytes to be put there
pub data Asked : Type 0 where
  unknown remark free dump : Asked
  load write : (bytes : List ℕ) → Asked
  record_step end_step : (number : ℕ) → Asked
  run : (budget start : ℕ) → Asked
  peek : (at count : ℕ) → Asked
  poke : (at : ℕ) (bytes : List ℕ) → Asked

-- the characters that a line may have
abbrev pub line_limit : ℕ
line_limit = 40000

-- the largest number, and the largest budget
abbrev pub number_limit : ℕ
number_limit = 4294967295

abbrev pub budget_limit : ℕ
budget_limit = 65535

abbrev pub space : ℕ
space = 32

-- the sign that a remark begins with: #
abbrev pub remark_sign : ℕ
remark_sign = 35

module _ {A : Type 0} where
  -- the first where the test holds, else the second
  abbrev pub when : Bool → A → A → A
  when true x y = x
  when false x y = y

-- the command that a word names, if it names one
unfoldable pub name_in : List ℕ → Named Name
name_in word =
    when (same_bytes word (text "load")) (Some Load)
    (when (same_bytes word (text "write")) (Some Write)
    (when (same_bytes word (text "R")) (Some Record)
    (when (same_bytes word (text "E")) (Some End)
    (when (same_bytes word (text "run")) (Some Run)
    (when (same_bytes word (text "peek")) (Some Peek)
    (when (same_bytes word (text "poke")) (Some Poke) None))))))

-- a number, or it is not understood
abbrev pub with_number : Option ℕ → (ℕ → Asked) → Asked
with_number none f = unknown
with_number (some n) f = f n

-- the bytes of a hex word, or it is not understood
unfoldable pub with_bytes : List ℕ → (List ℕ → Asked) → Asked
with_bytes word f = when (is_hex word) (f (hex_bytes word)) unknown

-- the word in front of the first space, and what stands behind that
unfoldable pub first_word : List ℕ → List ℕ
first_word words = take (length_before space words) words

unfoldable pub behind_word : List ℕ → List ℕ
behind_word words = drop (suc (length_before space words)) words

-- a number and what is asked with it and the words behind it, or it is not understood
unfoldable pub with_two : (limit : ℕ) → List ℕ → (ℕ → List ℕ → Asked) → Asked
with_two limit words f =
    when (ltb (length_before space words) (length words))
    (with_number (number_in limit (first_word words)) (λ n. f n (behind_word words)))
    unknown

-- two numbers, or it is not understood
abbrev pub with_numbers : (limit : ℕ) → List ℕ → (ℕ → ℕ → Asked) → Asked
with_numbers limit words f = with_two limit words (λ n word. with_number (number_in number_limit word) (f n))

-- a command with no word behind it
unfoldable pub bare_asked : List ℕ → Asked
bare_asked word =
    when (same_bytes word (text "load")) (load [])
    (when (same_bytes word (text "write")) (write [])
    (when (same_bytes word (text "free")) free
    (when (same_bytes word (text "dump")) dump unknown)))

-- a command with words behind it
unfoldable pub full_asked : Name → List ℕ → Asked
full_asked Load words = with_bytes words load
full_asked Write words = with_bytes words write
full_asked Record words = with_number (number_in number_limit words) record_step
full_asked End words = with_number (number_in number_limit words) end_step
full_asked Run words = with_numbers budget_limit words run
full_asked Peek words = with_numbers number_limit words peek
full_asked Poke words = with_two number_limit words (λ at word. with_bytes word (poke at))

-- the same for a word that names a command or none
abbrev pub named_asked : Named Name → List ℕ → Asked
named_asked None words = unknown
named_asked (Some name) words = full_asked name words

-- whether a line is for whoever reads the script
abbrev pub is_remark : List ℕ → Bool
is_remark [] = false
is_remark (first ∷ rest) = eqb first remark_sign

-- what a line asks for; one that is too long is not understood
unfoldable pub asked : List ℕ → Asked
asked line =
    when (leb (length line) line_limit)
    (when (is_remark line) remark
    (when (ltb (length_before space line) (length line))
    (named_asked (name_in (first_word line)) (behind_word line))
    (bare_asked line)))
    unknown
