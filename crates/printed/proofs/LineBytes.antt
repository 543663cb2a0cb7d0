-- The texts of the printing program by their bytes. Assumes nothing.
use mathlib.Core.Path.{◌≡◌, refl, sym}
use mathlib.Core.List.{List, [], ◌∷◌, ◌++◌, append_assoc}
use mathlib.Core.Option.{some}
use Prim.Native.Nat.{ℕ, ◌-◌, ◌≤◌, ◌<◌}
use borrow.Author.Tests.{lt-ltb, le-ltb}
use Rattle.rules.specs.Limits.{record_count}
use Rattle.rules.specs.Text.{text, decimal}
use Rattle.rules.specs.Printed.{Printed, position_text, kind_text, line_text, verdict_text, last_text}
use Rattle.runner.specs.declared.verdict.Verdict.{Verdict}
use Rattle.printed.specs.Meaning.{verdict_in, last_line}

-- ---- who was asked

pub record_text : (p : ℕ) → p < record_count → (82 ∷ []) ++ decimal p ≡ position_text p
unfolding position_text text
record_text p h = rw (lt-ltb p record_count h) refl

pub end_text : (p : ℕ) → record_count ≤ p → (69 ∷ []) ++ decimal (p - record_count) ≡ position_text p
unfolding position_text text
end_text p h = rw (le-ltb p record_count h) refl

-- ---- a line

-- the parts of a line, bracketed as they are printed
six : (a b c d e f : List ℕ) → a ++ (b ++ (c ++ (d ++ (e ++ f)))) ≡ a ++ b ++ c ++ d ++ e ++ f
six a b c d e f = simp append_assoc refl

-- what stands behind its parts, from the last one
abbrev pub from_kind : Printed → List ℕ
from_kind x = kind_text x.kind x.number ++ 10 ∷ []

abbrev pub from_position : Printed → List ℕ
from_position x = position_text x.position ++ ((32 ∷ []) ++ from_kind x)

pub line_text_lem : (number : ℕ) (x : Printed) → decimal number ++ ((32 ∷ []) ++ from_position x) ≡ line_text number (some x)
unfolding line_text text
line_text_lem number x = six (decimal number) (32 ∷ []) (position_text x.position) (32 ∷ []) (kind_text x.kind x.number) (10 ∷ [])

-- ---- the last line

-- what stands behind its parts, from the last one
abbrev pub from_next : (next : ℕ) → List ℕ
from_next next = decimal next ++ 10 ∷ []

abbrev pub from_steps : (made next : ℕ) → List ℕ
from_steps made next = decimal made ++ ((32 ∷ []) ++ from_next next)

pub last_text_lem : (v : Verdict) (made next : ℕ)
    → verdict_text (verdict_in v) ++ ((32 ∷ []) ++ from_steps made next) ≡ last_line v made next
unfolding last_line last_text text
last_text_lem v made next = six (verdict_text (verdict_in v)) (32 ∷ []) (decimal made) (32 ∷ []) (decimal next) (10 ∷ [])

-- ---- the line of a refused image

-- the word in front
abbrev pub refused_word : List ℕ
refused_word = 114 ∷ 101 ∷ 102 ∷ 117 ∷ 115 ∷ 101 ∷ 100 ∷ 32 ∷ []

pub refused_text : (n : ℕ) → refused_word ++ (decimal n ++ 10 ∷ []) ≡ text "refused " ++ decimal n ++ text "\n"
unfolding text
refused_text n = sym (append_assoc refused_word (decimal n) (10 ∷ []))
