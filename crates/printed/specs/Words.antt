-- The words of a line in one table, as the code has them: the names in the order of document 01's table, what is delivered at an end, and
-- the verdicts. Assumes nothing.
use Rattle.std.specs.Prelude.{Bool, true, false, List, [], ◌∷◌, ◌++◌, map, ℕ, get_or}
use Rattle.std.proofs.Common.{Bor}
use Rattle.rules.specs.Instruction.{Form, forms}
use Rattle.rules.specs.Text.{text}
use Rattle.rules.specs.Printed.{name_text}
use Rattle.runner.specs.declared.verdict.Verdict.{Verdict}
use Rattle.runner.specs.declared.verdict.Verdict.TheVariants.{Spent, Finished, Stuck}
use Rattle.printed.specs.declared.kinds.Kind.{Kind}
use Rattle.printed.specs.declared.kinds.Kind.TheVariants.{Instruction, Value, Handle, Split, Close}
use Rattle.printed.specs.Meaning.{row_of}

unfoldable pub line_words : List (List ℕ)
line_words =
    map (λ (f : Form). name_text f.name) forms
    ++ (text "value " ∷ text "handle " ∷ text "split" ∷ text "close" ∷ text "spent" ∷ text "finished" ∷ text "stuck" ∷ [])

-- the words that a table of references shows
abbrev pub letters : List (Bor (List ℕ)) → List (List ℕ)
letters = map (λ (word : Bor (List ℕ)). word.now)

-- how many there are, and how many names
abbrev pub word_count : ℕ
word_count = 24

abbrev pub name_count : ℕ
name_count = 17

-- the word in a row
unfoldable pub word_text : (row : ℕ) → List ℕ
word_text row = get_or line_words row []

-- the row of the word that a kind begins with
abbrev pub word_of : Kind → ℕ
word_of (Instruction first) = row_of first
word_of Value = 17
word_of Handle = 18
word_of Split = 19
word_of Close = 20

-- a number stands behind the word
abbrev pub is_numbered : Kind → Bool
is_numbered (Instruction first) = false
is_numbered Value = true
is_numbered Handle = true
is_numbered Split = false
is_numbered Close = false

-- the row of a verdict's word
abbrev pub word_of_verdict : Verdict → ℕ
word_of_verdict Spent = 21
word_of_verdict Finished = 22
word_of_verdict Stuck = 23
