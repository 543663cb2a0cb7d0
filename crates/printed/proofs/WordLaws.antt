-- The table of words: computed once over all rows, and carried to each by one law. Then the word of a kind and of a verdict. Assumes
-- nothing.
use mathlib.Core.Path.{◌≡◌, refl, sym, ap, ◌∙◌}
use mathlib.Core.Bool.{Bool, true, false}
use mathlib.Core.List.{List, [], ◌++◌}
use Prim.Native.Nat.{ℕ, ◌+◌, ◌-◌, ◌%◌, ◌<◌}
use native.Mathlib.Omega.{arith}
use lib.ListN.{length, get_or, length-append}
use lib.Dec.{ltb}
use lib.IntN.{ℤ}
use Rattle.rules.specs.Bytes.{table}
use Rattle.rules.specs.Text.{text, signed_decimal}
use Rattle.rules.specs.Printed.{name_text, kind_text, verdict_text}
use Rattle.rules.proofs.TestLaws.{true_is_not_false}
use Rattle.words.proofs.Tables.{get_d_table}
use Rattle.text.specs.declared.printing.Page.{Page}
use Rattle.text.specs.Written.{pick}
use Rattle.text.specs.Page.{Room}
use Rattle.runner.specs.declared.verdict.Verdict.{Verdict}
use Rattle.runner.specs.declared.verdict.Verdict.TheVariants.{Spent, Finished, Stuck}
use Rattle.printed.specs.declared.kinds.Kind.{Kind}
use Rattle.printed.specs.declared.kinds.Kind.TheVariants.{Instruction, Value, Handle, Split, Close}
use Rattle.printed.specs.Meaning.{row_of, name_in, kind_in, verdict_in}
use Rattle.printed.specs.Words.{line_words, word_count, name_count, word_text, word_of, is_numbered, word_of_verdict}

-- what holds of two whole tables holds of each of their rows
each : {A : Type 0} (n : ℕ) (f g : ℕ → A) → table n f ≡ table n g → (d : A) (k : ℕ) → k < n → f k ≡ g k
each {A} n f g e d k h = sym (get_d_table n f k d h) ∙ ap (λ (l : List A). get_or l k d) e ∙ get_d_table n g k d h

-- ---- kinds

row_below : (first : ℕ) → row_of first < name_count
unfolding row_of
row_below first = go (ltb first 16)
  where
    go : (b : Bool) → pick b ((first + 5) % 6) (6 + (first - 16) % 11) < name_count
    go true = omega arith
    go false = omega arith

name_word : (first : ℕ) → word_text (row_of first) ≡ name_text (name_in (row_of first))
unfolding word_text line_words name_in table
name_word first = each name_count word_text (λ (k : ℕ). name_text (name_in k)) refl [] (row_of first) (row_below first)

pub kind_below : (k : Kind) → word_of k < word_count
kind_below (Instruction first) = omega (arith, row_below first)
kind_below Value = omega arith
kind_below Handle = omega arith
kind_below Split = omega arith
kind_below Close = omega arith

pub numbered_text : (k : Kind) (v : ℤ) → is_numbered k ≡ true → word_text (word_of k) ++ signed_decimal v ≡ kind_text (kind_in k) v
unfolding kind_text word_text line_words
numbered_text Value v h = refl
numbered_text Handle v h = refl
numbered_text (Instruction first) v h = true_is_not_false h refl
numbered_text Split v h = true_is_not_false h refl
numbered_text Close v h = true_is_not_false h refl

pub plain_text : (k : Kind) (v : ℤ) → is_numbered k ≡ false → word_text (word_of k) ≡ kind_text (kind_in k) v
unfolding kind_text text word_text line_words
plain_text (Instruction first) v h = name_word first
plain_text Split v h = refl
plain_text Close v h = refl
plain_text Value v h = true_is_not_false refl h
plain_text Handle v h = true_is_not_false refl h

-- room for the word of a kind
pub word_room : (k : Kind) (v : ℤ) (p : Page) → Room p (kind_text (kind_in k) v) → Room p (word_text (word_of k))
word_room k v p h = go (is_numbered k) refl
  where
    go : (b : Bool) → is_numbered k ≡ b → Room p (word_text (word_of k))
    go true e = omega (arith, ap length (numbered_text k v e), length-append (word_text (word_of k)) (signed_decimal v))
    go false e = omega (arith, ap length (plain_text k v e))

-- ---- verdicts

pub verdict_below : (v : Verdict) → word_of_verdict v < word_count
verdict_below Spent = omega arith
verdict_below Finished = omega arith
verdict_below Stuck = omega arith

pub verdict_word : (v : Verdict) → word_text (word_of_verdict v) ≡ verdict_text (verdict_in v)
unfolding verdict_text word_text line_words
verdict_word Spent = refl
verdict_word Finished = refl
verdict_word Stuck = refl
