-- The word in a row is the one that its reference shows. Assumes nothing.
use Rattle.std.proofs.Common.{sym, ap, ◌∙◌, List, ℕ, [], get_or, Bor}
use Rattle.std.proofs.Math.ListN.{get_or-map}
use Rattle.printed.specs.Words.{word_text}
use Rattle.printed.proofs.line_words.word.Goals as goal

pub returns : goal.returns
unfolding word_text
returns c =
    sym (get_or-map (λ (word : Bor (List ℕ)). word.now) c.words.result.now c.args.row _)
    ∙ ap (λ (all : List (List ℕ)). get_or all c.args.row []) c.words.ensures
