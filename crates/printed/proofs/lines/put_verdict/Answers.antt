-- The word in the verdict's row. Assumes nothing.
use Rattle.std.proofs.Common.{◌≡◌, ap, ◌∙◌}
use Rattle.rules.specs.Printed.{verdict_text}
use Rattle.text.proofs.Texts.{written_as, room_as}
use Rattle.printed.specs.Meaning.{verdict_in}
use Rattle.printed.specs.Words.{word_text}
use Rattle.printed.proofs.WordLaws.{verdict_below, verdict_word}
use Rattle.printed.proofs.lines.put_verdict.Goals as goal
use Rattle.printed.proofs.lines.put_verdict.Goals.{After-word_of_verdict}

-- the word in the row that was found
word : (c : After-word_of_verdict)
    → word_text c.word_of_verdict.result ≡ verdict_text (verdict_in c.args.verdict)
word c = ap word_text c.word_of_verdict.ensures ∙ verdict_word c.args.verdict

pub put_word-requires : goal.put_word-requires
put_word-requires c =
    let a = c.args in
    (rw c.word_of_verdict.ensures (verdict_below a.verdict), room_as a.page.now (word c) c.requires)

pub returns : goal.returns
returns c = written_as (word (goal.at.returns c).After-word_of_verdict) c.put_word.ensures
