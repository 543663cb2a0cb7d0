-- The longest answer has room, and is no longer than the output. Assumes nothing.
use Rattle.std.proofs.Common.{refl, arith, ap, length}
use Rattle.commands.specs.Asked.{asked}
use Rattle.answers.proofs.Lengths.{answer_short}
use Rattle.answers.proofs.answer.Goals as goal

pub put_answer-requires-clause-room : goal.put_answer-requires-clause-room
put_answer-requires-clause-room c =
    let a = c.args in
    let begun = c.new-page.ensures in
    let short = answer_short a.line.now a.state.now (asked a.line.now) refl c.requires.0 in
    omega (arith, short, ap length begun.holds, begun.begins, c.requires.2)

pub returns-clause-within : goal.returns-clause-within
returns-clause-within c =
    let a = c.args in
    let short = answer_short a.line.now a.state.now (asked a.line.now) refl c.requires.0 in
    omega (arith, short, c.new-page.ensures.begins, c.put_answer.ensures.says.place)
