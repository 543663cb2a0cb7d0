-- Both numbers, or the one of the refusal. Assumes nothing.
use Rattle.std.proofs.Common.{ap, arith, length}
use Rattle.rules.specs.Text.{text}
use Rattle.text.proofs.Texts.{written_as}
use Rattle.answers.specs.Answers.{free_ends_text, free_answered}
use Rattle.answers.proofs.requests.free.Goals as goal

pub put_counted-requires : goal.put_counted-requires
unfolding free_answered
put_counted-requires c = omega (arith, ap length (ap free_ends_text c.in-Ok.ensures), c.requires)

pub put_refusal_line-requires : goal.put_refusal_line-requires
unfolding free_answered text
put_refusal_line-requires c = omega (arith, ap length (ap free_ends_text c.in-Err.ensures), c.requires)

pub returns-in-Ok : goal.returns-in-Ok
unfolding free_answered
returns-in-Ok c = written_as (ap free_ends_text c.in-Ok.ensures) c.put_counted.ensures

pub returns-in-Err : goal.returns-in-Err
unfolding free_answered text
returns-in-Err c = written_as (ap free_ends_text c.in-Err.ensures) c.put_refusal_line.ensures
