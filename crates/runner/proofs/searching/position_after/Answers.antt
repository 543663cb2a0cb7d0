-- One further, or 0 after the last. Assumes nothing.
use Rattle.std.proofs.Common.{arith}
use Rattle.rules.specs.Run.{next_position}
use Rattle.runner.proofs.searching.position_after.Goals as goal

pub returns-then-p : goal.returns-then-p
unfolding next_position
returns-then-p c = omega (arith, c.if-p.true)

pub returns : goal.returns
unfolding next_position
returns c = omega (arith, c.if-p.false, c.requires)
