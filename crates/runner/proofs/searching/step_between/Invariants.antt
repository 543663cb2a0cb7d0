-- From candidate to candidate. The invariant: the memory is as it was, and no position passed over can step. Assumes nothing.
use Rattle.std.proofs.Common.{◌≡◌, ◌-◌}
use Rattle.rules.specs.Limits.{position_count}
use Rattle.rules.specs.Layout.{view}
use Rattle.runner.specs.Runs.{PassedTo}
use Rattle.runner.proofs.searching.step_between.Given as goal

abbrev pub invariant-loop-p : goal.invariant-loop-p
invariant-loop-p l = (l.m ≡ l.initial.m) × PassedTo (view l.initial.m) l.from l.p position_count

abbrev pub decreases-loop-p : goal.decreases-loop-p
decreases-loop-p l = l.to - l.p
