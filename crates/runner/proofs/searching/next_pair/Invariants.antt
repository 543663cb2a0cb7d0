-- The ends are passed over as many at a time as one look shows. Assumes nothing.
use Rattle.std.proofs.Common.{◌-◌, ◌≤◌}
use Rattle.rules.specs.Limits.{record_count, position_count}
use Rattle.rules.specs.Layout.{view}
use Rattle.runner.specs.Runs.{PassedTo}
use Rattle.runner.proofs.searching.next_pair.Given as goal

abbrev pub invariant-loop-p : goal.invariant-loop-p
invariant-loop-p l = (record_count ≤ l.p) × PassedTo (view l.m) l.from l.p position_count

abbrev pub decreases-loop-p : goal.decreases-loop-p
decreases-loop-p l = position_count - l.p
