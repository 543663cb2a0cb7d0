-- The records are looked at one after the other. Assumes nothing.
use Rattle.rules.specs.Limits.{record_count}
use Rattle.rules.specs.Layout.{view}
use Rattle.runner.specs.Runs.{PassedTo}
use Rattle.runner.proofs.searching.next_running.Given as goal

abbrev pub invariant-loop-p : goal.invariant-loop-p
invariant-loop-p l = PassedTo (view l.m) l.from l.p record_count
