-- `wait_counts` counts the waits of one queue after the other. The invariant: those of the first e are counted. Assumes nothing.
use Rattle.rules.specs.Limits.{record_count}
use Rattle.soundness.specs.Counts.{Counted}
use Rattle.soundness.proofs.Waiting.{named_first}
use Rattle.soundness.proofs.waits.wait_counts.Given as goal

abbrev pub invariant-loop-e : goal.invariant-loop-e
invariant-loop-e l = Counted record_count l.e (named_first l.m l.e) l.counts
