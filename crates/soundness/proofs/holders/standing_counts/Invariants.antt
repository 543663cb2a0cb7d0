-- `standing_counts` counts the ends that the last items carry, one queue after the other, on top of the slots. The invariant: those of the
-- first e are counted. Assumes nothing.
use Rattle.std.proofs.Common.{◌+◌, ◌*◌}
use Rattle.rules.specs.Limits.{end_count}
use Rattle.soundness.specs.Counts.{slots_in_all, Counted}
use Rattle.soundness.proofs.Standing.{standing_first}
use Rattle.soundness.proofs.holders.standing_counts.Given as goal

abbrev pub invariant-loop-e : goal.invariant-loop-e
invariant-loop-e l = Counted end_count (slots_in_all + 2 * l.e) (standing_first l.m l.e) l.counts
