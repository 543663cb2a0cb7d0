-- `held_counts` counts the slots of one record after the other. The invariant: those of the first i are counted. Assumes nothing.
use Rattle.std.proofs.Common.{◌*◌}
use Rattle.rules.specs.Limits.{end_count, slot_count}
use Rattle.soundness.specs.Counts.{Counted}
use Rattle.soundness.proofs.Standing.{held_first}
use Rattle.soundness.proofs.holders.held_counts.Given as goal

abbrev pub invariant-loop-i : goal.invariant-loop-i
invariant-loop-i l = Counted end_count (slot_count * l.i) (held_first l.m l.i) l.counts
