-- `count_slots` counts one slot after the other. The invariant: the ones so far are counted. Assumes nothing.
use Rattle.std.proofs.Common.{◌≡◌, length}
use Rattle.rules.specs.Limits.{end_count}
use Rattle.soundness.specs.Counts.{Added}
use Rattle.soundness.proofs.Standing.{in_first}
use Rattle.soundness.proofs.holders.count_slots.Given as goal

abbrev pub invariant-loop-slot : goal.invariant-loop-slot
invariant-loop-slot l = (length l.counts ≡ length l.initial.counts)
    × Added end_count (in_first l.slots l.slot-index) l.initial.counts l.counts
