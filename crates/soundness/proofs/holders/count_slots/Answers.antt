-- `count_slots` counts one slot after the other. The invariant: the ones so far are counted. Assumes nothing.
use Rattle.std.proofs.Common.{refl, ◌+◌, arith, get_or, leb-true}
use Rattle.rules.specs.Limits.{end_count, slot_count}
use Rattle.rules.proofs.TestLaws.{all_at}
use Rattle.canonical.specs.Canonical.{slot_fits}
use Rattle.soundness.specs.Counts.{places_in_all}
use Rattle.soundness.proofs.Counting.{added_none, added_both, added_as, added_below}
use Rattle.soundness.proofs.Standing.{in_first, first_none, first_more, first_few}
use Rattle.soundness.proofs.holders.count_slots.Goals as goal

pub loop-slot-init : goal.loop-slot-init
loop-slot-init c =
    let a = c.args in
    (refl, added_none end_count (in_first a.slots.now 0) a.counts.now (first_none a.slots.now))

pub count_slot-requires : goal.count_slot-requires
count_slot-requires c =
    let slots = c.args.slots.now in
    let l = c.loop-slot in
    let fits = leb-true (get_or slots l.slot-index 0) end_count (all_at slot_fits 0 refl slots c.requires.2 l.slot-index) in
    let small = added_below places_in_all l.slot-index (places_in_all + slot_count) l.invariant.1 (omega arith) c.requires.3
    (first_few slots l.slot-index (omega arith)) (omega arith) in
    (omega arith, fits, small)

pub loop-slot-preserved : goal.loop-slot-preserved
loop-slot-preserved c =
    let slots = c.args.slots.now in
    let l = c.loop-slot in
    let one = c.count_slot.ensures in (
      omega arith,
      added_as (in_first slots (l.slot-index + 1)) (added_both l.invariant.1 one) (first_more slots l.slot-index (omega arith)),
    )
