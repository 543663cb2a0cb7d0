-- `count_slot` adds nothing for an empty slot, one for the end in another. Assumes nothing.
use Rattle.std.proofs.Common.{ℕ, arith}
use Rattle.rules.specs.Limits.{end_count}
use Rattle.rules.specs.Sound.{in_slot}
use Rattle.rules.specs.Layout.{view_optional}
use Rattle.soundness.proofs.Counting.{added_none, added_one, added_as}
use Rattle.soundness.proofs.Standing.{slot_empty, slot_held}
use Rattle.soundness.proofs.holders.count_slot.Goals as goal

pub returns-then-slot-eq0 : goal.returns-then-slot-eq0
returns-then-slot-eq0 c =
    let a = c.args in
    let slot = a.slot in
    added_none end_count (λ (e : ℕ). in_slot e (view_optional slot)) a.counts.now (slot_empty slot c.if-slot-eq0.true)

pub returns : goal.returns
returns c =
    let slot = c.args.slot in
    let end = c.from.result in
    let one = added_one end_count end c.args.counts.now c.requires.0 (omega arith) c.add_one.ensures in
    added_as (λ (e : ℕ). in_slot e (view_optional slot)) one (slot_held slot c.if-slot-eq0.false c.from.ensures)
