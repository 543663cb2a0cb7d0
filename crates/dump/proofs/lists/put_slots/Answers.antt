-- One slot after the other. The invariant: those of the first c slots that hold an end stand. Assumes nothing.
use Rattle.std.proofs.Common.{◌≡◌, ◌≤◌, arith, length, rules}
use Rattle.rules.specs.Limits.{slot_count}
use Rattle.dump.proofs.HeldSlots.{no_slots, slots_as, slot_empty, slot_room_lem, slot_held}
use Rattle.dump.proofs.HeldSlots.{slots_dash_room, slots_done}
use Rattle.dump.proofs.lists.put_slots.Goals as goal
use Rattle.dump.proofs.lists.put_slots.Goals.{then-slots-c-ne0, else-slots-c-ne0}
use Rattle.dump.proofs.lists.put_slots.Goals.{Start}

eight : (s : Start) → length s.args.slots ≡ slot_count
eight s = search rules

pub loop-c-init : goal.loop-c-init
loop-c-init c = no_slots c.args.page.now c.args.slots

pub put_slot-requires : goal.put_slot-requires
put_slot-requires c =
    let l = c.loop-c in
    slot_room_lem c.args.slots l.c l.invariant (eight (goal.at.put_slot-requires c).Start) c.loop-c-test.true
    c.if-slots-c-ne0.true c.requires

pub loop-c-preserved : goal.loop-c-preserved
loop-c-preserved c =
    let a = c.args in
    let l = c.loop-c in
    let below = c.loop-c-test.true in
    elim c.if-slots-c-ne0.branch [
      | then-slots-c-ne0 w ↦ slots_as w.page-is w.shown-is
          (slot_held a.slots l.c l.invariant (eight (goal.at.loop-c-preserved c).Start) below
          w.if-slots-c-ne0.true w.put_slot.ensures)
      | else-slots-c-ne0 w ↦ slots_as w.page-is w.shown-is
          (slot_empty a.slots l.c l.invariant (eight (goal.at.loop-c-preserved c).Start) below w.if-slots-c-ne0.false)
    ]

pub put_dash-requires : goal.put_dash-requires
put_dash-requires c =
    let l = c.loop-c in
    slots_dash_room c.args.slots l.c l.invariant (omega (arith, eight (goal.at.put_dash-requires c).Start))
    c.requires

pub returns : goal.returns
returns c =
    let l = c.loop-c in
    let all : length c.args.slots ≤ l.c = omega (arith, eight (goal.at.returns c).Start) in
    slots_done c.args.slots l.c l.invariant all c.put_dash.ensures
