-- `kept` keeps the slots of the set. Assumes nothing.
use Rattle.std.proofs.Common.{refl, []}
use Rattle.rules.specs.Bytes.{pad}
use Rattle.rules.specs.Slots.{kept_by}
use Rattle.registers.proofs.Fields.{by_fields, from_fields, with_place, with_stack, with_slots_lem}
use Rattle.registers.proofs.Registers.kept.Goals as goal

pub returns : goal.returns
unfolding pad
returns c g n e =
    let a = c.args in
    let h = by_fields g e in
    let slots = c.kept-slots.ensures g.slots n h.slots_are in
    from_fields _ (with_place _ (with_stack _ (with_slots_lem g h (kept_by a.m g.slots) slots) [] refl refl) a.place)
