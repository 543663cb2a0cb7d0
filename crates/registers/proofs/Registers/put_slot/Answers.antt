-- `put_slot` puts the slot anew. Assumes nothing.
use Rattle.std.proofs.Common.{set}
use Rattle.registers.proofs.Fields.{by_fields, from_fields, with_slots_lem}
use Rattle.registers.proofs.Registers.put_slot.Goals as goal

pub returns : goal.returns
returns c g o n x e =
    let a = c.args in
    let h = by_fields g e in
    from_fields _ (with_slots_lem g h (set g.slots a.c.0 o) (c.put-slots.ensures g.slots o n h.slots_are x))
