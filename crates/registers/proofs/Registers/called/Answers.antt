-- `called` passes the values, then gives the listed slots. Assumes nothing.
use Rattle.rules.specs.Slots.{callee_slots}
use Rattle.registers.specs.Registers.{passed}
use Rattle.registers.proofs.Fields.{by_fields, from_fields, with_place, with_slots_lem}
use Rattle.registers.proofs.Registers.called.Goals as goal

pub returns : goal.returns
returns c g n k e =
    let a = c.args in
    let h = by_fields (passed g a.n) (c.pass-callee.ensures g n e) in
    let slots = c.callee-slots.ensures g.slots k h.slots_are in
    from_fields _ (with_place _ (with_slots_lem _ h (callee_slots g.slots a.listed.now) slots) a.place)
