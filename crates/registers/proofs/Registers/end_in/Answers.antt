-- `end_in` takes one off the slot's byte. Assumes nothing.
use Rattle.registers.proofs.Fields.{by_fields}
use Rattle.registers.proofs.SlotLaws.{byte_empty, byte_held}
use Rattle.rules.specs.State.{slot_at}
use Rattle.rules.specs.Numbers.{slot_number}
use Rattle.registers.proofs.Registers.end_in.Goals as goal

pub returns-then-x-eq0 : goal.returns-then-x-eq0
returns-then-x-eq0 c g n e =
    let slot = c.at-x.ensures g.slots n (by_fields g e).slots_are in
    byte_empty (slot_at g (slot_number c.args.c)) slot c.if-x-eq0.true

pub returns : goal.returns
returns c g n e =
    let slot = c.at-x.ensures g.slots n (by_fields g e).slots_are in
    byte_held (slot_at g (slot_number c.args.c)) slot c.if-x-eq0.false
