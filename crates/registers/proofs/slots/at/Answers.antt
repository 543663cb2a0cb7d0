-- `slots::at` reads the slot, and nothing over the last one. Assumes nothing.
use Rattle.registers.proofs.SlotLaws.{slot_byte}
use Rattle.registers.proofs.slots.at.Goals as goal

pub returns : goal.returns
returns c l n e = slot_byte l c.args.c.0 c.if-i-ge-SLOT_COUNT.false e
