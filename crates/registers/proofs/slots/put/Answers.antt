-- `slots::put` stores into a copy, and nothing over the last slot. Assumes nothing.
use Rattle.registers.proofs.SlotLaws.{set_slot}
use Rattle.registers.proofs.slots.put.Goals as goal

pub returns : goal.returns
returns c l o n e x = set_slot l c.args.c.0 o n e x
