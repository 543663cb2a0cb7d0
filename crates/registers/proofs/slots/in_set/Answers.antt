-- `in_set` shifts the slot's bit down. Assumes nothing.
use Rattle.registers.proofs.SlotLaws.{in_set_is}
use Rattle.registers.proofs.slots.in_set.Goals as goal

pub returns : goal.returns
returns c = in_set_is c.args.m c.args.c.0
