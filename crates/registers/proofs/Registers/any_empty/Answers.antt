-- `any_empty` asks it of the slots. Assumes nothing.
use Rattle.registers.proofs.Fields.{by_fields}
use Rattle.registers.proofs.Registers.any_empty.Goals as goal

pub returns : goal.returns
returns c g n e = c.any_empty.ensures g.slots n (by_fields g e).slots_are
