-- `not_together` asks it of the slots. Assumes nothing.
use Rattle.registers.proofs.Fields.{by_fields}
use Rattle.registers.proofs.Registers.not_together.Goals as goal

pub returns : goal.returns
returns c g n e = c.not_together.ensures g.slots n (by_fields g e).slots_are
