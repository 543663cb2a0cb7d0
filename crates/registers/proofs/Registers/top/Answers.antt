-- `top` reads the cell. Assumes nothing.
use Rattle.std.specs.Int.{w32}
use Rattle.std.proofs.Common.{◌∙◌, arith, to_z-of_z}
use Rattle.registers.proofs.Fields.{by_fields}
use Rattle.registers.proofs.ValueLaws.{value_is}
use Rattle.registers.proofs.Registers.top.Goals as goal

pub returns : goal.returns
returns c g e = to_z-of_z {w = w32} (record { sfits = c.result-1.given }) ∙ value_is 0 g.stack (omega arith) (by_fields g e).stack_is
