-- `pop` answers the first cell and the cells behind it. Assumes nothing.
use Rattle.std.specs.Int.{w32}
use Rattle.std.proofs.Common.{◌∙◌, arith, drop, to_z-of_z}
use Rattle.registers.proofs.Fields.{by_fields, from_fields, with_stack}
use Rattle.registers.proofs.ValueLaws.{value_is, one_less}
use Rattle.registers.proofs.Registers.pop.Goals as goal

pub returns : goal.returns
returns c g n e =
    let h = by_fields g e in
    let stack = c.behind_first-stack.ensures g.stack n h.stack_is in (
      to_z-of_z {w = w32} (record { sfits = c.result-1.given }) ∙ value_is 0 g.stack (omega arith) h.stack_is,
      from_fields _ (with_stack g h (drop 1 g.stack) (one_less g.stack h.stack_count_is) stack),
    )
