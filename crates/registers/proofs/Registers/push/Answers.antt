-- `push` puts the value in front of the stack and counts it. Assumes nothing.
use Rattle.std.proofs.Common.{◌∙◌, ◌∷◌, to_z-of_z}
use Rattle.registers.proofs.Fields.{by_fields, from_fields, with_stack}
use Rattle.registers.proofs.ValueLaws.{front_is, one_more}
use Rattle.registers.proofs.Registers.push.Goals as goal

pub returns-clause-value : goal.returns-clause-value
returns-clause-value c g e =
    let h = by_fields g e in
    let v = c.args.v in
    let stack = c.in_front-stack.ensures g.stack h.stack_is ∙ front_is g.stack (to_z-of_z c.ranges.v) in
    from_fields _ (with_stack g h (v ∷ g.stack) (one_more v g.stack h.stack_count_is) stack)
