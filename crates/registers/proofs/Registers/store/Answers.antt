-- `store` takes the first cell of the stack off and puts it in front of the environment. Assumes nothing.
use Rattle.std.specs.Int.{w32}
use Rattle.std.proofs.Common.{◌∙◌, ◌∷◌, arith, drop, to_z-of_z}
use Rattle.rules.specs.Causes.{top}
use Rattle.registers.proofs.Fields.{by_fields, from_fields, with_stack, with_environment}
use Rattle.registers.proofs.ValueLaws.{value_is, front_is, one_more, one_less}
use Rattle.registers.proofs.Registers.store.Goals as goal

pub returns-clause-value : goal.returns-clause-value
returns-clause-value c g n e =
    let h = by_fields g e in
    let stack = c.behind_first-stack.ensures g.stack n h.stack_is in
    let rest = with_stack g h (drop 1 g.stack) (one_less g.stack h.stack_count_is) stack in
    let read = to_z-of_z {w = w32} (record { sfits = c.in_front-arg-1.given }) in
    let newest = read ∙ value_is 0 g.stack (omega arith) h.stack_is in
    let environment = c.in_front-environment.ensures g.environment h.environment_is ∙ front_is g.environment newest in
    let count = one_more (top g) g.environment h.environment_count_is in
    from_fields _ (with_environment _ rest (top g ∷ g.environment) count environment)
