-- `combine` takes two values off and puts one in front. Assumes nothing.
use Rattle.std.proofs.Common.{ap, ◌∙◌, ◌∷◌, drop, drop-drop, pos, to_z-of_z}
use Rattle.rules.specs.Limits.{stack_depth}
use Rattle.rules.specs.Bytes.{pad}
use Rattle.registers.proofs.Fields.{by_fields, from_fields, with_stack}
use Rattle.registers.proofs.ValueLaws.{front_is, two_for_one, dropped_fits}
use Rattle.registers.proofs.Registers.combine.Goals as goal

pub returns : goal.returns
returns c g n e =
    let h = by_fields g e in
    let v = c.args.v in
    let one = c.behind_first-one.ensures g.stack n h.stack_is in
    let both = ap (pad stack_depth (pos 0)) (drop-drop 1 1 g.stack) in
    let two = c.behind_first-two.ensures (drop 1 g.stack) (dropped_fits 1 g.stack n) one ∙ both in
    let stack = c.in_front-stack.ensures (drop 2 g.stack) two ∙ front_is (drop 2 g.stack) (to_z-of_z c.ranges.v) in
    from_fields _ (with_stack g h (v ∷ drop 2 g.stack) (two_for_one v g.stack c.requires h.stack_count_is) stack)
