-- The values move on by one cell, and v goes in front. Assumes nothing.
use Rattle.std.proofs.Common.{ap, ◌∙◌, List, set, pos, w32, to_z, of_z, to_z-of_z}
use Rattle.std.specs.List.{copy_within}
use Rattle.rules.specs.State.{Value}
use Rattle.registers.proofs.ValueLaws.{front_pad, front_is}
use Rattle.registers.proofs.values.in_front.Goals as goal

pub returns : goal.returns
returns c l e =
    let v = to_z w32 (of_z w32 c.args.v) in
    ap (λ (r : List Value). set r 0 v) (c.copy_within.ensures.after ∙ ap (λ (r : List Value). copy_within r 0 15 1) e)
    ∙ front_pad 15 (pos 0) v l
    ∙ front_is l (to_z-of_z c.ranges.v)
