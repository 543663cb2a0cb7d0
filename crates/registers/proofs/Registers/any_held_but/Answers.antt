-- `any_held_but` empties the listed slots and asks of the others. Assumes nothing.
use Rattle.std.proofs.Common.{◌∙◌}
use Rattle.registers.proofs.Fields.{by_fields}
use Rattle.registers.proofs.ListedLaws.{length_emptied}
use Rattle.registers.proofs.Registers.any_held_but.Goals as goal

pub returns : goal.returns
returns c g n e =
    let cs = c.args.listed.now in
    c.any_held.ensures _ (length_emptied g.slots cs ∙ n) (c.emptied-rest.ensures g.slots n (by_fields g e).slots_are)
