-- `branch` keeps the slots of the set, then holds the end. Assumes nothing.
use Rattle.std.proofs.Common.{◌∙◌}
use Rattle.keeping.proofs.SlotLaws.{length_kept}
use Rattle.registers.proofs.Registers.branch.Goals as goal

pub returns : goal.returns
returns c g n e =
    let a = c.args in
    c.hold.ensures _ (length_kept a.m g.slots ∙ n) (c.kept.ensures g n e)
