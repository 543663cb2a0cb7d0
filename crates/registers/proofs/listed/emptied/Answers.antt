-- `emptied` empties one listed slot after the other. The invariant: those in front are emptied. Assumes nothing.
use Rattle.std.proofs.Common.{refl, ap, ◌∙◌, arith, take}
use mathlib.Core.Option.{none}
use Rattle.rules.specs.Slots.{all_emptied}
use Rattle.registers.specs.Registers.{slot_bytes}
use Rattle.registers.proofs.ListedLaws.{length_emptied, emptied_more}
use Rattle.registers.proofs.listed.emptied.Goals as goal

pub loop-c-init : goal.loop-c-init
unfolding all_emptied
loop-c-init c l n e = e

pub loop-c-preserved : goal.loop-c-preserved
loop-c-preserved c l n e =
    let p = c.loop-c in
    let cs = c.args.listed.now in
    c.put-next.ensures (all_emptied l (take p.c-index cs)) none (length_emptied l (take p.c-index cs) ∙ n) (p.invariant l n e) refl
    ∙ ap slot_bytes (emptied_more l cs p.c-index (omega arith))
