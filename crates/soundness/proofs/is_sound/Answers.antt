-- The five tests, one behind the other. Assumes nothing.
use Rattle.std.proofs.Common.{arith}
use Rattle.soundness.proofs.Whole.{sound_is}
use Rattle.soundness.proofs.is_sound.Goals as goal

pub returns-then-records_are_named_rightly : goal.returns-then-records_are_named_rightly
returns-then-records_are_named_rightly c =
    let all = sound_is c.args.m.now (λ j. (c.type_inv.m j).fits) c.requires in
    grind (arith, all)

pub returns-else-records_are_named_rightly : goal.returns-else-records_are_named_rightly
returns-else-records_are_named_rightly c =
    let all = sound_is c.args.m.now (λ j. (c.type_inv.m j).fits) c.requires in
    grind (arith, all)
