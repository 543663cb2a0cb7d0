-- cst: 6, or v pushed. Assumes nothing.
use Rattle.std.proofs.Common.{ap, ◌∙◌, ℤ, to_z-of_z}
use Rattle.rules.specs.Layout.{view}
use Rattle.keeping.proofs.Memories.{memory_length}
use Rattle.registers.specs.Registers.{registers_of, pushed}
use Rattle.stepping.proofs.Steps.{refused_step, done_step, memory_sized, held_is}
use Rattle.numbers.proofs.Cases.{cst_full, cst_done}
use Rattle.numbers.proofs.Loaded.{stack_full_lem, stack_room}
use Rattle.numbers.proofs.cst.Goals as goal

pub load-held-requires : goal.load-held-requires
load-held-requires c = (memory_length _ c.requires.0, c.requires.1)

pub returns-then-held-ge16 : goal.returns-then-held-ge16
returns-then-held-ge16 c g is =
    let m = c.args.m.now in
    let x = held_is m c.requires.0 _ g is c.load-held.ensures in
    refused_step 6 (cst_full (view m) _ _ g _ (stack_full_lem g x c.if-held-ge16.true))

pub save_running-requires : goal.save_running-requires
save_running-requires c = (memory_length _ c.requires.0, c.requires.1)

pub returns : goal.returns
returns c g is =
    let a = c.args in
    let m = a.m.now in
    let s = c.requires.0 in
    let x = held_is m s _ g is c.load-held.ensures in
    let same = ap (λ (z : ℤ). registers_of (pushed g z)) (to_z-of_z c.ranges.v) in
    let moved = c.at.ensures (pushed g a.v) (c.push-pushed.ensures.value g x ∙ same) in
    done_step m _ (cst_done (view m) _ _ g _ (stack_room g x c.if-held-ge16.false))
    (c.save_running.ensures (view m) _ (memory_sized m s) s.laid_out moved)
