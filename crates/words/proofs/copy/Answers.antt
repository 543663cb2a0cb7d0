-- `copy` stores the bytes one after the other: the next one goes behind those that are written. Assumes nothing.
use Rattle.std.proofs.Common.{arith, length-set}
use Rattle.words.proofs.Parts.{put_next}
use Rattle.words.proofs.copy.Goals as goal

pub loop-i-preserved : goal.loop-i-preserved
loop-i-preserved c =
    let a = c.args in
    let l = c.loop-i in
    let m = l.invariant.1 in
    (simp length-set l.invariant.0, rw m (put_next a.m.now a.at a.bytes.now l.i (omega arith)))
