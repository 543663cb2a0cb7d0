-- `all_zero` joins all bytes by or. The invariant: what is joined so far is zero exactly if the first i bytes are. Assumes nothing.
use Rattle.std.proofs.Common.{arith}
use Rattle.canonical.proofs.Padding.{all_zero_none, all_zero_more}
use Rattle.canonical.proofs.unused.all_zero.Goals as goal

pub loop-b-init : goal.loop-b-init
loop-b-init c = all_zero_none

pub loop-b-preserved : goal.loop-b-preserved
loop-b-preserved c =
    let l = c.loop-b in
    let bytes = c.args.bytes.now in
    all_zero_more l.any bytes l.b-index (omega arith) l.invariant
