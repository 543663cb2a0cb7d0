-- `write_blocks` writes one block after the other. The invariant: the first i are written, and all behind them is as it was.
-- Assumes nothing.
use Rattle.std.proofs.Common.{◌≡◌, refl, ap, ◌∙◌, ◌+◌, ◌-◌, ◌*◌, arith, length}
use Rattle.rules.specs.Image.{block_size, headed, blocks}
use Rattle.image.proofs.Writes.{blocks_more, blocks_size}
use Rattle.image.proofs.writing.write_blocks.Goals as goal

pub loop-i-init : goal.loop-i-init
unfolding blocks
loop-i-init c = (refl, refl)

pub loop-i-preserved : goal.loop-i-preserved
loop-i-preserved c =
    let a = c.args in
    let l = c.loop-i in
    let at = block_size * l.i in
    let w : at + block_size - at ≡ block_size = omega arith in
    let more = blocks_more a.count l.i (headed a.code.now) a.out.now (omega arith) (omega arith) l.invariant.1 w
    c.write_block.ensures in
    let size = blocks_size a.count l.i (headed a.code.now) a.out.now (omega arith) (omega arith) in
    (ap length more ∙ size, more)
