-- `write_blocks` writes one block after the other. The invariant: the first i are written, and all behind them is as it was.
-- Assumes nothing.
use Rattle.std.proofs.Common.{◌≡◌, ◌++◌, ◌*◌, length, drop}
use Rattle.rules.specs.Bytes.{pad}
use Rattle.rules.specs.Image.{block_size, data_size, headed, blocks}
use Rattle.image.proofs.writing.write_blocks.Given as goal

abbrev pub invariant-loop-i : goal.invariant-loop-i
invariant-loop-i l =
    (length l.out ≡ length l.initial.out)
    × (l.out ≡ blocks l.i (pad (data_size * l.count) 0 (headed l.code)) ++ drop (block_size * l.i) l.initial.out)
