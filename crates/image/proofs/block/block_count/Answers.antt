-- `block_count` is `block_count`. Assumes nothing.
use Rattle.std.proofs.Common.{refl}
use Rattle.rules.specs.Image.{block_count}
use Rattle.image.proofs.block.block_count.Goals as goal

pub returns : goal.returns
unfolding block_count
returns c = refl
