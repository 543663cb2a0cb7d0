-- `fold` is `folded`. Assumes nothing.
use Rattle.std.proofs.Common.{refl}
use Rattle.rules.specs.Image.{folded}
use Rattle.image.proofs.block.fold.Goals as goal

pub returns : goal.returns
unfolding folded
returns c = refl
