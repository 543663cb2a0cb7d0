-- `is_free` shifts bit e to the lowest place. Assumes nothing.
use Rattle.canonical.proofs.Cells.{bit_is}
use Rattle.canonical.proofs.is_free.Goals as goal

pub returns : goal.returns
returns c = bit_is c.args.word c.args.e
