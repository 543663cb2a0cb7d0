-- `without_lowest` clears the lowest one. Assumes nothing.
use Rattle.std.proofs.Common.{arith}
use Rattle.ends.specs.Words.{ones_from, ends_in}
use Rattle.ends.proofs.Words.{without_is}
use Rattle.ends.proofs.word.without_lowest.Goals as goal

pub returns-then-word-eq0 : goal.returns-then-word-eq0
unfolding ends_in ones_from
returns-then-word-eq0 c = rw c.if-word-eq0.true

pub returns : goal.returns
returns c = without_is c.args.word c.ranges.word.fits (omega arith)
