-- `count` is the number of ones, at most as many as there are ends. Assumes nothing.
use Rattle.ends.proofs.Words.{count_is}
use Rattle.ends.proofs.word.count.Goals as goal

pub returns : goal.returns
returns c = count_is c.args.word c.ranges.word.fits
