-- `lowest` is the number of trailing zeros, at most the number of ends. Assumes nothing.
use Rattle.ends.proofs.Words.{lowest_is}
use Rattle.ends.proofs.word.lowest.Goals as goal

pub returns : goal.returns
returns c = lowest_is c.args.word c.ranges.word.fits
