-- `check` is the complement of the sum, folded twice. Assumes nothing.
use Rattle.image.proofs.Checks.{folded_small, check_is}
use Rattle.image.proofs.block.check.Goals as goal

pub overflow_sub-result : goal.overflow_sub-result
overflow_sub-result c = folded_small c.word_sum-sum.ensures.upper_bound c.fold-once.ensures c.fold-twice.ensures

pub returns : goal.returns
returns c = check_is c.args.bytes.now c.word_sum-sum.ensures.value c.fold-once.ensures c.fold-twice.ensures
