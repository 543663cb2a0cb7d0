-- The blocks, counted. Assumes nothing.
use Rattle.std.proofs.Common.{rules}
use Rattle.rules.specs.Image.{block_count}
use Rattle.answers.proofs.requests.image_size.Goals as goal

pub overflow_mul-result : goal.overflow_mul-result
unfolding block_count
overflow_mul-result c = search (rules, c.block_count.ensures, c.requires)
