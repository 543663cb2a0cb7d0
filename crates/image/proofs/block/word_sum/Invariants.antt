-- `word_sum` adds the words up from the front. The invariant: what is added up and the sum of the words left are the sum of all, and each
-- word is at most 65,535. Assumes nothing.
use Rattle.std.proofs.Common.{◌≡◌, ◌+◌, ◌*◌, ◌≤◌, drop}
use Rattle.rules.specs.Image.{word_sum}
use Rattle.image.proofs.block.word_sum.Given as goal

abbrev pub invariant-loop-i : goal.invariant-loop-i
invariant-loop-i l = (l.sum ≤ 65535 * l.i) × (l.sum + word_sum (drop (2 * l.i) l.bytes) ≡ word_sum l.bytes)
