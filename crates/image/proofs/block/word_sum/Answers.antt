-- `word_sum` adds the words up from the front. The invariant: what is added up and the sum of the words left are the sum of all, and each
-- word is at most 65,535. Assumes nothing.
use Rattle.std.proofs.Common.{◌≡◌, ◌+◌, ◌*◌, arith}
use Rattle.image.proofs.Checks.{sum_next, sum_end}
use Rattle.image.proofs.block.word_sum.Goals as goal

pub loop-i-preserved : goal.loop-i-preserved
loop-i-preserved c =
    let bytes = c.args.bytes.now in
    let i = c.loop-i.i in
    let word = sum_next bytes (2 * i) (omega arith) in
    let e : 2 * i + 2 ≡ 2 * (i + 1) = omega arith in
    (omega arith, rw (← e) (omega arith))

pub returns-clause-value : goal.returns-clause-value
returns-clause-value c = let none = sum_end c.args.bytes.now (2 * c.loop-i.i) (omega arith) in omega arith
