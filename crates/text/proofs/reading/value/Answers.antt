-- `value` reads one digit after the other. The invariant: the rest behind n says what the word says. Assumes nothing.
use Rattle.std.proofs.Common.{arith}
use Rattle.text.proofs.Words.{value_more, value_all, value_is, value_over}
use Rattle.text.proofs.reading.value.Goals as goal

pub returns-then-from-more : goal.returns-then-from-more
returns-then-from-more c =
    let a = c.args in
    let l = c.loop-digit in
    let i = l.digit-index in
    let more = value_more a.word.now i l.n c.behind-more.result (omega arith) l.invariant.1 c.behind-more.ensures in
    value_over a.limit a.word.now i c.behind-more.result more (omega arith)

pub loop-digit-preserved : goal.loop-digit-preserved
loop-digit-preserved c =
    let a = c.args in
    let l = c.loop-digit in
    let more = value_more a.word.now l.digit-index l.n c.behind-more.result (omega arith) l.invariant.1 c.behind-more.ensures in
    (omega arith, more)

pub returns : goal.returns
returns c =
    let a = c.args in
    let l = c.loop-digit in
    value_is a.limit a.word.now l.n (value_all a.word.now l.digit-index l.n (omega arith) l.invariant.1) l.invariant.0
