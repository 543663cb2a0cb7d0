-- A word, a number and the line's end. Assumes nothing.
use Rattle.std.proofs.Common.{arith}
use Rattle.rules.specs.Text.{text}
use Rattle.text.proofs.Texts.{written_more, written_as, printed_length}
use Rattle.answers.proofs.Texts.{number_line_lem, number_length}
use Rattle.answers.proofs.lines.put_number_line.Goals as goal

pub put_decimal-requires : goal.put_decimal-requires
put_decimal-requires c =
    let a = c.args in
    let p = c.put_bytes.ensures in
    omega (arith, number_length a.word.now a.n, c.requires, p.place, printed_length p)

pub put_bytes-requires-2 : goal.put_bytes-requires-2
put_bytes-requires-2 c =
    let a = c.args in
    let p = c.put_bytes.ensures in
    let q = c.put_decimal.ensures in
    omega (arith, number_length a.word.now a.n, c.requires, p.place, printed_length p, q.place, printed_length q)

pub returns : goal.returns
unfolding text
returns c =
    let a = c.args in
    written_as (number_line_lem a.word.now a.n)
    (written_more c.put_bytes.ensures (written_more c.put_decimal.ensures c.put_bytes-2.ensures))
