-- A word and two numbers. Assumes nothing.
use Rattle.std.proofs.Common.{arith}
use Rattle.rules.specs.Text.{text}
use Rattle.text.proofs.Texts.{written_more, written_as, printed_length}
use Rattle.answers.proofs.Texts.{counted_text_lem, counted_length}
use Rattle.answers.proofs.requests.put_counted.Goals as goal

pub put_bytes-requires : goal.put_bytes-requires
put_bytes-requires c =
    let a = c.args in
    omega (arith, counted_length a.free.count a.free.lowest, c.requires)

pub put_decimal-requires : goal.put_decimal-requires
put_decimal-requires c =
    let a = c.args in
    omega (arith, counted_length a.free.count a.free.lowest, c.requires, c.put_bytes.ensures.place, printed_length c.put_bytes.ensures)

pub put_number_line-requires : goal.put_number_line-requires
unfolding text
put_number_line-requires c =
    let a = c.args in
    let p = c.put_bytes.ensures in
    let q = c.put_decimal.ensures in
    omega (arith, counted_length a.free.count a.free.lowest, c.requires, p.place, printed_length p, q.place, printed_length q)

pub returns : goal.returns
unfolding text
returns c =
    let a = c.args in
    written_as (counted_text_lem a.free.count a.free.lowest)
    (written_more c.put_bytes.ensures (written_more c.put_decimal.ensures c.put_number_line.ensures))
