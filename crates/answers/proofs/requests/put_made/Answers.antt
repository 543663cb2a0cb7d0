-- The parts of a line, one behind the other. Assumes nothing.
use Rattle.std.proofs.Common.{◌∙◌, arith}
use Rattle.rules.specs.Text.{text}
use Rattle.printed.specs.Meaning.{verdict_in}
use Rattle.text.proofs.Texts.{written_more, written_as, printed_length}
use Rattle.answers.proofs.Texts.{made_text_lem, made_length}
use Rattle.answers.proofs.requests.put_made.Goals as goal

pub put_bytes-requires : goal.put_bytes-requires
put_bytes-requires c =
    let a = c.args in
    let long = made_length a.ran.steps a.ran.next (verdict_in a.ran.verdict) in
    omega (arith, long, c.requires)

pub put_decimal-requires : goal.put_decimal-requires
put_decimal-requires c =
    let a = c.args in
    let long = made_length a.ran.steps a.ran.next (verdict_in a.ran.verdict) in
    let p = c.put_bytes.ensures in
    omega (arith, long, c.requires, p.place, printed_length p)

pub put_bytes-requires-2 : goal.put_bytes-requires-2
put_bytes-requires-2 c =
    let a = c.args in
    let long = made_length a.ran.steps a.ran.next (verdict_in a.ran.verdict) in
    let p = c.put_bytes.ensures in
    let q = c.put_decimal.ensures in
    omega (arith, long, c.requires, p.place, printed_length p, q.place, printed_length q)

pub put_decimal-requires-2 : goal.put_decimal-requires-2
put_decimal-requires-2 c =
    let a = c.args in
    let long = made_length a.ran.steps a.ran.next (verdict_in a.ran.verdict) in
    let p = c.put_bytes.ensures in
    let q = c.put_decimal.ensures in
    let r = c.put_bytes-2.ensures in
    omega (arith, long, c.requires, p.place, printed_length p, q.place, printed_length q, r.place, printed_length r)

pub put_verdict_line-requires : goal.put_verdict_line-requires
put_verdict_line-requires c =
    let a = c.args in
    let long = made_length a.ran.steps a.ran.next (verdict_in a.ran.verdict) in
    let p = c.put_bytes.ensures in
    let q = c.put_decimal.ensures in
    let r = c.put_bytes-2.ensures in
    let s = c.put_decimal-2.ensures in
    let lengths = printed_length s ∙ printed_length r ∙ printed_length q ∙ printed_length p in
    omega (arith, long, c.requires, p.place, q.place, r.place, s.place, lengths)

pub returns : goal.returns
unfolding text
returns c =
    let a = c.args in
    written_as (made_text_lem a.ran.steps a.ran.next (verdict_in a.ran.verdict))
    (written_more c.put_bytes.ensures
    (written_more c.put_decimal.ensures
    (written_more c.put_bytes-2.ensures
    (written_more c.put_decimal-2.ensures c.put_verdict_line.ensures))))
