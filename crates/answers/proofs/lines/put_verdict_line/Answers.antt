-- A space, a word and the line's end. Assumes nothing.
use Rattle.std.proofs.Common.{arith}
use Rattle.rules.specs.Text.{text}
use Rattle.printed.specs.Meaning.{verdict_in}
use Rattle.text.proofs.Texts.{written_more, written_as, printed_length}
use Rattle.answers.proofs.Texts.{verdict_line, verdict_length}
use Rattle.answers.proofs.lines.put_verdict_line.Goals as goal

pub put_bytes-requires : goal.put_bytes-requires
put_bytes-requires c = omega (arith, verdict_length (verdict_in c.args.verdict), c.requires)

pub put_verdict-requires : goal.put_verdict-requires
put_verdict-requires c =
    let p = c.put_bytes.ensures in
    omega (arith, verdict_length (verdict_in c.args.verdict), c.requires, p.place, printed_length p)

pub put_bytes-requires-2 : goal.put_bytes-requires-2
put_bytes-requires-2 c =
    let p = c.put_bytes.ensures in
    let q = c.put_verdict.ensures in
    omega (arith, verdict_length (verdict_in c.args.verdict), c.requires, p.place, printed_length p, q.place, printed_length q)

pub returns : goal.returns
unfolding text
returns c =
    let a = c.args in
    written_as (verdict_line (verdict_in a.verdict))
    (written_more c.put_bytes.ensures (written_more c.put_verdict.ensures c.put_bytes-2.ensures))
