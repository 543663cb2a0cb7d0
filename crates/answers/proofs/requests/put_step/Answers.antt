-- The name, the number, and the number returned. Assumes nothing.
use Rattle.std.proofs.Common.{ap, ℕ, arith}
use Rattle.rules.specs.Numbers.{reply_number}
use Rattle.rules.specs.Text.{text}
use Rattle.rules.proofs.Promises.{number_returned}
use Rattle.text.proofs.Texts.{written_more, written_as, printed_length}
use Rattle.answers.specs.Answers.{number_line}
use Rattle.answers.proofs.Texts.{step_text_lem, step_length}
use Rattle.answers.proofs.requests.put_step.Goals as goal

pub put_decimal-requires : goal.put_decimal-requires
put_decimal-requires c =
    let a = c.args in
    let p = c.put_bytes.ensures in
    omega (arith, step_length a.name.now a.n (reply_number a.reply), c.requires, p.place, printed_length p)

pub put_number_line-requires : goal.put_number_line-requires
unfolding text
put_number_line-requires c =
    let a = c.args in
    let p = c.put_bytes.ensures in
    let q = c.put_decimal.ensures in
    rw (number_returned a.reply c.number_of.ensures)
    (omega (arith, step_length a.name.now a.n (reply_number a.reply), c.requires, p.place, printed_length p, q.place, printed_length q))

pub returns : goal.returns
unfolding text
returns c =
    let a = c.args in
    let number = number_returned a.reply c.number_of.ensures in
    let line = written_as (ap (λ (k : ℕ). number_line (text ": ") k) number) c.put_number_line.ensures in
    written_as (step_text_lem a.name.now a.n (reply_number a.reply))
    (written_more c.put_bytes.ensures (written_more c.put_decimal.ensures line))
