-- The reply's number, and the memory that `machine` leaves. Assumes nothing.
use Rattle.std.proofs.Common.{ap, arith, length}
use Rattle.rules.specs.Calls.{call_record, record_answer}
use Rattle.rules.specs.Text.{text}
use Rattle.text.proofs.Texts.{written_as}
use Rattle.answers.specs.Answers.{record_answered}
use Rattle.answers.proofs.Cases.{step_replied}
use Rattle.answers.proofs.requests.step_record.Goals as goal

pub put_step-requires : goal.put_step-requires
unfolding record_answered call_record text
put_step-requires c =
    let a = c.args in
    let e = step_replied (text "R ") a.n _ (record_answer a.state.now a.n) c.ask_record-reply.ensures.answer_is in
    omega (arith, ap length e, c.requires)

pub returns : goal.returns
unfolding record_answered call_record text
returns c =
    let a = c.args in
    let e = step_replied (text "R ") a.n _ (record_answer a.state.now a.n) c.ask_record-reply.ensures.answer_is in
    record {
      says = written_as e c.put_step.ensures;
      leaves = c.ask_record-reply.ensures.memory_is;
    }
