-- A run that was made, or the number. Assumes nothing.
use Rattle.std.proofs.Common.{ap, arith, length}
use Rattle.rules.specs.Calls.{run_answer}
use Rattle.rules.specs.Text.{text}
use Rattle.text.proofs.Texts.{written_as}
use Rattle.answers.specs.Answers.{run_answered}
use Rattle.answers.proofs.Cases.{run_text_lem}
use Rattle.answers.proofs.requests.run.Goals as goal

pub put_made-requires : goal.put_made-requires
unfolding run_answered
put_made-requires c =
    let a = c.args in
    omega (arith, ap length (run_text_lem (run_answer a.state.now a.budget a.start) c.in-Ok.ensures.answer_is), c.requires)

pub put_refusal_line-requires : goal.put_refusal_line-requires
unfolding run_answered text
put_refusal_line-requires c =
    let a = c.args in
    omega (arith, ap length (run_text_lem (run_answer a.state.now a.budget a.start) c.in-Err.ensures.answer_is), c.requires)

pub returns-in-Ok : goal.returns-in-Ok
unfolding run_answered
returns-in-Ok c =
    let a = c.args in
    let promise = c.in-Ok.ensures in
    record {
      says = written_as (run_text_lem (run_answer a.state.now a.budget a.start) promise.answer_is) c.put_made.ensures;
      leaves = promise.memory_is;
    }

pub returns-in-Err : goal.returns-in-Err
unfolding run_answered text
returns-in-Err c =
    let a = c.args in
    let promise = c.in-Err.ensures in
    record {
      says = written_as (run_text_lem (run_answer a.state.now a.budget a.start) promise.answer_is) c.put_refusal_line.ensures;
      leaves = promise.memory_is;
    }
