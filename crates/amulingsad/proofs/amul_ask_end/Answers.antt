-- The reply's number, and the memory that `machine` leaves. Assumes nothing.
use Rattle.rules.specs.Calls.{call_end, end_answer}
use Rattle.rules.proofs.Promises.{number_said}
use Rattle.amulingsad.proofs.amul_ask_end.Goals as goal

pub returns : goal.returns
unfolding call_end
returns c =
    let a = c.args in
    let promise = c.ask_end.ensures in
    record {
      number = number_said c.ask_end.result (end_answer a.state.now a.end) c.number_of.ensures promise.answer_is;
      memory = promise.memory_is;
    }
