-- The reply's number, and the memory that `machine` leaves. Assumes nothing.
use Rattle.rules.specs.Calls.{call_record, record_answer}
use Rattle.rules.proofs.Promises.{number_said}
use Rattle.amulingsad.proofs.amul_ask_record.Goals as goal

pub returns : goal.returns
unfolding call_record
returns c =
    let a = c.args in
    let promise = c.ask_record.ensures in
    record {
      number = number_said c.ask_record.result (record_answer a.state.now a.«record») c.number_of.ensures promise.answer_is;
      memory = promise.memory_is;
    }
