-- The reply's number, and the memory that `machine` leaves. Assumes nothing.
use Rattle.rules.specs.Calls.{load, load_answer}
use Rattle.rules.proofs.Promises.{number_said}
use Rattle.amulingsad.proofs.amul_load.Goals as goal

pub returns : goal.returns
unfolding load
returns c =
    let a = c.args in
    let promise = c.load.ensures in
    record {
      number = number_said c.load.result (load_answer a.state.now a.image.now) c.number_of.ensures promise.answer_is;
      memory = promise.memory_is;
    }
