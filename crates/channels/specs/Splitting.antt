-- What the code of a split asks of its caller and promises. Assumes nothing.
use Rattle.std.specs.Prelude.{List, ℕ, ◌<◌}
use Rattle.rules.specs.Limits.{end_count}
use Rattle.rules.specs.State.{State, Registers as Process}
use Rattle.rules.specs.Refusal.{Answer, done, unless}
use Rattle.rules.specs.Instruction.{Instruction}
use Rattle.rules.specs.Causes.{shared_causes}
use Rattle.rules.specs.RecordStep.{lowest_free, after}
use Rattle.rules.specs.Layout.{view}
use Rattle.rules.specs.Calls.{layout_or}
use Rattle.rules.specs.Numbers.{Reply, answer_of, end_number, reply_to}
use Rattle.rules.specs.Promise.{Promise}
use Rattle.ends.specs.declared.word.FourEnds.{FourEnds}

-- four ends of the state
pub record FourWithin (new : FourEnds) : Type 0 where
  pub p_within : end_number new.p < end_count
  pub q_within : end_number new.q < end_count
  pub s_within : end_number new.s < end_count
  pub t_within : end_number new.t < end_count

-- the answer of instruction i by what is shared: 12 to 15, or the state after
abbrev pub shared_answer : State → (r next : ℕ) → Process → Instruction → Answer State
shared_answer st r next g i = unless (shared_causes st g i) (done (after st r next g (lowest_free st) i))

-- the reply and the memory left are those of that answer
pub record SharedStep (m : List ℕ) (r next : ℕ) (g : Process) (i : Instruction) (reply : Reply) (left : List ℕ) : Type 0 where
  pub shared : let a = shared_answer (view m) r next g i in Promise (reply_to a) (layout_or m a) (answer_of reply) left
