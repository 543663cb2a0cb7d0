-- The reply's number, and the memory that `machine` leaves. Assumes nothing.
use Rattle.std.proofs.Common.{◌≡◌, ap, ℕ, arith, length}
use Rattle.rules.specs.Calls.{load, load_answer}
use Rattle.rules.specs.Text.{text}
use Rattle.rules.proofs.Promises.{number_said}
use Rattle.text.proofs.Texts.{written_as}
use Rattle.answers.specs.Answers.{number_line, load_answered}
use Rattle.answers.proofs.requests.load.Goals as goal
use Rattle.answers.proofs.requests.load.Goals.{After-number_of}

-- the number that is printed
number : (c : After-number_of)
    → let a = c.args in
    c.number_of.result ≡ (load a.state.now a.image.now).number
unfolding load
number c =
    let a = c.args in
    let reply = c.load-reply.ensures.answer_is in
    number_said c.load-reply.result (load_answer a.state.now a.image.now) c.number_of.ensures reply

pub put_number_line-requires : goal.put_number_line-requires
unfolding load_answered text
put_number_line-requires c =
    let e = ap (λ (k : ℕ). length (number_line (text "load ") k)) (number c) in
    omega (arith, e, c.requires)

pub returns : goal.returns
unfolding load_answered text
returns c =
    let e = ap (λ (k : ℕ). number_line (text "load ") k) (number (goal.at.returns c).After-number_of) in
    record {
      says = written_as e c.put_number_line.ensures;
      leaves = c.load-reply.ensures.memory_is;
    }
