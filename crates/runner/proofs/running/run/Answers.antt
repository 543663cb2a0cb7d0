-- run: 24, 1, 25, or the steps and the verdict. Assumes nothing.
use Rattle.std.proofs.Common.{sym}
use Rattle.keeping.proofs.Memories.{memory_length}
use Rattle.rules.proofs.Promises.{handed_on}
use Rattle.machine.proofs.FirstRows.{sound_so}
use Rattle.runner.proofs.RunAnswers.{left_sound, run_refused, start_over, ran}
use Rattle.runner.proofs.running.run.Goals as goal

pub returns-in_err-tested : goal.returns-in_err-tested
returns-in_err-tested c =
    let a = c.args in
    rw (handed_on _ _ c.from_residual.ensures.1) (run_refused a.state.now a.budget a.start _ (sym c.in_err-tested.ensures))

pub returns-then-start : goal.returns-then-start
returns-then-start c =
    let a = c.args in
    let s = sound_so a.state.now (sym c.in_ok-tested.ensures) in
    start_over a.state.now a.budget a.start s c.if-start.true

pub make_steps-count-requires : goal.make_steps-count-requires
make_steps-count-requires c =
    let s = sound_so _ (sym c.in_ok-tested.ensures) in
    record {
      m_len = (memory_length _ s, c.if-start.false);
      sound_memory = s;
    }

pub verdict_of-requires : goal.verdict_of-requires
verdict_of-requires c =
    let s = left_sound c.make_steps-count.ensures in
    (memory_length _ s, s)

pub returns : goal.returns
returns c =
    let a = c.args in
    let s = sound_so a.state.now (sym c.in_ok-tested.ensures) in
    ran a.state.now a.budget a.start s c.if-start.false c.make_steps-count.ensures c.verdict_of.ensures
