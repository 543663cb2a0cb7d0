-- 24, 1, or what the end is told. Assumes nothing.
use Rattle.std.proofs.Common.{sym}
use Rattle.rules.proofs.Promises.{handed_on}
use Rattle.machine.proofs.FirstRows.{sound_so, end_refused, end_asked}
use Rattle.machine.proofs.ask_end.Goals as goal

pub returns-in_err-tested : goal.returns-in_err-tested
returns-in_err-tested c =
    let a = c.args in
    rw (handed_on _ _ c.from_residual.ensures.1) (end_refused a.state.now a.end _ (sym c.in_err-tested.ensures))

pub step_end-requires : goal.step_end-requires
step_end-requires c =
    let s = sound_so _ (sym c.in_ok-tested.ensures) in
    s

pub returns : goal.returns
returns c =
    let a = c.args in
    let s = sound_so a.state.now (sym c.in_ok-tested.ensures) in
    end_asked a.state.now a.end s c.step_end.ensures
