-- 24, 1, or what the record is told. Assumes nothing.
use Rattle.std.proofs.Common.{sym}
use Rattle.keeping.proofs.Memories.{memory_length}
use Rattle.rules.proofs.Promises.{handed_on}
use Rattle.machine.proofs.FirstRows.{sound_so, record_refused, record_asked}
use Rattle.machine.proofs.ask_record.Goals as goal

pub returns-in_err-tested : goal.returns-in_err-tested
returns-in_err-tested c =
    let a = c.args in
    rw (handed_on _ _ c.from_residual.ensures.1) (record_refused a.state.now a.«record» _ (sym c.in_err-tested.ensures))

pub step_record-requires : goal.step_record-requires
step_record-requires c =
    let s = sound_so _ (sym c.in_ok-tested.ensures) in
    record { m_len = memory_length _ s; sound_memory = s }

pub returns : goal.returns
returns c =
    let a = c.args in
    let s = sound_so a.state.now (sym c.in_ok-tested.ensures) in
    record_asked a.state.now a.«record» s c.step_record.ensures
