-- `status_of` reads the first byte of the record. Assumes nothing.
use Rattle.std.proofs.Common.{◌≡◌, ◌∙◌}
use Rattle.rules.specs.State.{State, record_at}
use Rattle.rules.specs.Layout.{layout}
use Rattle.rules.specs.Numbers.{record_number}
use Rattle.keeping.proofs.LayoutLaws.{Sized}
use Rattle.registers.specs.Registers.{status_of, status_byte}
use Rattle.registers.proofs.RecordLaws.{status_free, status_running, status_waiting, status_read}
use Rattle.registers.proofs.records.status_of.Goals as goal
use Rattle.registers.proofs.records.status_of.Goals.{After-get8}

-- the byte that was read
byte_is : (c : After-get8) (st : State) → Sized st → c.args.m.now ≡ layout st
    → c.get8.result ≡ status_byte (status_of (record_at st (record_number c.args.r)))
byte_is c st z e =
    c.get8.ensures ∙ status_read st z (record_number c.args.r) c.requires.1 e c.start_of.ensures

pub returns-in-0 : goal.returns-in-0
returns-in-0 c st z e = status_free (status_of (record_at st _)) (byte_is (goal.at.returns-in-0 c).After-get8 st z e) c.in-0.is

pub returns-in-1 : goal.returns-in-1
returns-in-1 c st z e = status_running (status_of (record_at st _)) (byte_is (goal.at.returns-in-1 c).After-get8 st z e) c.in-1.is

pub returns-in_default : goal.returns-in_default
returns-in_default c st z e =
    status_waiting (status_of (record_at st _)) (byte_is (goal.at.returns-in_default c).After-get8 st z e)
    c.in_default.in_default-own.rest.0.1 c.in_default.in_default-own.rest.1
