-- `place_of` reads the place where it stands. Assumes nothing.
use Rattle.std.proofs.Common.{◌∙◌, arith}
use Rattle.rules.specs.State.{record_at}
use Rattle.rules.specs.Numbers.{record_number}
use Rattle.registers.specs.Registers.{status_of, status_byte, registers_in}
use Rattle.registers.proofs.RecordLaws.{registers_within_lem, record_read, place_read}
use Rattle.registers.proofs.records.place_of.Goals as goal

pub returns : goal.returns
returns c st z w e =
    let r = record_number c.args.r in
    let x = record_at st r in
    c.get16.ensures
    ∙ record_read st z r c.requires.1 e c.start_of.ensures 2 1 (omega arith)
    ∙ place_read (status_byte (status_of x)) (registers_in x) (registers_within_lem x w)
