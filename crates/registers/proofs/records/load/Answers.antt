-- `load` reads each field where it stands. Assumes nothing.
use Rattle.std.proofs.Common.{◌∙◌, arith}
use Rattle.rules.specs.State.{record_at}
use Rattle.rules.specs.Numbers.{record_number}
use Rattle.registers.specs.Registers.{status_of, status_byte, registers_in}
use Rattle.registers.proofs.Fields.{from_fields}
use Rattle.registers.proofs.RecordLaws.{stack_from, environment_from, registers_within_lem}
use Rattle.registers.proofs.RecordLaws.{record_read, byte_read, values_read, slots_read}
use Rattle.registers.proofs.RecordLaws.{place_read, stack_count_read, environment_count_read, stack_read, environment_read}
use Rattle.registers.proofs.records.load.Goals as goal

pub returns : goal.returns
returns c st z w e =
    let r = record_number c.args.r in
    let x = record_at st r in
    let g = registers_in x in
    let within = registers_within_lem x w in
    let p = c.start_of-at.ensures in
    let h = c.requires.1 in
    from_fields g
    (record {
      place_is = c.get16-place.ensures ∙ record_read st z r h e p 2 1 (omega arith) ∙ place_read (status_byte (status_of x)) g within;
      stack_count_is =
          c.get8-stack_count.ensures ∙ byte_read st z r h e p 3 (omega arith) ∙ stack_count_read (status_byte (status_of x)) g;
      environment_count_is =
          c.get8-environment_count.ensures ∙ byte_read st z r h e p 4 (omega arith) ∙ environment_count_read (status_byte (status_of x)) g;
      slots_are = c.read-slots.ensures ∙ slots_read st z r h e p;
      stack_is =
          c.read-stack.ensures
          ∙ values_read st z r h e p stack_from g.stack (omega arith) (stack_read (status_byte (status_of x)) g within);
      environment_is =
          c.read-environment.ensures
          ∙ values_read st z r h e p environment_from g.environment (omega arith) (environment_read (status_byte (status_of x)) g within);
    })
