-- One part after the other. Assumes nothing.
use Rattle.std.proofs.Common.{[], ◌∷◌, ◌++◌}
use Rattle.rules.specs.Text.{decimal}
use Rattle.text.specs.Page.{Room}
use Rattle.text.proofs.Texts.{written_more, written_as, room_as, room_first, room_rest}
use Rattle.dump.specs.Shown.{values_text, slots_text}
use Rattle.dump.specs.Pieces.{process_in}
use Rattle.dump.proofs.Parts.{stack_part, environment_part, slots_word}
use Rattle.dump.proofs.Parts.{through_stack, through_environment, through_word, through_slots, registers_parts}
use Rattle.dump.proofs.record_line.put_registers.Goals as goal
use Rattle.dump.proofs.record_line.put_registers.Goals.{Start}

-- room for all, and for the parts up to each
whole : (s : Start) → let a = s.args in Room a.page.now (through_slots (process_in a.g) ++ 10 ∷ [])
whole s = let a = s.args in room_as a.page.now (registers_parts (process_in a.g)) s.requires.room

slots_room_lem : (s : Start) → let a = s.args in Room a.page.now (through_slots (process_in a.g))
slots_room_lem s = let a = s.args in room_first a.page.now (through_slots (process_in a.g)) (10 ∷ []) (whole s)

word_room : (s : Start) → let a = s.args in Room a.page.now (through_word (process_in a.g))
word_room s =
    let a = s.args in
    let g = process_in a.g in
    room_first a.page.now (through_word g) (slots_text g.slots) (slots_room_lem s)

environment_room : (s : Start) → let a = s.args in Room a.page.now (through_environment (process_in a.g))
environment_room s = let a = s.args in room_first a.page.now (through_environment (process_in a.g)) slots_word (word_room s)

stack_room : (s : Start) → let a = s.args in Room a.page.now (through_stack (process_in a.g))
stack_room s =
    let a = s.args in
    let g = process_in a.g in
    room_first a.page.now (through_stack g) (environment_part (values_text g.environment)) (environment_room s)

pub put_decimal-requires : goal.put_decimal-requires
put_decimal-requires c =
    let a = c.args in
    let g = process_in a.g in
    room_first a.page.now (decimal g.place) (stack_part (values_text g.stack))
    (stack_room (goal.at.put_decimal-requires c).Start)

pub put_named_values-requires : goal.put_named_values-requires
put_named_values-requires c =
    let g = process_in c.args.g in
    record {
      count_le_stack_depth = c.requires.stack_count_bound.0;
      room = room_rest (stack_part (values_text g.stack)) (stack_room (goal.at.put_named_values-requires c).Start)
          c.put_decimal.ensures;
    }

pub put_named_values-requires-2 : goal.put_named_values-requires-2
put_named_values-requires-2 c =
    let g = process_in c.args.g in
    let written = written_more c.put_decimal.ensures c.put_named_values.ensures in
    record {
      count_le_stack_depth = c.requires.stack_count_bound.1;
      room = room_rest (environment_part (values_text g.environment))
          (environment_room (goal.at.put_named_values-requires-2 c).Start) written;
    }

pub put_bytes-requires : goal.put_bytes-requires
put_bytes-requires c =
    let first = written_more c.put_decimal.ensures c.put_named_values.ensures in
    let written = written_more first c.put_named_values-2.ensures in
    room_rest slots_word (word_room (goal.at.put_bytes-requires c).Start) written

pub put_slots-requires : goal.put_slots-requires
put_slots-requires c =
    let first = written_more c.put_decimal.ensures c.put_named_values.ensures in
    let written = written_more (written_more first c.put_named_values-2.ensures) c.put_bytes.ensures in
    room_rest (slots_text (process_in c.args.g).slots) (slots_room_lem (goal.at.put_slots-requires c).Start) written

pub put_letter-requires : goal.put_letter-requires
put_letter-requires c =
    let first = written_more c.put_decimal.ensures c.put_named_values.ensures in
    let written = written_more (written_more first c.put_named_values-2.ensures) c.put_bytes.ensures in
    let line = written_more written c.put_slots.ensures in
    room_rest (10 ∷ []) (whole (goal.at.put_letter-requires c).Start) line

pub returns : goal.returns
returns c =
    let first = written_more c.put_decimal.ensures c.put_named_values.ensures in
    let written = written_more (written_more first c.put_named_values-2.ensures) c.put_bytes.ensures in
    written_as (registers_parts (process_in c.args.g))
    (written_more (written_more written c.put_slots.ensures) c.put_letter.ensures)
