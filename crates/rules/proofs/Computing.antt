-- Opens the definitions that computing a fact runs through: to unfold `computing` is to unfold all that its line names. Assumes nothing.
use Prim.Native.Nat.{ℕ}
use Rattle.rules.specs.Bytes.{table, flat, pad, pieces}
use Rattle.rules.specs.State.{places_from, free_ends, free_records, start}
use Rattle.rules.specs.Refusal.{unless, no_cause}
use Rattle.rules.specs.Instruction.{form_in, form_of, lengths, places_at, slots_at, instruction_at, decode}
use Rattle.rules.specs.Slots.{in_set, kept_by, overlap, not_together, any_held, any_over, any_empty, listed, any_repeated, all_emptied}
use Rattle.rules.specs.Slots.{callee_slots}
use Rattle.rules.specs.Causes.{own_causes, shared_causes}
use Rattle.rules.specs.RecordStep.{lowest_free, after}
use Rattle.rules.specs.EndStep.{meeting, end_causes, after_meeting}
use Rattle.rules.specs.Ask.{answer_to, ask_record, ask_end, ask}
use Rattle.rules.specs.Run.{next_position, first_of, next_step, steps, reached_by, position_after, verdict_of, ran_by, run_from}
use Rattle.rules.specs.Count.{δ, total}
use Rattle.rules.specs.Events.{instruction_events, record_events, meeting_events, end_events, events, history}
use Rattle.rules.specs.Sound.{places_of, waits_naming}
use Rattle.rules.specs.SoundTest.{all, every, all_true, value_within, datum_within, slot_within, registers_within, record_within}
use Rattle.rules.specs.SoundTest.{last_within, end_within, byte_within, within, paired_in, paired_test, places_test, waits_test}
use Rattle.rules.specs.SoundTest.{stands_named}
use Rattle.rules.specs.SoundTest.{stands_decoded, stands_in, stands_last, stands_test, sound_test}
use Rattle.rules.specs.Image.{word_sum, folded, check_of, block, blocks, block_count, headed, image_of, write_causes, written}
use Rattle.rules.specs.Image.{any_check_wrong, data_in, image_data, code_length, code_in, any_nonzero, read_causes, read_image}
use Rattle.rules.specs.Layout.{value_bytes, registers_bytes, no_registers, record_bytes, free_word, partner_byte, datum_cell, last_cell}
use Rattle.rules.specs.Layout.{last_cells, queue_cells, queue_bytes, layout, view_optional, view_value, view_values, view_registers}
use Rattle.rules.specs.Layout.{view_status, view_record, view_cell, view_cells, view_queue, view_end, view_ends, view}
use Rattle.rules.specs.Calls.{same_bytes, sound_bytes, load_answer, load, write_answer, write, record_answer, call_record, end_answer}
use Rattle.rules.specs.Calls.{call_end, call_free_ends, run_answer, call_run}
use Rattle.rules.specs.Text.{text, digits_before, decimal, signed_decimal}
use Rattle.rules.specs.Printed.{printed_at, name_text, kind_text, position_text, line_text, lines_text, verdict_text, last_text, run_text}
use Rattle.rules.specs.Printed.{trace_text}

unfoldable pub computing : ℕ
unfolding table flat pad pieces places_from free_ends free_records start unless no_cause form_in form_of lengths places_at slots_at
    instruction_at decode in_set kept_by overlap not_together any_held any_over any_empty listed any_repeated all_emptied callee_slots
    own_causes shared_causes lowest_free after meeting end_causes after_meeting answer_to ask_record ask_end ask
    next_position first_of next_step
    steps reached_by position_after verdict_of ran_by run_from instruction_events record_events meeting_events end_events events
    history δ total places_of waits_naming all every all_true value_within datum_within slot_within registers_within record_within
    last_within end_within byte_within within paired_in paired_test places_test waits_test stands_named stands_decoded stands_in stands_last
    stands_test sound_test word_sum folded check_of block blocks block_count headed image_of write_causes written any_check_wrong data_in
    image_data code_length code_in any_nonzero read_causes read_image value_bytes registers_bytes no_registers record_bytes free_word
    partner_byte datum_cell last_cell last_cells queue_cells queue_bytes layout view_optional view_value view_values view_registers
    view_status view_record view_cell view_cells view_queue view_end view_ends view same_bytes sound_bytes
    load_answer load write_answer write
    record_answer call_record end_answer call_end call_free_ends run_answer call_run text digits_before decimal signed_decimal printed_at
    name_text kind_text position_text line_text lines_text verdict_text last_text run_text trace_text
computing = 0
