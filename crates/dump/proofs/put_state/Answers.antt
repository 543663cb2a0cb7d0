-- The code, the records, the ends, and the last line. Assumes nothing.
use Rattle.std.proofs.Common.{List, [], ◌∷◌, ◌++◌, ℕ}
use Rattle.rules.specs.State.{State}
use Rattle.rules.specs.Text.{text}
use Rattle.rules.specs.Layout.{view}
use Rattle.keeping.proofs.Memories.{memory_length}
use Rattle.text.specs.Page.{Room}
use Rattle.text.proofs.Texts.{written_more, room_first, room_rest}
use Rattle.dump.specs.Shown.{code_text, records_text, ends_text, state_text}
use Rattle.dump.proofs.put_state.Goals as goal
use Rattle.dump.proofs.put_state.Goals.{Start}

-- the text up to the code, the records, the ends
abbrev through_code : State → List ℕ
through_code st = text "code " ++ code_text st.code ++ text "\n"

abbrev through_records : State → List ℕ
through_records st = through_code st ++ records_text st.records

abbrev through_ends : State → List ℕ
through_ends st = through_records st ++ ends_text st.ends

abbrev last_line : List ℕ
last_line = 101 ∷ 110 ∷ 100 ∷ 10 ∷ []

-- room for all, and for the parts up to each
whole : (s : Start) → let a = s.args in Room a.page.now (through_ends (view a.m.now) ++ last_line)
unfolding state_text text
whole s = s.requires.room

ends_room : (s : Start) → let a = s.args in Room a.page.now (through_ends (view a.m.now))
ends_room s = let a = s.args in room_first a.page.now (through_ends (view a.m.now)) last_line (whole s)

records_room : (s : Start) → let a = s.args in Room a.page.now (through_records (view a.m.now))
records_room s =
    let a = s.args in
    let st = view a.m.now in
    room_first a.page.now (through_records st) (ends_text st.ends) (ends_room s)

pub put_code-requires : goal.put_code-requires
put_code-requires c =
    let a = c.args in
    let m = a.m.now in
    let s = c.requires.sound_memory in
    let lines = records_text (view m).records in
    record {
      sound = (memory_length m s, s);
      room = room_first a.page.now (through_code (view m)) lines
          (records_room (goal.at.put_code-requires c).Start);
    }

pub put_records-requires : goal.put_records-requires
put_records-requires c =
    let m = c.args.m.now in
    let s = c.requires.sound_memory in
    record {
      sound = (memory_length m s, s);
      room = room_rest (records_text (view m).records) (records_room (goal.at.put_records-requires c).Start)
          c.put_code.ensures;
    }

pub put_ends-requires : goal.put_ends-requires
put_ends-requires c =
    let m = c.args.m.now in
    let s = c.requires.sound_memory in
    let written = written_more c.put_code.ensures c.put_records.ensures in
    record {
      sound = (memory_length m s, s);
      room = room_rest (ends_text (view m).ends) (ends_room (goal.at.put_ends-requires c).Start) written;
    }

pub put_bytes-requires : goal.put_bytes-requires
put_bytes-requires c =
    let lines = written_more c.put_code.ensures c.put_records.ensures in
    room_rest last_line (whole (goal.at.put_bytes-requires c).Start) (written_more lines c.put_ends.ensures)

pub returns : goal.returns
unfolding state_text text
returns c =
    let lines = written_more c.put_code.ensures c.put_records.ensures in
    written_more (written_more lines c.put_ends.ensures) c.put_bytes.ensures
