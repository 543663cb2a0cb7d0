-- A number behind its letter, a word, and the registers. Assumes nothing.
use Rattle.std.proofs.Common.{◌∷◌, ◌++◌}
use Rattle.rules.specs.Text.{text, decimal}
use Rattle.text.specs.Page.{Room}
use Rattle.text.proofs.Texts.{written_more, room_first, room_rest}
use Rattle.dump.specs.Shown.{registers_text}
use Rattle.dump.specs.Pieces.{process_in}
use Rattle.dump.proofs.record_line.put_line.Goals as goal
use Rattle.dump.proofs.record_line.put_line.Goals.{Start}

-- room for all, and for the first two parts
whole : (s : Start)
    → let a = s.args in
    Room a.page.now (82 ∷ decimal a.r ++ a.status.now ++ registers_text (process_in a.g))
unfolding text
whole s = s.requires.room

two : (s : Start) → let a = s.args in Room a.page.now (82 ∷ decimal a.r ++ a.status.now)
two s =
    let a = s.args in
    room_first a.page.now (82 ∷ decimal a.r ++ a.status.now) (registers_text (process_in a.g)) (whole s)

pub put_lettered-requires : goal.put_lettered-requires
put_lettered-requires c =
    let a = c.args in
    room_first a.page.now (82 ∷ decimal a.r) a.status.now (two (goal.at.put_lettered-requires c).Start)

pub put_bytes-requires : goal.put_bytes-requires
put_bytes-requires c = room_rest c.args.status.now (two (goal.at.put_bytes-requires c).Start) c.put_lettered.ensures

pub put_registers-requires : goal.put_registers-requires
put_registers-requires c =
    let written = written_more c.put_lettered.ensures c.put_bytes.ensures in
    record {
      stack_count_bound = (c.requires.stack_count_bound.0, c.requires.stack_count_bound.1);
      room = room_rest (registers_text (process_in c.args.g)) (whole (goal.at.put_registers-requires c).Start) written;
    }

pub returns : goal.returns
unfolding text
returns c =
    let written = written_more c.put_lettered.ensures c.put_bytes.ensures in
    written_more written c.put_registers.ensures
