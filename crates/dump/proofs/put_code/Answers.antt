-- A word, the bytes of the code, and the line's end. Assumes nothing.
use Rattle.std.proofs.Common.{ap, [], ◌∷◌, ◌++◌}
use Rattle.rules.specs.Text.{text}
use Rattle.rules.specs.Layout.{view}
use Rattle.text.specs.Page.{Room}
use Rattle.text.proofs.Texts.{written_more, written_as, room_as, room_first, room_rest}
use Rattle.dump.specs.Shown.{code_text}
use Rattle.dump.proofs.Parts.{code_word}
use Rattle.dump.proofs.put_code.Goals as goal
use Rattle.dump.proofs.put_code.Goals.{Start}

-- room for all, and for the first two parts
whole : (s : Start)
    → let a = s.args in Room a.page.now (code_word ++ code_text (view a.m.now).code ++ 10 ∷ [])
unfolding text
whole s = s.requires.room

two : (s : Start) → let a = s.args in Room a.page.now (code_word ++ code_text (view a.m.now).code)
two s = let a = s.args in room_first a.page.now (code_word ++ code_text (view a.m.now).code) (10 ∷ []) (whole s)

pub put_bytes-requires : goal.put_bytes-requires
put_bytes-requires c =
    let a = c.args in
    room_first a.page.now code_word (code_text (view a.m.now).code) (two (goal.at.put_bytes-requires c).Start)

pub put_bytes_of-requires : goal.put_bytes_of-requires
put_bytes_of-requires c =
    let code = code_text (view c.args.m.now).code in
    let put = c.put_bytes in
    room_as put.new.self (ap code_text c.code.ensures)
    (room_rest code (two (goal.at.put_bytes_of-requires c).Start) put.ensures)

pub put_letter-requires : goal.put_letter-requires
put_letter-requires c =
    let code = written_as (ap code_text c.code.ensures) c.put_bytes_of.ensures in
    room_rest (10 ∷ []) (whole (goal.at.put_letter-requires c).Start) (written_more c.put_bytes.ensures code)

pub returns : goal.returns
unfolding text
returns c =
    let code = written_as (ap code_text c.code.ensures) c.put_bytes_of.ensures in
    written_more (written_more c.put_bytes.ensures code) c.put_letter.ensures
