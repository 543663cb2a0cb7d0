-- A comma, the slot, and the end behind a colon. Assumes nothing.
use Rattle.std.proofs.Common.{◌∷◌, ◌++◌}
use Rattle.rules.specs.Text.{decimal}
use Rattle.text.specs.Page.{Room}
use Rattle.text.proofs.Texts.{written_more, written_as, room_as, room_first, room_rest}
use Rattle.dump.specs.Pieces.{comma_behind}
use Rattle.dump.proofs.Parts.{slot_parts}
use Rattle.dump.proofs.lists.put_slot.Goals as goal
use Rattle.dump.proofs.lists.put_slot.Goals.{Start}

-- room for the parts
whole : (s : Start)
    → let a = s.args in Room a.page.now (comma_behind a.shown ++ decimal a.c ++ 58 ∷ decimal a.e)
whole s = let a = s.args in room_as a.page.now (slot_parts a.shown a.c a.e) s.requires

-- room for the first two
two : (s : Start) → let a = s.args in Room a.page.now (comma_behind a.shown ++ decimal a.c)
two s = let a = s.args in room_first a.page.now (comma_behind a.shown ++ decimal a.c) (58 ∷ decimal a.e) (whole s)

pub put_decimal-requires : goal.put_decimal-requires
put_decimal-requires c = room_rest (decimal c.args.c) (two (goal.at.put_decimal-requires c).Start) c.put_comma.ensures

pub put_lettered-requires : goal.put_lettered-requires
put_lettered-requires c =
    let written = written_more c.put_comma.ensures c.put_decimal.ensures in
    room_rest (58 ∷ decimal c.args.e) (whole (goal.at.put_lettered-requires c).Start) written

pub returns : goal.returns
returns c =
    let a = c.args in
    written_as (slot_parts a.shown a.c a.e)
    (written_more (written_more c.put_comma.ensures c.put_decimal.ensures) c.put_lettered.ensures)
