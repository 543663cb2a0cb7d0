-- The parts of a line, one behind the other: the room for what is left is known after each. Assumes nothing.
use Rattle.std.proofs.Common.{ap, [], ◌∷◌, ◌++◌, ℤ, w32, SFits, to_z-of_z, rules}
use Rattle.rules.specs.Text.{decimal}
use Rattle.rules.specs.Printed.{position_text, kind_text}
use Rattle.text.specs.Page.{Puts}
use Rattle.text.specs.Page.{Room}
use Rattle.text.proofs.Texts.{written_more, written_as, room_as, room_first, room_rest}
use Rattle.printed.specs.Meaning.{printed_of}
use Rattle.printed.proofs.LineBytes.{from_kind, from_position, line_text_lem}
use Rattle.printed.proofs.lines.put_line.Goals as goal
use Rattle.printed.proofs.lines.put_line.Goals.{After-put_decimal, After-put_kind, After-put_letter, After-put_letter-2}
use Rattle.printed.proofs.lines.put_line.Goals.{After-put_position, Start}

-- the room for the line
whole : (c : Start)
    → Room c.args.page.now (decimal c.args.number ++ ((32 ∷ []) ++ from_position (printed_of c.args.x)))
whole c = room_as c.args.page.now (line_text_lem c.args.number (printed_of c.args.x)) c.requires

-- behind the number, the space, who was asked, the second space, and what was done
room_1 : (c : After-put_decimal)
    → Room c.put_decimal.new.self ((32 ∷ []) ++ from_position (printed_of c.args.x))
room_1 c =
    room_rest ((32 ∷ []) ++ from_position (printed_of c.args.x)) (whole c.before.before) c.put_decimal.ensures

room_2 : (c : After-put_letter)
    → Room c.put_letter.new.self (from_position (printed_of c.args.x))
room_2 c =
    room_rest (from_position (printed_of c.args.x)) (room_1 c.before.before) c.put_letter.ensures

room_3 : (c : After-put_position)
    → Room c.put_position.new.page ((32 ∷ []) ++ from_kind (printed_of c.args.x))
room_3 c =
    room_rest ((32 ∷ []) ++ from_kind (printed_of c.args.x)) (room_2 c.before.before) c.put_position.ensures

room_4 : (c : After-put_letter-2)
    → Room c.put_letter-2.new.self (from_kind (printed_of c.args.x))
room_4 c =
    room_rest (from_kind (printed_of c.args.x)) (room_3 c.before.before) c.put_letter-2.ensures

kind_written : (c : After-put_kind)
    → let x = printed_of c.args.x in
    Puts c.put_letter-2.new.self (kind_text x.kind x.number) c.put_kind.new.page
kind_written c =
    let x = printed_of c.args.x in
    -- the number has 32 bits, so what is printed is the number that was given
    let number_fits : SFits w32 c.args.x.number = search rules in
    written_as (ap (λ (n : ℤ). kind_text x.kind n) (to_z-of_z number_fits)) c.put_kind.ensures

pub put_decimal-requires : goal.put_decimal-requires
put_decimal-requires c =
    let a = c.args in
    room_first a.page.now (decimal a.number) ((32 ∷ []) ++ from_position (printed_of a.x))
    (whole (goal.at.put_decimal-requires c).Start)

pub put_letter-requires : goal.put_letter-requires
put_letter-requires c =
    let x = c.args.x in
    let d = c.put_decimal in
    room_first d.new.self (32 ∷ []) (from_position (printed_of x))
    (room_1 (goal.at.put_letter-requires c).After-put_decimal)

pub put_position-requires : goal.put_position-requires
put_position-requires c =
    let x = printed_of c.args.x in
    let d = c.put_letter in
    room_first d.new.self (position_text x.position) ((32 ∷ []) ++ from_kind x)
    (room_2 (goal.at.put_position-requires c).After-put_letter)

pub put_letter-requires-2 : goal.put_letter-requires-2
put_letter-requires-2 c =
    let d = c.put_position in
    room_first d.new.page (32 ∷ []) (from_kind (printed_of c.args.x))
    (room_3 (goal.at.put_letter-requires-2 c).After-put_position)

pub put_kind-requires : goal.put_kind-requires
put_kind-requires c =
    let x = printed_of c.args.x in
    let d = c.put_letter-2 in
    let number_fits : SFits w32 c.args.x.number = search rules in
    rw (to_z-of_z {w = w32} {z = x.number} number_fits)
    (room_first d.new.self (kind_text x.kind x.number) (10 ∷ []) (room_4 (goal.at.put_kind-requires c).After-put_letter-2))

pub put_letter-requires-3 : goal.put_letter-requires-3
put_letter-requires-3 c =
    room_rest (10 ∷ []) (room_4 (goal.at.put_letter-requires-3 c).After-put_letter-2)
    (kind_written (goal.at.put_letter-requires-3 c).After-put_kind)

pub returns : goal.returns
returns c =
    let a = c.args in
    written_as (line_text_lem a.number (printed_of a.x))
    (written_more c.put_decimal.ensures
    (written_more c.put_letter.ensures
    (written_more c.put_position.ensures
    (written_more c.put_letter-2.ensures
    (written_more (kind_written (goal.at.returns c).After-put_kind) c.put_letter-3.ensures)))))
