-- The parts of the last line, one behind the other: the room for what is left is known after each. Assumes nothing.
use Rattle.std.proofs.Common.{[], ◌∷◌, ◌++◌}
use Rattle.rules.specs.Text.{decimal}
use Rattle.rules.specs.Printed.{verdict_text}
use Rattle.text.specs.Page.{Room}
use Rattle.text.proofs.Texts.{written_more, written_as, room_as, room_first, room_rest}
use Rattle.printed.specs.Meaning.{verdict_in}
use Rattle.printed.proofs.LineBytes.{from_steps, from_next, last_text_lem}
use Rattle.printed.proofs.lines.put_last.Goals as goal
use Rattle.printed.proofs.lines.put_last.Goals.{After-put_lettered, After-put_verdict, Start}

-- the room for the line
whole : (c : Start)
    → let a = c.args in
    Room a.page.now (verdict_text (verdict_in a.verdict) ++ ((32 ∷ []) ++ from_steps a.made a.next))
whole c = let a = c.args in room_as a.page.now (last_text_lem a.verdict a.made a.next) c.requires

-- behind the verdict, and behind the steps
room_1 : (c : After-put_verdict)
    → let a = c.args in
    Room c.put_verdict.new.page ((32 ∷ []) ++ from_steps a.made a.next)
room_1 c =
    let a = c.args in
    room_rest ((32 ∷ []) ++ from_steps a.made a.next) (whole c.before.before) c.put_verdict.ensures

room_2 : (c : After-put_lettered)
    → let a = c.args in
    Room c.put_lettered.new.self ((32 ∷ []) ++ from_next a.next)
room_2 c =
    room_rest ((32 ∷ []) ++ from_next c.args.next) (room_1 c.before.before) c.put_lettered.ensures

pub put_verdict-requires : goal.put_verdict-requires
put_verdict-requires c =
    let a = c.args in
    room_first a.page.now (verdict_text (verdict_in a.verdict)) ((32 ∷ []) ++ from_steps a.made a.next)
    (whole (goal.at.put_verdict-requires c).Start)

pub put_lettered-requires : goal.put_lettered-requires
put_lettered-requires c =
    let a = c.args in
    let d = c.put_verdict in
    room_first d.new.page (32 ∷ decimal a.made) ((32 ∷ []) ++ from_next a.next)
    (room_1 (goal.at.put_lettered-requires c).After-put_verdict)

pub put_lettered-requires-2 : goal.put_lettered-requires-2
put_lettered-requires-2 c =
    let a = c.args in
    let d = c.put_lettered in
    room_first d.new.self (32 ∷ decimal a.next) (10 ∷ []) (room_2 (goal.at.put_lettered-requires-2 c).After-put_lettered)

pub put_letter-requires : goal.put_letter-requires
put_letter-requires c =
    room_rest (10 ∷ []) (room_2 (goal.at.put_letter-requires c).After-put_lettered) c.put_lettered-2.ensures

pub returns : goal.returns
returns c =
    let a = c.args in
    written_as (last_text_lem a.verdict a.made a.next)
    (written_more c.put_verdict.ensures
    (written_more c.put_lettered.ensures (written_more c.put_lettered-2.ensures c.put_letter.ensures)))
