-- Two numbers behind their words, and a word. Assumes nothing.
use Rattle.std.proofs.Common.{◌∷◌, ◌++◌}
use Rattle.rules.specs.Text.{decimal}
use Rattle.text.specs.Page.{Room}
use Rattle.text.proofs.Texts.{written_more, written_as, room_as, room_first, room_rest}
use Rattle.dump.proofs.Parts.{partner_part, queue_word, head_parts}
use Rattle.dump.proofs.end_line.put_head.Goals as goal
use Rattle.dump.proofs.end_line.put_head.Goals.{Start}

-- room for the parts
whole : (s : Start)
    → let a = s.args in Room a.page.now (69 ∷ decimal a.e ++ partner_part a.partner.0 ++ queue_word)
whole s = let a = s.args in room_as a.page.now (head_parts a.e a.partner.0) s.requires

-- room for the first two
two : (s : Start) → let a = s.args in Room a.page.now (69 ∷ decimal a.e ++ partner_part a.partner.0)
two s = let a = s.args in room_first a.page.now (69 ∷ decimal a.e ++ partner_part a.partner.0) queue_word (whole s)

pub put_lettered-requires : goal.put_lettered-requires
put_lettered-requires c =
    let a = c.args in
    room_first a.page.now (69 ∷ decimal a.e) (partner_part a.partner.0) (two (goal.at.put_lettered-requires c).Start)

pub put_named-requires : goal.put_named-requires
put_named-requires c =
    room_rest (partner_part c.args.partner.0) (two (goal.at.put_named-requires c).Start) c.put_lettered.ensures

pub put_bytes-requires : goal.put_bytes-requires
put_bytes-requires c =
    let written = written_more c.put_lettered.ensures c.put_named.ensures in
    room_rest queue_word (whole (goal.at.put_bytes-requires c).Start) written

pub returns : goal.returns
returns c =
    let a = c.args in
    written_as (head_parts a.e a.partner.0)
    (written_more (written_more c.put_lettered.ensures c.put_named.ensures) c.put_bytes.ensures)
