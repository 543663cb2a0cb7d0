-- Two ends, each behind its letter. Assumes nothing.
use Rattle.std.proofs.Common.{◌∷◌, ◌++◌}
use Rattle.rules.specs.Text.{decimal}
use Rattle.text.specs.Page.{Room}
use Rattle.text.proofs.Texts.{written_more, written_as, room_as, room_first, room_rest}
use Rattle.dump.proofs.Parts.{split_parts}
use Rattle.dump.proofs.end_line.put_split.Goals as goal
use Rattle.dump.proofs.end_line.put_split.Goals.{Start}

-- room for the parts
whole : (s : Start)
    → let a = s.args in Room a.page.now (115 ∷ decimal a.p.0 ++ 58 ∷ decimal a.q.0)
whole s = let a = s.args in room_as a.page.now (split_parts a.p.0 a.q.0) s.requires

pub put_lettered-requires : goal.put_lettered-requires
put_lettered-requires c =
    let a = c.args in
    room_first a.page.now (115 ∷ decimal a.p.0) (58 ∷ decimal a.q.0) (whole (goal.at.put_lettered-requires c).Start)

pub put_lettered-requires-2 : goal.put_lettered-requires-2
put_lettered-requires-2 c =
    room_rest (58 ∷ decimal c.args.q.0) (whole (goal.at.put_lettered-requires-2 c).Start) c.put_lettered.ensures

pub returns : goal.returns
returns c =
    let a = c.args in
    written_as (split_parts a.p.0 a.q.0) (written_more c.put_lettered.ensures c.put_lettered-2.ensures)
