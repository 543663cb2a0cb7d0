-- A word, a number and the line's end. Assumes nothing.
use Rattle.std.proofs.Common.{[], ◌∷◌, ◌++◌}
use Rattle.rules.specs.Text.{decimal}
use Rattle.text.specs.Page.{Room}
use Rattle.text.proofs.Texts.{written_more, written_as, room_as, room_first, room_rest}
use Rattle.printed.proofs.LineBytes.{refused_word, refused_text}
use Rattle.printed.proofs.lines.put_refused.Goals as goal
use Rattle.printed.proofs.lines.put_refused.Goals.{After-put_bytes, Start}

-- the room for all of it
whole : (c : Start) → Room c.args.page.now (refused_word ++ (decimal c.args.n ++ 10 ∷ []))
whole c = room_as c.args.page.now (refused_text c.args.n) c.requires

pub put_bytes-requires : goal.put_bytes-requires
put_bytes-requires c =
    room_first c.args.page.now refused_word (decimal c.args.n ++ 10 ∷ []) (whole (goal.at.put_bytes-requires c).Start)

-- the room behind the word
behind_word : (c : After-put_bytes)
    → Room c.put_bytes.new.self (decimal c.args.n ++ 10 ∷ [])
behind_word c =
    room_rest (decimal c.args.n ++ 10 ∷ []) (whole c.before.before.before.before) c.put_bytes.ensures

pub put_decimal-requires : goal.put_decimal-requires
put_decimal-requires c =
    let n = c.args.n in
    room_first c.put_bytes.new.self (decimal n) (10 ∷ [])
    (behind_word (goal.at.put_decimal-requires c).After-put_bytes)

pub put_letter-requires : goal.put_letter-requires
put_letter-requires c =
    room_rest (10 ∷ []) (behind_word (goal.at.put_letter-requires c).After-put_bytes) c.put_decimal.ensures

pub returns : goal.returns
returns c =
    written_as (refused_text c.args.n)
    (written_more c.put_bytes.ensures (written_more c.put_decimal.ensures c.put_letter.ensures))
