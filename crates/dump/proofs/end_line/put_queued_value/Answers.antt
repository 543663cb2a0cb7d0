-- A letter and a signed number. Assumes nothing.
use Rattle.std.proofs.Common.{ap, [], ◌∷◌, w32, to_z-of_z}
use Rattle.rules.specs.Text.{text, signed_decimal}
use Rattle.text.proofs.Texts.{written_more, written_as, room_first, room_rest}
use Rattle.dump.proofs.end_line.put_queued_value.Goals as goal

pub put_letter-requires : goal.put_letter-requires
unfolding text
put_letter-requires c =
    let a = c.args in
    room_first a.page.now (118 ∷ []) (signed_decimal a.v) c.requires

pub put_signed-requires : goal.put_signed-requires
unfolding text
put_signed-requires c =
    let v = c.args.v in
    rw (to_z-of_z {w = w32} {z = v} c.ranges.v) (room_rest (signed_decimal v) c.requires c.put_letter.ensures)

pub returns : goal.returns
unfolding text
returns c =
    let same = ap signed_decimal (to_z-of_z c.ranges.v) in
    written_more c.put_letter.ensures (written_as same c.put_signed.ensures)
