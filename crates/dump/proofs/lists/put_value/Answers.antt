-- A comma and a value. Assumes nothing.
use Rattle.std.proofs.Common.{ap, to_z-of_z}
use Rattle.rules.specs.Text.{signed_decimal}
use Rattle.text.proofs.Texts.{written_more, written_as, room_as, room_rest}
use Rattle.dump.proofs.lists.put_value.Goals as goal

pub put_signed-requires : goal.put_signed-requires
put_signed-requires c =
    room_as c.put_comma.new.page (ap signed_decimal (to_z-of_z c.ranges.v))
    (room_rest (signed_decimal c.args.v) c.requires c.put_comma.ensures)

pub returns : goal.returns
returns c =
    let value = written_as (ap signed_decimal (to_z-of_z c.ranges.v)) c.put_signed.ensures in
    written_more c.put_comma.ensures value
