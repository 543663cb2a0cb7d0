-- `put_signed` puts a sign in front of a negative number. Assumes nothing.
use Rattle.std.proofs.Common.{◌∙◌, to_z-of_z}
use Rattle.text.proofs.Texts.{written_as, room_as, minus_text, plus_text}
use Rattle.text.proofs.printing.Page.put_signed.Goals as goal

pub put_lettered-requires : goal.put_lettered-requires
put_lettered-requires c =
    let size = c.from-magnitude.ensures ∙ c.unsigned_abs.ensures.value in
    room_as c.args.self.now (minus_text c.args.n (to_z-of_z c.ranges.n) size c.if-n-lt0.true) c.requires

pub returns-then-n-lt0 : goal.returns-then-n-lt0
returns-then-n-lt0 c =
    let size = c.from-magnitude.ensures ∙ c.unsigned_abs.ensures.value in
    written_as (minus_text c.args.n (to_z-of_z c.ranges.n) size c.if-n-lt0.true) c.put_lettered.ensures

pub put_decimal-requires : goal.put_decimal-requires
put_decimal-requires c =
    let size = c.from-magnitude.ensures ∙ c.unsigned_abs.ensures.value in
    room_as c.args.self.now (plus_text c.args.n (to_z-of_z c.ranges.n) size c.if-n-lt0.false) c.requires

pub returns : goal.returns
returns c =
    let size = c.from-magnitude.ensures ∙ c.unsigned_abs.ensures.value in
    written_as (plus_text c.args.n (to_z-of_z c.ranges.n) size c.if-n-lt0.false) c.put_decimal.ensures
