-- A letter and a number. Assumes nothing.
use Rattle.text.proofs.Texts.{written_as, room_as}
use Rattle.printed.proofs.LineBytes.{record_text, end_text}
use Rattle.printed.proofs.lines.put_position.Goals as goal

pub put_lettered-requires : goal.put_lettered-requires
put_lettered-requires c =
    let a = c.args in
    room_as a.page.now (record_text a.position c.if-position.true) c.requires

pub returns-then-position : goal.returns-then-position
returns-then-position c = written_as (record_text c.args.position c.if-position.true) c.put_lettered.ensures

pub put_lettered-requires-2 : goal.put_lettered-requires-2
put_lettered-requires-2 c =
    let a = c.args in
    room_as a.page.now (end_text a.position c.if-position.false) c.requires

pub returns : goal.returns
returns c = written_as (end_text c.args.position c.if-position.false) c.put_lettered-2.ensures
