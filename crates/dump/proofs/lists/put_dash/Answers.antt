-- `-`, or nothing. Assumes nothing.
use Rattle.text.proofs.Texts.{written_none, written_as, room_as}
use Rattle.dump.proofs.Parts.{dash_text, no_dash}
use Rattle.dump.proofs.lists.put_dash.Goals as goal

pub put_letter-requires : goal.put_letter-requires
put_letter-requires c =
    let a = c.args in
    room_as a.page.now (dash_text a.shown c.if-shown-eq0.true) c.requires

pub returns-then-shown-eq0 : goal.returns-then-shown-eq0
returns-then-shown-eq0 c = written_as (dash_text c.args.shown c.if-shown-eq0.true) c.put_letter.ensures

pub returns-else-shown-eq0 : goal.returns-else-shown-eq0
returns-else-shown-eq0 c = written_as (no_dash c.args.shown c.if-shown-eq0.false) (written_none c.args.page.now)
