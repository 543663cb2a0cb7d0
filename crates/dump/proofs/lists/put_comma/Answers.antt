-- A comma, or nothing. Assumes nothing.
use Rattle.text.proofs.Texts.{written_none, written_as, room_as}
use Rattle.dump.proofs.Parts.{no_comma, comma_text}
use Rattle.dump.proofs.lists.put_comma.Goals as goal

pub put_letter-requires : goal.put_letter-requires
put_letter-requires c =
    let a = c.args in
    room_as a.page.now (comma_text a.shown c.if-shown-ne0.true) c.requires

pub returns-then-shown-ne0 : goal.returns-then-shown-ne0
returns-then-shown-ne0 c = written_as (comma_text c.args.shown c.if-shown-ne0.true) c.put_letter.ensures

pub returns-else-shown-ne0 : goal.returns-else-shown-ne0
returns-else-shown-ne0 c = written_as (no_comma c.args.shown c.if-shown-ne0.false) (written_none c.args.page.now)
