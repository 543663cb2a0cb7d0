-- Hex, or `-`. Assumes nothing.
use Rattle.text.proofs.Texts.{written_as, room_as}
use Rattle.dump.proofs.Parts.{no_code, some_code}
use Rattle.dump.proofs.put_bytes_of.Goals as goal

pub put_letter-requires : goal.put_letter-requires
put_letter-requires c =
    let a = c.args in
    room_as a.page.now (no_code a.code.now c.if-code-eq0.true) c.requires

pub returns-then-code-eq0 : goal.returns-then-code-eq0
returns-then-code-eq0 c = written_as (no_code c.args.code.now c.if-code-eq0.true) c.put_letter.ensures

pub put_hex-requires : goal.put_hex-requires
put_hex-requires c =
    let a = c.args in
    room_as a.page.now (some_code a.code.now c.if-code-eq0.false) c.requires

pub returns : goal.returns
returns c = written_as (some_code c.args.code.now c.if-code-eq0.false) c.put_hex.ensures
