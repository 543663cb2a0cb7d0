-- `fill` writes the data byte by byte. The invariant: the first i bytes are written. Assumes nothing.
use Rattle.std.proofs.Common.{◌∙◌, arith, length}
use Rattle.words.proofs.Tables.{filled_all}
use Rattle.rules.specs.Image.{headed}
use Rattle.image.proofs.Writes.{data_from}
use Rattle.image.proofs.writing.fill.Goals as goal

pub returns : goal.returns
returns c =
    let a = c.args in
    filled_all c.loop-i.invariant.1 (omega arith) ∙ data_from (length a.bytes.now) a.from (headed a.code.now)
