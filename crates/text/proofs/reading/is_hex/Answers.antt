-- `is_hex` asks what the definition asks, in its order. Assumes nothing.
use Rattle.std.proofs.Common.{◌∙◌}
use Rattle.text.proofs.Hex.{hex_empty, hex_odd, hex_is}
use Rattle.text.proofs.Words.{none_there, some_there}
use Rattle.text.proofs.reading.is_hex.Goals as goal

pub returns-then-is_empty : goal.returns-then-is_empty
returns-then-is_empty c = hex_empty c.args.word.now (none_there c.args.word.now c.is_empty.ensures c.if-is_empty.true)

pub returns-then-word-ne0 : goal.returns-then-word-ne0
returns-then-word-ne0 c =
    let word = c.args.word.now in
    hex_odd word (some_there word c.is_empty.ensures c.if-is_empty.false) c.if-word-ne0.true

pub returns : goal.returns
returns c =
    let word = c.args.word.now in
    c.all_digits.ensures ∙ hex_is word (some_there word c.is_empty.ensures c.if-is_empty.false) c.if-word-ne0.false
