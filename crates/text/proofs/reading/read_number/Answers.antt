-- `read_number` asks what the definition asks, in its order. Assumes nothing.
use Rattle.std.proofs.Common.{sym, ◌∙◌}
use Rattle.text.proofs.Words.{number_empty, number_other, number_is, none_there, some_there}
use Rattle.text.proofs.reading.read_number.Goals as goal

pub returns-then-is_empty : goal.returns-then-is_empty
returns-then-is_empty c =
    let word = c.args.word.now in
    number_empty c.args.limit word (none_there word c.is_empty.ensures c.if-is_empty.true)

pub returns-then-not-all_digits : goal.returns-then-not-all_digits
returns-then-not-all_digits c =
    let a = c.args in
    let other = sym c.all_digits.ensures ∙ c.if-not-all_digits.true in
    number_other a.limit a.word.now (some_there a.word.now c.is_empty.ensures c.if-is_empty.false) other

pub returns : goal.returns
returns c =
    let a = c.args in
    let digits = sym c.all_digits.ensures ∙ c.if-not-all_digits.false in
    c.value.ensures ∙ number_is a.limit a.word.now (some_there a.word.now c.is_empty.ensures c.if-is_empty.false) digits
