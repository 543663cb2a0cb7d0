-- `all_digits` is `all` of std. Assumes nothing.
use Rattle.std.proofs.Common.{sym, ◌∙◌, ℕ, ltb, rules, tests}
use Rattle.std.proofs.lemmas.Iterator.{YieldsList-from_slice}
use Rattle.std.proofs.lemmas.Iterator.Search.{all_from_yields_List}
use Rattle.text.specs.Digits.{digit_value}
use Rattle.text.proofs.Words.{digits_are}
use Rattle.text.proofs.reading.all_digits.Goals as goal

pub returns : goal.returns
returns c =
    let word = c.args.word.now in
    all_from_yields_List (λ (b : ℕ). ltb (digit_value b) c.args.base) _ _ _ c.all.ensures.ran (YieldsList-from_slice word cc)
    (λ x b q k. search (rules, tests))
    ∙ sym (digits_are c.args.base word)
