-- `length_before` is `position` of std, or else the length. Assumes nothing.
use Rattle.std.proofs.Common.{sym, ap, ◌∙◌, ℕ, eqb, length, rules, tests}
use Rattle.std.specs.List.{position_or_len}
use Rattle.std.specs.Option.{unwrap_or}
use Rattle.std.proofs.lemmas.Iterator.{YieldsList-from_slice}
use Rattle.std.proofs.lemmas.Iterator.Search.{position_from_yields_List}
use Rattle.std.proofs.lemmas.List.Sums.{prefix_len-le-length}
use Rattle.text.proofs.Words.{before_is, place_or_length}
use Rattle.text.proofs.reading.length_before.Goals as goal

pub returns-clause-is : goal.returns-clause-is
returns-clause-is c =
    let text = c.args.text.now in
    let p : ℕ = position_or_len (λ (b : ℕ). eqb b c.args.stop) text in
    let found =
    position_from_yields_List (λ (b : ℕ). eqb b c.args.stop) _ _ c.position.result c.position.ensures.ran
    (YieldsList-from_slice text cc) (λ x b q k. search (rules, tests))
    in
    c.unwrap_or.ensures ∙ ap (λ r. unwrap_or r (length text)) found ∙ place_or_length p (length text) (prefix_len-le-length _ text)
    ∙ sym (before_is c.args.stop text)
