-- `all` tests one end after the other. Assumes nothing.
use Rattle.std.proofs.Common.{◌∙◌, refl, rules}
use borrow.Author.Tests.{tests}
use Rattle.std.proofs.lemmas.Iterator.{YieldsList-from_range}
use Rattle.std.proofs.lemmas.Iterator.Search.{all_from_yields_List}
use Rattle.rules.specs.Limits.{end_count}
use Rattle.rules.specs.SoundTest.{paired_test}
use Rattle.rules.specs.Layout.{view}
use Rattle.soundness.proofs.Every.{every_all}
use Rattle.soundness.proofs.pairs.ends_are_paired.Goals as goal

pub returns : goal.returns
returns c =
    let test = paired_test (view c.args.m.now) in
    all_from_yields_List test _ _ _ c.all.ensures.ran (YieldsList-from_range 0 end_count end_count (cc) refl)
    (λ x b q k. search (rules, tests))
    ∙ every_all test test end_count (λ k h. refl)
