-- `all` tests one record after the other. Assumes nothing.
use Rattle.std.proofs.Common.{◌≡◌, ◌∙◌, refl, Bool, ℕ, rules}
use borrow.Author.Tests.{tests}
use Rattle.std.proofs.lemmas.Iterator.{YieldsList-from_range}
use Rattle.std.proofs.lemmas.Iterator.Search.{all_from_yields_List}
use Rattle.rules.specs.Limits.{record_count}
use Rattle.rules.specs.State.{free_record, record_at, is_free_record}
use Rattle.rules.specs.Layout.{layout, view}
use Rattle.keeping.proofs.LayoutLaws.{Sized}
use Rattle.stepping.proofs.Steps.{memory_sized}
use Rattle.runner.proofs.Verdicts.{free_told, places_all}
use Rattle.runner.proofs.verdict.records_are_free.Goals as goal

pub returns : goal.returns
returns c =
    let m = c.args.m.now in
    let free : ℕ → Bool = λ r. is_free_record (record_at (view m) r) in
    all_from_yields_List free _ _ _ c.all.ensures.ran (YieldsList-from_range 0 record_count record_count (cc) refl)
    (λ x b q k.
    let s = c.requires.1 in
    let sized : Sized (view m) = memory_sized m s in
    let laid_out : m ≡ layout (view m) = s.laid_out in
    search (rules, tests, sized, laid_out, free_told))
    ∙ places_all is_free_record free_record free (view m).records c.requires.1.state_sound.S1.record_count_is (λ k. refl)
