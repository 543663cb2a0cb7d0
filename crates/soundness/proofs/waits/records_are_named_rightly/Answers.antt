-- `all` tests one record after the other, with its count. Assumes nothing.
use Rattle.std.proofs.Common.{◌≡◌, ◌∙◌, refl, Bool, ℕ, get_or, eqb, rules}
use borrow.Author.Tests.{tests}
use Rattle.std.proofs.lemmas.Iterator.{YieldsList-from_range}
use Rattle.std.proofs.lemmas.Iterator.Search.{all_from_yields_List}
use Rattle.rules.specs.Limits.{record_count}
use Rattle.rules.specs.State.{record_at}
use Rattle.rules.specs.Sound.{is_waiting}
use Rattle.rules.specs.SoundTest.{waits_test}
use Rattle.rules.specs.Layout.{view}
use Rattle.rules.specs.Layout.{layout}
use Rattle.words.specs.Parts.{Bytes}
use Rattle.keeping.proofs.LayoutLaws.{Sized}
use Rattle.soundness.proofs.Every.{every_all}
use Rattle.soundness.proofs.Waiting.{waits_test_lem}
use Rattle.soundness.proofs.Instructions.{shown_sized, shown_layout}
use Rattle.soundness.proofs.waits.records_are_named_rightly.Goals as goal

pub returns : goal.returns
returns c =
    let m = c.args.m.now in
    let bytes : Bytes m = λ j. (c.type_inv.m j).fits in
    let counts = c.wait_counts-counts.result in
    let named : ℕ → Bool = λ r. eqb (get_or counts r 0) (is_waiting (record_at (view m) r)) in
    all_from_yields_List named _ _ _ c.all.ensures.ran (YieldsList-from_range 0 record_count record_count (cc) refl)
    (λ x b q k.
    let sized : Sized (view m) = shown_sized m bytes c.requires.0 c.requires.1 in
    let laid_out : m ≡ layout (view m) = shown_layout m bytes c.requires.0 c.requires.1 in
    search (rules, tests, sized, laid_out))
    ∙ every_all named (waits_test (view m)) record_count (λ k h. waits_test_lem (view m) k (c.wait_counts-counts.ensures.counted k h))
