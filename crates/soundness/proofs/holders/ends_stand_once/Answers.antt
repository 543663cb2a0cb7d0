-- `all` tests one end after the other, with its count. Assumes nothing.
use Rattle.std.proofs.Common.{◌≡◌, true, ◌∙◌, refl, Bool, ℕ, ◌+◌, ◌≤◌, get_or, eqb, arith, rules}
use borrow.Author.Tests.{tests}
use Rattle.std.proofs.lemmas.Iterator.{YieldsList-from_range, serves_from_Range}
use Rattle.std.proofs.lemmas.Iterator.Search.{all_from_yields_List}
use Rattle.rules.specs.Limits.{end_count}
use Rattle.rules.specs.State.{end_at}
use Rattle.rules.specs.Sound.{given_up, in_use}
use Rattle.rules.specs.SoundTest.{places_test}
use Rattle.rules.specs.Layout.{view}
use Rattle.canonical.specs.Canonical.{end_test}
use Rattle.soundness.specs.Counts.{places_in_all}
use Rattle.soundness.proofs.Every.{every_all}
use Rattle.soundness.proofs.Standing.{end_canonical, places_test_lem}
use Rattle.soundness.proofs.holders.ends_stand_once.Goals as goal

pub all-requires-clause-callable : goal.all-requires-clause-callable
all-requires-clause-callable c =
    let m = c.args.m.now in
    let counts = c.standing_counts-counts.ensures in
    serves_from_Range (λ x q r. search rules)
    (λ e from below.
    let end : end_test m e ≡ true = end_canonical m c.requires.1 e (omega arith) in
    let small : get_or c.standing_counts-counts.result e 0 ≤ places_in_all = counts.small e in
    search (rules, end, small))

pub returns : goal.returns
returns c =
    let m = c.args.m.now in
    let counts = c.standing_counts-counts.result in
    let once : ℕ → Bool = λ e. eqb (get_or counts e 0 + given_up (end_at (view m) e)) (in_use (end_at (view m) e)) in
    all_from_yields_List once _ _ _ c.all.ensures.ran (YieldsList-from_range 0 end_count end_count (cc) refl)
    (λ x b q k. search (rules, tests))
    ∙ every_all once (places_test (view m)) end_count (λ e h. places_test_lem m e refl (c.standing_counts-counts.ensures.counted e h))
