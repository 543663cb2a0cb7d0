-- `slots_fit` is `all` of std. Assumes nothing.
use Rattle.std.proofs.Common.{sym, ◌∙◌, rules, tests}
use Rattle.std.proofs.lemmas.Iterator.{YieldsList-from_slice}
use Rattle.std.proofs.lemmas.Iterator.Search.{all_from_yields_List}
use Rattle.canonical.specs.Canonical.{slot_fits}
use Rattle.canonical.proofs.Tests.{all_is}
use Rattle.canonical.proofs.records.slots_fit.Goals as goal

pub returns : goal.returns
returns c =
    let slots = c.args.slots.now in
    all_from_yields_List slot_fits _ _ _ c.all.ensures.ran (YieldsList-from_slice slots cc) (λ x b q k. search (rules, tests))
    ∙ sym (all_is slot_fits slots)
