-- `any_nonzero` is `any` of std. Assumes nothing.
use Rattle.std.proofs.Common.{sym, ◌∙◌, ℕ, eqb, not, rules, tests}
use Rattle.std.proofs.lemmas.Iterator.{YieldsList-from_slice}
use Rattle.std.proofs.lemmas.Iterator.Search.{any_from_yields_List}
use Rattle.image.proofs.Zeros.{any_nonzero_is}
use Rattle.image.proofs.reading.any_nonzero.Goals as goal

pub returns : goal.returns
returns c =
    let bytes = c.args.bytes.now in
    any_from_yields_List (λ (b : ℕ). not (eqb b 0)) _ _ _ c.any.ensures.ran (YieldsList-from_slice bytes cc)
    (λ x b q k. search (rules, tests))
    ∙ sym (any_nonzero_is bytes)
