-- `any` holds one slot after the other against the bits of both sets. Assumes nothing.
use Rattle.std.proofs.Common.{◌∙◌, refl, rules}
use borrow.Author.Tests.{tests}
use Rattle.std.proofs.lemmas.Iterator.{YieldsList-from_range}
use Rattle.std.proofs.lemmas.Iterator.Search.{any_from_yields_List}
use Rattle.rules.specs.Limits.{slot_count}
use Rattle.registers.proofs.Search.{differs_at, together_any}
use Rattle.registers.proofs.slots.not_together.Goals as goal

pub returns : goal.returns
returns c l n e =
    let a = c.args in
    any_from_yields_List (differs_at a.m a.n a.slots) _ _ _ c.any.ensures.ran (YieldsList-from_range 0 slot_count slot_count (cc) refl)
    (λ x b q k. search (rules, tests))
    ∙ together_any a.m a.n l n e
