-- `any` tests one listed slot after the other. Assumes nothing.
use Rattle.std.proofs.Common.{◌∙◌, rules}
use borrow.Author.Tests.{tests}
use Rattle.std.proofs.lemmas.Iterator.{YieldsList-from_slice}
use Rattle.std.proofs.lemmas.Iterator.Search.{any_from_yields_List}
use Rattle.rules.specs.Slots.{is_empty}
use Rattle.registers.proofs.SlotLaws.{zero_empty}
use Rattle.registers.proofs.Search.{empty_any}
use Rattle.registers.proofs.listed.any_empty.Goals as goal

pub returns : goal.returns
returns c l n e =
    let cs = c.args.listed.now in
    any_from_yields_List (is_empty l) _ _ _ c.any.ensures.ran (YieldsList-from_slice cs (cc))
    (λ x b q k. search (rules, tests, zero_empty, n, e))
    ∙ empty_any l cs
