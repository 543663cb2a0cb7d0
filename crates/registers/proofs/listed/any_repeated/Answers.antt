-- `any` looks for one listed slot after the other behind it. Assumes nothing.
use Rattle.std.proofs.Common.{◌∙◌, rules}
use borrow.Author.Tests.{tests}
use Rattle.std.proofs.lemmas.Iterator.{YieldsList-from_slice}
use Rattle.std.proofs.lemmas.Iterator.Consumers.{YieldsList-from_enumerate}
use Rattle.std.proofs.lemmas.Iterator.Search.{any_from_yields_List}
use Rattle.registers.proofs.Search.{repeats, repeated_any}
use Rattle.registers.proofs.listed.any_repeated.Goals as goal

pub returns : goal.returns
returns c =
    let cs = c.args.listed.now in
    let places = YieldsList-from_enumerate (YieldsList-from_slice cs (cc)) (cc) in
    any_from_yields_List (repeats cs) _ _ _ c.any.ensures.ran places (λ x b q k. search (rules, tests)) ∙ repeated_any cs
