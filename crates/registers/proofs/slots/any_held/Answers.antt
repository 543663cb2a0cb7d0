-- `any` tests one slot's byte after the other. Assumes nothing.
use Rattle.std.proofs.Common.{◌∙◌, ap, map, rules}
use mathlib.Core.Option.{none}
use Rattle.rules.specs.Limits.{slot_count}
use Rattle.rules.specs.Layout.{optional}
use Rattle.words.proofs.Pads.{pad_same}
use borrow.Author.Tests.{tests}
use Rattle.std.proofs.lemmas.Iterator.{YieldsList-from_slice}
use Rattle.std.proofs.lemmas.Iterator.Search.{any_from_yields_List}
use Rattle.std.specs.List.{list_any}
use Rattle.registers.proofs.Search.{byte_held, held_any}
use Rattle.registers.proofs.slots.any_held.Goals as goal

pub returns : goal.returns
returns c l n e =
    let held = c.args.slots in
    any_from_yields_List byte_held _ _ _ c.any.ensures.ran (YieldsList-from_slice held (cc)) (λ x b q k. search (rules, tests))
    ∙ ap (list_any byte_held) (e ∙ ap (map optional) (pad_same slot_count none l n)) ∙ held_any l
