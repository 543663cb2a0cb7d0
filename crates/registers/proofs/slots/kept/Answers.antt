-- Slot by slot. Assumes nothing.
use Rattle.std.proofs.Common.{◌≡◌, ℕ, ◌<◌, get_or, rules}
use borrow.Author.Tests.{tests}
use Rattle.rules.specs.Limits.{slot_count}
use Rattle.rules.specs.Slots.{in_set, kept_if}
use mathlib.Core.Option.{none}
use Rattle.rules.specs.Slots.{kept_by}
use Rattle.rules.specs.Layout.{optional}
use Rattle.words.proofs.Tables.{filled_from_fn}
use Rattle.registers.proofs.SlotLaws.{slot_byte, slots_are, kept_slot}
use Rattle.registers.proofs.slots.kept.Goals as goal

pub returns : goal.returns
returns c l n e =
    let a = c.args in
    let f =
    filled_from_fn 0 (λ (j : ℕ). optional (get_or (kept_by a.m l) j none)) c.from_fn.ensures.items
    (λ i x q h k.
    let small : i < slot_count = h in
    let there : get_or a.slots i 0 ≡ optional (get_or l i none) = slot_byte l i small e in
    let same : get_or (kept_by a.m l) i none ≡ kept_if (in_set a.m i) (get_or l i none) = kept_slot a.m l i in
    search (rules, tests, there, same)) in
    slots_are (kept_by a.m l) f.size (λ j h. f.done j h)
