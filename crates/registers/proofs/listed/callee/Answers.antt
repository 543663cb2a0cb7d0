-- Slot by slot. Assumes nothing.
use Rattle.std.proofs.Common.{◌≡◌, ℕ, ◌<◌, get_or, rules}
use mathlib.Core.Option.{none}
use Rattle.rules.specs.Limits.{slot_count}
use Rattle.rules.specs.Slots.{callee_slots}
use Rattle.rules.specs.Layout.{optional}
use Rattle.words.proofs.Tables.{filled_from_fn}
use Rattle.registers.proofs.SlotLaws.{slots_are}
use Rattle.registers.proofs.ListedLaws.{given, callee_slot}
use Rattle.registers.proofs.listed.callee.Goals as goal

pub returns : goal.returns
returns c l n e =
    let cs = c.args.listed.now in
    let f =
    filled_from_fn 0 (λ (j : ℕ). optional (get_or (callee_slots l cs) j none)) c.from_fn.ensures.items
    (λ i x q h k.
    let small : i < slot_count = h in
    let same : get_or (given l cs) i none ≡ get_or (callee_slots l cs) i none = callee_slot l cs i small in
    search (rules, same, n, e)) in
    slots_are (callee_slots l cs) f.size (λ j h. f.done j h)
