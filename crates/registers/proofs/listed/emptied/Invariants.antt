-- `emptied` empties one listed slot after the other. The invariant: those in front are emptied. Assumes nothing.
use Rattle.std.proofs.Common.{◌≡◌, length, take}
use Rattle.rules.specs.Limits.{slot_count}
use Rattle.rules.specs.Slots.{Slots, all_emptied}
use Rattle.registers.specs.Registers.{slot_bytes}
use Rattle.registers.proofs.listed.emptied.Given as goal

abbrev pub invariant-loop-c : goal.invariant-loop-c
invariant-loop-c at =
    (l : Slots) → length l ≡ slot_count → at.initial.rest ≡ slot_bytes l → at.rest ≡ slot_bytes (all_emptied l (take at.c-index at.listed))
