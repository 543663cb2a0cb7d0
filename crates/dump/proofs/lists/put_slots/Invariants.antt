-- One slot after the other. The invariant: those of the first c slots that hold an end stand. Assumes nothing.
use Rattle.dump.proofs.HeldSlots.{SlotsSoFar}
use Rattle.dump.proofs.lists.put_slots.Given as goal

abbrev pub invariant-loop-c : goal.invariant-loop-c
invariant-loop-c l = SlotsSoFar l.initial.page l.slots l.page l.shown l.c
