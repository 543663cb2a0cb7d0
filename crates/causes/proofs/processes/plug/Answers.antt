-- plug: 8 of its slot and of the sets, 10, 11. Assumes nothing.
use Rattle.std.proofs.Common.{refl, sym}
use Rattle.rules.specs.Refusal.{unless}
use Rattle.rules.specs.Causes.{own_causes}
use Rattle.causes.proofs.processes.plug.Goals as goal
use Rattle.causes.proofs.processes.plug.Goals.{then-over-via-then-over, then-over-via-else-over+then-in_set}
use Rattle.causes.proofs.processes.plug.Goals.{then-over-via-else-over+else-in_set+then-in_set-2, then-overlap-via-then-overlap}
use Rattle.causes.proofs.processes.plug.Goals.{then-overlap-via-else-overlap+then-not_together}

pub returns-then-over : goal.returns-then-over
unfolding own_causes unless
returns-then-over c g w e = elim c.then-over.branch [
  | then-over-via-then-over k ↦ rw (sym k.if-over.ensures) refl
  | then-over-via-else-over+then-in_set k ↦ rw (sym k.if-over.ensures, sym k.if-in_set.ensures) refl
  | then-over-via-else-over+else-in_set+then-in_set-2 k ↦
      rw (sym k.if-over.ensures, sym k.if-in_set.ensures, sym k.if-in_set-2.ensures) refl
]

pub returns-then-overlap : goal.returns-then-overlap
unfolding own_causes unless
returns-then-overlap c g w e = elim c.then-overlap.branch [
  | then-overlap-via-then-overlap k ↦
      rw (sym c.if-over.ensures, sym c.if-in_set.ensures, sym c.if-in_set-2.ensures, sym (k.if-overlap.ensures g.slots w.slots_within)) refl
  | then-overlap-via-else-overlap+then-not_together k ↦
      rw (
        sym c.if-over.ensures,
        sym c.if-in_set.ensures,
        sym c.if-in_set-2.ensures,
        sym (k.if-overlap.ensures g.slots w.slots_within),
        sym (k.if-not_together.ensures g w.slots_within e),
      ) refl
]

pub returns : goal.returns
unfolding own_causes unless
returns c g w e =
    rw (
      sym c.if-over.ensures,
      sym c.if-in_set.ensures,
      sym c.if-in_set-2.ensures,
      sym (c.if-overlap.ensures g.slots w.slots_within),
      sym (c.if-not_together.ensures g w.slots_within e),
    ) (c.empty_stack.ensures g w e)
