-- same: 8 of its slots, 10, 11. Assumes nothing.
use Rattle.std.proofs.Common.{refl, sym}
use Rattle.rules.specs.Refusal.{unless}
use Rattle.rules.specs.Causes.{own_causes}
use Rattle.causes.proofs.processes.same.Goals as goal
use Rattle.causes.proofs.processes.same.Goals.{then-over-via-then-over, then-over-via-else-over+then-over-2}
use Rattle.causes.proofs.processes.same.Goals.{then-over-via-else-over+else-over-2+then-empty}
use Rattle.causes.proofs.processes.same.Goals.{then-over-via-else-over+else-over-2+else-empty+then-empty-2}

pub returns-then-over : goal.returns-then-over
unfolding own_causes unless
returns-then-over c g w e = elim c.then-over.branch [
  | then-over-via-then-over k ↦ rw (sym k.if-over.ensures) refl
  | then-over-via-else-over+then-over-2 k ↦ rw (sym k.if-over.ensures, sym k.if-over-2.ensures) refl
  | then-over-via-else-over+else-over-2+then-empty k ↦
      rw (sym k.if-over.ensures, sym k.if-over-2.ensures, sym (k.if-empty.ensures g w e)) refl
  | then-over-via-else-over+else-over-2+else-empty+then-empty-2 k ↦
      rw (sym k.if-over.ensures, sym k.if-over-2.ensures, sym (k.if-empty.ensures g w e), sym (k.if-empty-2.ensures g w e)) refl
]

pub returns-then-others_than_both_held : goal.returns-then-others_than_both_held
unfolding own_causes unless
returns-then-others_than_both_held c g w e =
    rw (
      sym c.if-over.ensures,
      sym c.if-over-2.ensures,
      sym (c.if-empty.ensures g w e),
      sym (c.if-empty-2.ensures g w e),
      sym (c.if-others_than_both_held.ensures g w e),
    ) refl

pub returns : goal.returns
unfolding own_causes unless
returns c g w e =
    rw (
      sym c.if-over.ensures,
      sym c.if-over-2.ensures,
      sym (c.if-empty.ensures g w e),
      sym (c.if-empty-2.ensures g w e),
      sym (c.if-others_than_both_held.ensures g w e),
    ) (c.empty_stack.ensures g w e)
