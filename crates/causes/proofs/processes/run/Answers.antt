-- run: 5, 8 of the listed slots, 10. Assumes nothing.
use Rattle.std.proofs.Common.{refl, sym}
use Rattle.rules.specs.Refusal.{unless}
use Rattle.rules.specs.Causes.{own_causes}
use Rattle.causes.proofs.processes.run.Goals as goal
use Rattle.causes.proofs.processes.run.Goals.{then-any_over-via-then-any_over, then-any_over-via-else-any_over+then-any_empty}
use Rattle.causes.proofs.processes.run.Goals.{then-any_repeated-via-then-any_repeated}
use Rattle.causes.proofs.processes.run.Goals.{then-any_repeated-via-else-any_repeated+then-any_held_but}

pub returns-then-fewer : goal.returns-then-fewer
unfolding own_causes unless
returns-then-fewer c g place w e = rw (sym (c.if-fewer.ensures g w e)) refl

pub returns-then-any_over : goal.returns-then-any_over
unfolding own_causes unless
returns-then-any_over c g place w e = elim c.then-any_over.branch [
  | then-any_over-via-then-any_over k ↦ rw (sym (c.if-fewer.ensures g w e), sym k.if-any_over.ensures) refl
  | then-any_over-via-else-any_over+then-any_empty k ↦
      rw (sym (c.if-fewer.ensures g w e), sym k.if-any_over.ensures, sym (k.if-any_empty.ensures g w.slots_within e)) refl
]

pub returns-then-any_repeated : goal.returns-then-any_repeated
unfolding own_causes unless
returns-then-any_repeated c g place w e = elim c.then-any_repeated.branch [
  | then-any_repeated-via-then-any_repeated k ↦
      rw (
        sym (c.if-fewer.ensures g w e),
        sym c.if-any_over.ensures,
        sym (c.if-any_empty.ensures g w.slots_within e),
        sym k.if-any_repeated.ensures,
      ) refl
  | then-any_repeated-via-else-any_repeated+then-any_held_but k ↦
      rw (
        sym (c.if-fewer.ensures g w e),
        sym c.if-any_over.ensures,
        sym (c.if-any_empty.ensures g w.slots_within e),
        sym k.if-any_repeated.ensures,
        sym (k.if-any_held_but.ensures g w.slots_within e),
      ) refl
]

pub returns : goal.returns
unfolding own_causes unless
returns c g place w e =
    rw (
      sym (c.if-fewer.ensures g w e),
      sym c.if-any_over.ensures,
      sym (c.if-any_empty.ensures g w.slots_within e),
      sym c.if-any_repeated.ensures,
      sym (c.if-any_held_but.ensures g w.slots_within e),
    ) refl
