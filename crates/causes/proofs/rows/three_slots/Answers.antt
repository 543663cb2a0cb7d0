-- `three_slots`: the first of its four rows that holds, or none. Assumes nothing.
use Rattle.std.proofs.Common.{refl, sym}
use Rattle.rules.specs.Refusal.{unless}
use Rattle.causes.proofs.rows.three_slots.Goals as goal
use Rattle.causes.proofs.rows.three_slots.Goals.{then-over-via-then-over, then-over-via-else-over+then-over-2}
use Rattle.causes.proofs.rows.three_slots.Goals.{then-over-via-else-over+else-over-2+then-over-3}
use Rattle.causes.proofs.rows.three_slots.Goals.{then-over-via-else-over+else-over-2+else-over-3+then-empty}

pub returns-then-over-clause-is : goal.returns-then-over-clause-is
unfolding unless
returns-then-over-clause-is c g w e =
    elim c.then-over.branch [
      | then-over-via-then-over b ↦ rw (sym b.if-over.ensures) refl
      | then-over-via-else-over+then-over-2 b ↦ rw (sym b.if-over.ensures, sym b.if-over-2.ensures) refl
      | then-over-via-else-over+else-over-2+then-over-3 b ↦
          rw (sym b.if-over.ensures, sym b.if-over-2.ensures, sym b.if-over-3.ensures) refl
      | then-over-via-else-over+else-over-2+else-over-3+then-empty b ↦
          rw (sym b.if-over.ensures, sym b.if-over-2.ensures, sym b.if-over-3.ensures, sym (b.if-empty.ensures g w e)) refl
    ]

pub returns-clause-is : goal.returns-clause-is
unfolding unless
returns-clause-is c g w e =
    rw (sym c.if-over.ensures, sym c.if-over-2.ensures, sym c.if-over-3.ensures, sym (c.if-empty.ensures g w e)) refl
