-- `held_slot`: the first of its two rows that holds, or none. Assumes nothing.
use Rattle.std.proofs.Common.{refl, sym}
use Rattle.rules.specs.Refusal.{unless}
use Rattle.causes.proofs.rows.held_slot.Goals as goal
use Rattle.causes.proofs.rows.held_slot.Goals.{then-over-via-then-over, then-over-via-else-over+then-empty}

pub returns-then-over : goal.returns-then-over
unfolding unless
returns-then-over c g w e =
    elim c.then-over.branch [
      | then-over-via-then-over b ↦ rw (sym b.if-over.ensures) refl
      | then-over-via-else-over+then-empty b ↦ rw (sym b.if-over.ensures, sym (b.if-empty.ensures g w e)) refl
    ]

pub returns : goal.returns
unfolding unless
returns c g w e = rw (sym c.if-over.ensures, sym (c.if-empty.ensures g w e)) refl
