-- fork: 8 of its slots and of the sets, 10, 11. Assumes nothing.
use Rattle.std.proofs.Common.{◌≡◌, refl, sym, ◌∙◌, List, [], ◌∷◌, ℕ}
use Rattle.rules.specs.State.{Registers}
use Rattle.rules.specs.Refusal.{Row, refused, unless}
use Rattle.rules.specs.Slots.{in_set, overlap, not_together, emptied}
use Rattle.rules.specs.Causes.{own_causes, stack_not_empty}
use Rattle.causes.specs.Own.{rows_reply}
use Rattle.causes.proofs.OwnRows.{three_rows, first_refuse, first_pass}
use Rattle.causes.proofs.channels.fork.Goals as goal
use Rattle.causes.proofs.channels.fork.Goals.{then-in_set-via-then-in_set, then-in_set-via-else-in_set+then-in_set-2}
use Rattle.causes.proofs.channels.fork.Goals.{then-overlap-via-then-overlap, then-overlap-via-else-overlap+then-others_not_together}

-- the rows behind those of its slots' numbers and of c
abbrev behind : (c a b m n : ℕ) → Registers → List Row
behind c a b m n g =
    (8, in_set m a) ∷ (8, in_set n b) ∷ (10, overlap m n g.slots) ∷ (10, not_together m n (emptied g.slots c)) ∷ (11, stack_not_empty g)
    ∷ []

pub returns-in_err-three_slots : goal.returns-in_err-three_slots
unfolding own_causes
returns-in_err-three_slots c g w e =
    let a = c.args in
    first_refuse (three_rows a.c.0 a.a.0 a.b.0 g) _ _ _ c.from_residual.ensures.1 (c.in_err-three_slots.ensures.is g w e)

pub returns-then-in_set : goal.returns-then-in_set
unfolding own_causes unless
returns-then-in_set c g w e =
    let a = c.args in
    let rest : refused 8 ≡ rows_reply (behind a.c.0 a.a.0 a.b.0 a.first.set a.second.set g) = elim c.then-in_set.branch [
      | then-in_set-via-then-in_set k ↦ rw (sym k.if-in_set.ensures) refl
      | then-in_set-via-else-in_set+then-in_set-2 k ↦ rw (sym k.if-in_set.ensures, sym k.if-in_set-2.ensures) refl
    ] in
    rest ∙ first_pass (three_rows a.c.0 a.a.0 a.b.0 g) (behind a.c.0 a.a.0 a.b.0 a.first.set a.second.set g)
    (c.in_ok-three_slots.ensures.is g w e)

pub returns-then-overlap : goal.returns-then-overlap
unfolding own_causes unless
returns-then-overlap c g w e =
    let a = c.args in
    let rest : refused 10 ≡ rows_reply (behind a.c.0 a.a.0 a.b.0 a.first.set a.second.set g) = elim c.then-overlap.branch [
      | then-overlap-via-then-overlap k ↦
          rw (sym c.if-in_set.ensures, sym c.if-in_set-2.ensures, sym (k.if-overlap.ensures g.slots w.slots_within)) refl
      | then-overlap-via-else-overlap+then-others_not_together k ↦
          rw (
            sym c.if-in_set.ensures,
            sym c.if-in_set-2.ensures,
            sym (k.if-overlap.ensures g.slots w.slots_within),
            sym (k.if-others_not_together.ensures g w e),
          ) refl
    ] in
    rest ∙ first_pass (three_rows a.c.0 a.a.0 a.b.0 g) (behind a.c.0 a.a.0 a.b.0 a.first.set a.second.set g)
    (c.in_ok-three_slots.ensures.is g w e)

pub returns : goal.returns
unfolding own_causes unless
returns c g w e =
    let a = c.args in
    let rest : _ ≡ rows_reply (behind a.c.0 a.a.0 a.b.0 a.first.set a.second.set g) =
    rw (
      sym c.if-in_set.ensures,
      sym c.if-in_set-2.ensures,
      sym (c.if-overlap.ensures g.slots w.slots_within),
      sym (c.if-others_not_together.ensures g w e),
    ) (c.empty_stack.ensures g w e) in
    rest ∙ first_pass (three_rows a.c.0 a.a.0 a.b.0 g) (behind a.c.0 a.a.0 a.b.0 a.first.set a.second.set g)
    (c.in_ok-three_slots.ensures.is g w e)
