-- split: 8 of its slots, 11. Assumes nothing.
use Rattle.std.proofs.Common.{◌≡◌, refl, sym, ◌∙◌, List, [], ◌∷◌, ℕ, eqb}
use Rattle.rules.specs.State.{Registers}
use Rattle.rules.specs.Refusal.{Row, refused, unless}
use Rattle.rules.specs.Causes.{own_causes, taken, stack_not_empty}
use Rattle.causes.specs.Own.{rows_reply}
use Rattle.causes.proofs.OwnRows.{three_rows, first_refuse, first_pass}
use Rattle.causes.proofs.channels.split.Goals as goal
use Rattle.causes.proofs.channels.split.Goals.{then-eq-via-then-eq, then-eq-via-else-eq+then-taken}
use Rattle.causes.proofs.channels.split.Goals.{then-eq-via-else-eq+else-taken+then-taken-2}

-- the rows behind those of its slots' numbers and of c
abbrev behind : (c a b : ℕ) → Registers → List Row
behind c a b g = (8, eqb a b) ∷ (8, taken a c g) ∷ (8, taken b c g) ∷ (11, stack_not_empty g) ∷ []

pub returns-in_err-three_slots : goal.returns-in_err-three_slots
unfolding own_causes
returns-in_err-three_slots c g w e =
    let a = c.args in
    first_refuse (three_rows a.c.0 a.a.0 a.b.0 g) _ _ _ c.from_residual.ensures.1 (c.in_err-three_slots.ensures.is g w e)

pub returns-then-eq : goal.returns-then-eq
unfolding own_causes unless
returns-then-eq c g w e =
    let a = c.args in
    let rest : refused 8 ≡ rows_reply (behind a.c.0 a.a.0 a.b.0 g) = elim c.then-eq.branch [
      | then-eq-via-then-eq k ↦ rw (sym k.if-eq.ensures) refl
      | then-eq-via-else-eq+then-taken k ↦ rw (sym k.if-eq.ensures, sym (k.if-taken.ensures g w e)) refl
      | then-eq-via-else-eq+else-taken+then-taken-2 k ↦
          rw (sym k.if-eq.ensures, sym (k.if-taken.ensures g w e), sym (k.if-taken-2.ensures g w e)) refl
    ] in
    rest ∙ first_pass (three_rows a.c.0 a.a.0 a.b.0 g) (behind a.c.0 a.a.0 a.b.0 g) (c.in_ok-three_slots.ensures.is g w e)

pub returns : goal.returns
unfolding own_causes unless
returns c g w e =
    let a = c.args in
    let rest : _ ≡ rows_reply (behind a.c.0 a.a.0 a.b.0 g) =
    rw (sym c.if-eq.ensures, sym (c.if-taken.ensures g w e), sym (c.if-taken-2.ensures g w e)) (c.empty_stack.ensures g w e) in
    rest ∙ first_pass (three_rows a.c.0 a.a.0 a.b.0 g) (behind a.c.0 a.a.0 a.b.0 g) (c.in_ok-three_slots.ensures.is g w e)
