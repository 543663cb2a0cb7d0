-- halt: 8 of its slot, 10, 11. Assumes nothing.
use Rattle.std.proofs.Common.{◌≡◌, refl, sym, ◌∙◌, List, [], ◌∷◌, ℕ}
use Rattle.rules.specs.State.{Registers}
use Rattle.rules.specs.Refusal.{Row, refused, unless}
use Rattle.rules.specs.Causes.{own_causes, others_held, stack_not_empty}
use Rattle.causes.specs.Own.{rows_reply}
use Rattle.causes.proofs.OwnRows.{slot_rows, first_refuse, first_pass}
use Rattle.causes.proofs.channels.halt.Goals as goal

-- the rows behind those of its slot
abbrev behind : (c : ℕ) → Registers → List Row
behind c g = (10, others_held c g) ∷ (11, stack_not_empty g) ∷ []

pub returns-in_err-held_slot : goal.returns-in_err-held_slot
unfolding own_causes
returns-in_err-held_slot c g w e = first_refuse (slot_rows c.args.c.0 g) _ _ _ c.from_residual.ensures.1 (c.in_err-held_slot.ensures g w e)

pub returns-then-others_held : goal.returns-then-others_held
unfolding own_causes unless
returns-then-others_held c g w e =
    let rest : refused 10 ≡ rows_reply (behind c.args.c.0 g) = rw (sym (c.if-others_held.ensures g w e)) refl in
    rest ∙ first_pass (slot_rows c.args.c.0 g) (behind c.args.c.0 g) (c.in_ok-held_slot.ensures g w e)

pub returns : goal.returns
unfolding own_causes unless
returns c g w e =
    let rest : _ ≡ rows_reply (behind c.args.c.0 g) = rw (sym (c.if-others_held.ensures g w e)) (c.empty_stack.ensures g w e) in
    rest ∙ first_pass (slot_rows c.args.c.0 g) (behind c.args.c.0 g) (c.in_ok-held_slot.ensures g w e)
