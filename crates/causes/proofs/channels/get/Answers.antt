-- get: 6, then 8 of its slot. Assumes nothing.
use Rattle.std.proofs.Common.{refl, sym}
use Rattle.rules.specs.Refusal.{unless}
use Rattle.rules.specs.Causes.{own_causes}
use Rattle.causes.proofs.channels.get.Goals as goal

pub returns-then-stack_full : goal.returns-then-stack_full
unfolding own_causes unless
returns-then-stack_full c g w e = rw (sym (c.if-stack_full.ensures g w e)) refl

pub returns : goal.returns
unfolding own_causes unless
returns c g w e = rw (sym (c.if-stack_full.ensures g w e)) (c.held_slot.ensures g w e)
