-- put: 5, then 8 of its slot. Assumes nothing.
use Rattle.std.proofs.Common.{refl, sym}
use Rattle.rules.specs.Refusal.{unless}
use Rattle.rules.specs.Causes.{own_causes}
use Rattle.causes.proofs.channels.put.Goals as goal

pub returns-then-fewer : goal.returns-then-fewer
unfolding own_causes unless
returns-then-fewer c g w e = rw (sym (c.if-fewer.ensures g w e)) refl

pub returns : goal.returns
unfolding own_causes unless
returns c g w e = rw (sym (c.if-fewer.ensures g w e)) (c.held_slot.ensures g w e)
