-- hcase: 8 of its slot. Assumes nothing.
use Rattle.rules.specs.Causes.{own_causes}
use Rattle.causes.proofs.channels.hcase.Goals as goal

pub returns : goal.returns
unfolding own_causes
returns c g places w e = c.held_slot.ensures g w e
