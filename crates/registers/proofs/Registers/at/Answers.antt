-- `at` sets the place. Assumes nothing.
use Rattle.registers.proofs.Fields.{by_fields, from_fields, with_place}
use Rattle.registers.proofs.Registers.at.Goals as goal

pub returns : goal.returns
returns c g e = from_fields _ (with_place g (by_fields g e) c.args.place)
