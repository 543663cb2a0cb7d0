-- `save_waiting` saves with the status of a record that waits. Assumes nothing.
use Rattle.std.proofs.Common.{◌∙◌}
use Rattle.rules.specs.State.{waiting}
use Rattle.rules.specs.Numbers.{record_number}
use Rattle.registers.proofs.WriteLaws.{record_saved}
use Rattle.registers.proofs.records.save_waiting.Goals as goal

pub returns : goal.returns
returns c st g z e x = c.save.ensures g x ∙ record_saved st z (record_number c.args.r) (waiting g) c.requires.1 e
