-- `code::lengths::length_table` meets its contract: the constant's 256 rows are the lengths of the definition, computed once over the
-- whole table. Assumes nothing.
use Rattle.std.proofs.Common.{refl}
use Rattle.rules.specs.Bytes.{table}
use Rattle.rules.specs.Instruction.{lengths, form_of, form_in}
use Rattle.code.proofs.lengths.length_table.Goals as goal

pub returns : goal.returns
unfolding lengths table form_of form_in
returns c = refl
