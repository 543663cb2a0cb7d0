-- `code::forms::split_at` meets its contract: three slots, each where the form has it. Assumes nothing.
use Rattle.rules.specs.Instruction.{instruction_at}
use Rattle.code.proofs.forms.split_at.Goals as goal

pub returns : goal.returns
unfolding instruction_at
returns c = cc
