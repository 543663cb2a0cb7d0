-- `code::forms::plug_at` meets its contract: a slot and two branches, each where the form has it. Assumes nothing.
use Rattle.rules.specs.Instruction.{instruction_at}
use Rattle.code.proofs.forms.plug_at.Goals as goal

pub returns : goal.returns
unfolding instruction_at
returns c = cc
