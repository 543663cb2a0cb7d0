-- The code's length in a sound memory is within its limit. Assumes nothing.
use Rattle.keeping.proofs.Memories.{memory_length}
use Rattle.stepping.proofs.Steps.{code_fits}
use Rattle.stepping.proofs.code.Goals as goal

pub code-requires : goal.code-requires
code-requires c = (memory_length _ c.requires, code_fits _ c.requires)
