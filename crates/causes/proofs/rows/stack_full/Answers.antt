-- `stack_full` looks at the count of the stack. Assumes nothing.
use Rattle.std.proofs.Common.{ap, ℕ, leb}
use Rattle.rules.specs.Limits.{stack_depth}
use Rattle.registers.proofs.Fields.{by_fields}
use Rattle.causes.proofs.rows.stack_full.Goals as goal

pub returns : goal.returns
returns c g w e = ap (λ (k : ℕ). leb stack_depth k) (by_fields g e).stack_count_is
