-- `fewer` looks at the count of the stack. Assumes nothing.
use Rattle.std.proofs.Common.{ap, ℕ, ltb}
use Rattle.registers.proofs.Fields.{by_fields}
use Rattle.causes.proofs.rows.fewer.Goals as goal

pub returns : goal.returns
returns c g w e = ap (λ (k : ℕ). ltb k c.args.n) (by_fields g e).stack_count_is
