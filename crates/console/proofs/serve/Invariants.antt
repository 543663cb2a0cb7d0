-- `serve` is safe. The invariant: what is read and not yet answered stands in the input buffer. In the loop r is field by field: r.0 is
-- `from`, r.1.0 is `to`. Assumes nothing.
use Rattle.std.proofs.Common.{◌≤◌}
use Rattle.console.specs.declared.TheConstants.{INPUT_SIZE}
use Rattle.console.proofs.serve.Given as goal

abbrev pub invariant-loop : goal.invariant-loop
invariant-loop g l = (l.r.0 ≤ l.r.1.0) × (l.r.1.0 ≤ INPUT_SIZE)
