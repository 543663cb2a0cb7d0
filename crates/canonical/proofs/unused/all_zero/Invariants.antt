-- `all_zero` joins all bytes by or. The invariant: what is joined so far is zero exactly if the first i bytes are. Assumes nothing.
use Rattle.std.proofs.Common.{◌≡◌, take, eqb}
use Rattle.canonical.specs.Canonical.{all_zero}
use Rattle.canonical.proofs.unused.all_zero.Given as goal

abbrev pub invariant-loop-b : goal.invariant-loop-b
invariant-loop-b l = eqb l.any 0 ≡ all_zero (take l.b-index l.bytes)
