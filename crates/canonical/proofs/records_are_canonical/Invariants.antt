-- `records_are_canonical` looks at one record after the other. The invariant: the first i pass. Assumes nothing.
use Rattle.std.proofs.Common.{◌≡◌, true}
use Rattle.rules.specs.SoundTest.{every}
use Rattle.canonical.specs.Canonical.{record_test}
use Rattle.canonical.proofs.records_are_canonical.Given as goal

abbrev pub invariant-loop-i : goal.invariant-loop-i
invariant-loop-i l = every (record_test l.m) l.i ≡ true
