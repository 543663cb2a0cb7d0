-- `ends_are_canonical` looks at one end after the other. The invariant: the first e pass. Assumes nothing.
use Rattle.std.proofs.Common.{◌≡◌, true}
use Rattle.rules.specs.SoundTest.{every}
use Rattle.canonical.specs.Canonical.{end_test}
use Rattle.canonical.proofs.ends_are_canonical.Given as goal

abbrev pub invariant-loop-e : goal.invariant-loop-e
invariant-loop-e l = every (end_test l.m) l.e ≡ true
