-- `pass` stores one value after the other. The invariant: the values so far are stored. Assumes nothing.
use Rattle.std.proofs.Common.{◌≡◌, [], ◌+◌, ◌-◌, ◌≤◌, length}
use Rattle.rules.specs.Limits.{stack_depth}
use Rattle.rules.specs.State.{Registers as Process, registers}
use Rattle.registers.specs.Registers.{registers_of, passed}
use Rattle.registers.proofs.Registers.pass.Given as goal

abbrev pub invariant-loop : goal.invariant-loop
invariant-loop l =
    (l.callee.stack_count ≡ l.initial.callee.stack_count - l.counter)
    × (l.callee.environment_count ≡ l.initial.callee.environment_count + l.counter)
    × ((g : Process) → length g.stack ≤ stack_depth → l.initial.callee ≡ registers_of (registers g.place g.stack [] g.slots)
    → l.callee ≡ registers_of (passed g l.counter))
