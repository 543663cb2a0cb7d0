-- The lines one after the other. The invariant: those of the steps made so far stand on the page. Assumes nothing.
use Rattle.std.proofs.Common.{◌≡◌, ◌≤◌, length}
use Rattle.rules.specs.Printed.{trace_budget}
use Rattle.rules.specs.Layout.{view}
use Rattle.printed.proofs.RunLines.{LinesSoFar}
use Rattle.printed.proofs.tracing.put_steps.Given as goal

abbrev pub invariant-loop-made : goal.invariant-loop-made
invariant-loop-made l = (l.made ≤ trace_budget) × (length l.m ≡ length l.initial.m)
    × LinesSoFar (view l.initial.m) l.initial.page l.made l.next l.m l.page
