-- The steps one after the other. The invariant: those made so far are the steps of the budget used so far. Assumes nothing.
use Rattle.std.proofs.Common.{◌≡◌, ◌≤◌, length}
use Rattle.rules.specs.Layout.{view}
use Rattle.runner.proofs.Making.{MadeSoFar}
use Rattle.runner.proofs.running.make_steps.Given as goal

abbrev pub invariant-loop-made : goal.invariant-loop-made
invariant-loop-made l = (l.made ≤ l.budget) × (length l.m ≡ length l.initial.m) × MadeSoFar (view l.initial.m) l.start l.made l.next l.m
