-- Spent, finished or stuck. Assumes nothing.
use Rattle.std.proofs.Common.{sym, ◌∙◌}
use Rattle.rules.specs.Layout.{view}
use Rattle.runner.proofs.Verdicts.{is_spent, is_finished, is_stuck}
use Rattle.runner.proofs.verdict.verdict_of.Goals as goal

pub returns-then-is_some : goal.returns-then-is_some
returns-then-is_some c = is_spent (view c.args.m.now) c.would_step.ensures c.if-is_some.ensures

pub returns-then-nothing_in_use : goal.returns-then-nothing_in_use
returns-then-nothing_in_use c =
    is_finished (view c.args.m.now) c.would_step.ensures c.if-is_some.ensures
    (sym c.nothing_in_use.ensures ∙ c.if-nothing_in_use.true)

pub returns : goal.returns
returns c =
    is_stuck (view c.args.m.now) c.would_step.ensures c.if-is_some.ensures
    (sym c.nothing_in_use.ensures ∙ c.if-nothing_in_use.false)
