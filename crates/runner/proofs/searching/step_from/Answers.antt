-- From the position up to the last one, then from the first one up to it. Assumes nothing.
use Rattle.std.proofs.Common.{sym, ◌∙◌, ◌-◌}
use Rattle.rules.specs.Limits.{position_count}
use Rattle.rules.specs.Run.{first_of}
use Rattle.rules.specs.Layout.{view}
use Rattle.rules.specs.Promise.{Promise}
use Rattle.std.specs.Prelude.{None}
use Rattle.runner.specs.Runs.{stepped_by, memory_by}
use Rattle.runner.proofs.Search.{made_above, made_below}
use Rattle.runner.proofs.searching.step_from.Goals as goal
use Rattle.runner.proofs.searching.step_from.Goals.{In-None}

-- no step was made above: the memory is as it was
nowhere_above : (c : In-None)
    → let a = c.args in
    Promise (stepped_by (first_of (position_count - a.position) (view a.m.now) a.position))
    (memory_by a.m.now (first_of (position_count - a.position) (view a.m.now) a.position)) None
    c.step_between.new.m
nowhere_above c =
    let made = c.step_between.ensures in
    record { answer_is = sym c.in-None.is ∙ made.answer_is; memory_is = made.memory_is }

pub returns-in-Some : goal.returns-in-Some
returns-in-Some c =
    let a = c.args in
    let made = c.step_between.ensures in
    made_above a.m.now a.position c.requires.m_len.1
    (record { answer_is = sym c.in-Some.is ∙ made.answer_is; memory_is = made.memory_is })

pub returns-in-None : goal.returns-in-None
returns-in-None c =
    let a = c.args in
    made_below a.m.now a.position c.requires.m_len.1 (nowhere_above (goal.at.returns-in-None c).In-None)
    c.step_between-in-None.ensures
