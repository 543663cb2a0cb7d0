-- A position is a record or an end. Assumes nothing.
use Rattle.rules.specs.Layout.{view}
use Rattle.stepping.proofs.Steps.{promised_as}
use Rattle.asking.proofs.Answers.{of_a_record, of_an_end}
use Rattle.asking.proofs.record.step.Goals as goal

pub returns-then-position : goal.returns-then-position
returns-then-position c =
    let a = c.args in
    let m = a.m.now in
    promised_as m (of_a_record (view m) a.position c.if-position.true) c.step_record.ensures

pub returns : goal.returns
returns c =
    let a = c.args in
    let m = a.m.now in
    promised_as m (of_an_end (view m) a.position c.if-position.false) c.step_end.ensures
