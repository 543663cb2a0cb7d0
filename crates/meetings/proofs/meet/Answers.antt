-- What two items make: 18 where they do not match. Assumes nothing.
use Rattle.rules.specs.Layout.{view}
use Rattle.stepping.proofs.Steps.{refused_step}
use Rattle.meetings.proofs.Answers.{met_mismatch}
use Rattle.meetings.proofs.meet.Goals as goal

pub returns-in_default : goal.returns-in_default
returns-in_default c =
    refused_step 18 (met_mismatch _ _ _ (c.in_default.ensures (view c.args.m.now) c.requires.heads.0 c.requires.heads.1).meets)
