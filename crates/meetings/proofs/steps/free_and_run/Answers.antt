-- Both ends freed, then two records saved. Assumes nothing.
use Rattle.ends.proofs.Changes.{sized_anew}
use Rattle.stepping.proofs.Steps.{sized_record}
use Rattle.meetings.proofs.steps.free_and_run.Goals as goal

pub returns : goal.returns
returns c st g g' k e h p q =
    let freed_sized = sized_anew _ _ _ (sized_anew st _ _ k) in
    let one = c.save_running.ensures _ g freed_sized (c.free_both.ensures st k e h) p in
    c.save_running-2.ensures _ g' (sized_record _ _ _ freed_sized) one q
