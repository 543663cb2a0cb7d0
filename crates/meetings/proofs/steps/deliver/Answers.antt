-- A datum against what the record wants: 18, or the record runs on with it. Assumes nothing.
use Rattle.std.proofs.Common.{◌∙◌}
use Rattle.rules.specs.Layout.{view}
use Rattle.keeping.proofs.Memories.{memory_length}
use Rattle.ends.proofs.Fitting.{sound_fits}
use Rattle.stepping.proofs.Steps.{refused_step, done_step, memory_sized}
use Rattle.meetings.specs.Heads.{datum_of}
use Rattle.meetings.proofs.Answers.{met_mismatch, met_delivers}
use Rattle.meetings.proofs.Waiting.{waits_there, datum_within, held_is, room_there, against}
use Rattle.meetings.proofs.Ends.{heads_differ}
use Rattle.meetings.proofs.steps.deliver.Goals as goal

pub load-held-requires : goal.load-held-requires
load-held-requires c =
    let s = c.requires.sound_memory in
    (memory_length _ s, (waits_there _ s _ _ c.requires.datum_waits.wait_heads).in_list)

pub runs_on-requires-clause-room : goal.runs_on-requires-clause-room
runs_on-requires-clause-room c =
    room_there _ c.requires.sound_memory _ _ c.requires.datum_waits.wait_heads c.load-held.ensures

pub returns-in_default : goal.returns-in_default
returns-in_default c e f =
    let a = c.args in
    let m = a.m.now in
    let s = c.requires.sound_memory in
    let w = waits_there m s _ _ c.requires.datum_waits.wait_heads in
    let unmet = c.in_default.ensures w.held (held_is m s _ w c.load-held.ensures) a.from.0 a.to.0 a.r.0 in
    refused_step 18 (met_mismatch (view m) e f (against (view m) w a.from.0 a.to.0 (datum_of a.datum) ∙ unmet))

pub take_both-requires : goal.take_both-requires
take_both-requires c =
    let s = c.requires.sound_memory in
    let w = datum_within _ s c.requires.datum_waits in
    (memory_length _ s, w.0, w.1, w.2)

pub returns : goal.returns
returns c e f =
    let a = c.args in
    let m = a.m.now in
    let s = c.requires.sound_memory in
    let h = c.requires.datum_waits in
    let w = waits_there m s _ _ h.wait_heads in
    let on = c.in-Some.ensures w.held (held_is m s _ w c.load-held.ensures) in
    let fits = sound_fits (view m) s.state_sound in
    done_step m _
    (met_delivers (view m) e f (against (view m) w a.from.0 a.to.0 (datum_of a.datum) ∙ on.meets a.from.0 a.to.0 a.r.0))
    (c.take_both.ensures (view m) _ (memory_sized m s) s.laid_out (fits _) (fits _)
    (heads_differ (view m) _ _ h.datum_heads h.wait_heads) on.stands_for)
