-- A split against what the record wants: 18, 19, or two branches run and both ends are free. Assumes nothing.
use Rattle.std.proofs.Common.{ap, ◌∙◌, ◌≤◌, ◌<◌, arith, rules}
use Rattle.std.specs.Prelude.{Option as Maybe, Some}
use Rattle.registers.specs.Registers.{record_or}
use Rattle.rules.specs.Layout.{view}
use Rattle.keeping.proofs.Memories.{memory_length}
use Rattle.rules.specs.Limits.{record_count, end_count}
use Rattle.rules.specs.State.{lowest_free_record}
use Rattle.stepping.proofs.Steps.{refused_step, done_step, memory_sized}
use Rattle.meetings.specs.declared.wanted.Wanted.{Wanted}
use Rattle.meetings.specs.Wanted.{wanted_of}
use Rattle.stepping.proofs.FreeRecords.{no_record, some_record}
use Rattle.meetings.proofs.Answers.{met_mismatch, met_divides, met_no_record}
use Rattle.meetings.proofs.Waiting.{waits_there, Found, found, split_for, split_found, no_split_wanted}
use Rattle.meetings.proofs.Ends.{split_within}
use borrow.Enum.Refused.{opened}
use Rattle.meetings.proofs.steps.divide.Goals as goal
use Rattle.meetings.proofs.steps.divide.Goals.{After-wanted_at, Start}

pub load-held-requires : goal.load-held-requires
load-held-requires c =
    let s = c.requires.sound_memory.0 in
    (memory_length _ s, (waits_there _ s _ _ c.requires.no_data.1.wait_heads).in_list)

-- what is known once the record is looked at
found_here : (c : After-wanted_at) → let a = c.args in
    Found (view a.m.now) a.r.0 c.load-held.result c.wanted_at.result
found_here c =
    found c.args.m.now c.requires.sound_memory.0 _ _ c.requires.no_data.1.wait_heads _ c.wanted_at.result
    c.load-held.ensures c.wanted_at.ensures

-- the two ends that the split carries
ends_within : (c : Start) → (c.args.first.0 < end_count) × (c.args.second.0 < end_count)
ends_within c = split_within (view c.args.m.now) c.requires.sound_memory.0.state_sound _ _ _ c.requires.no_data.1.split_heads

-- another thing is wanted, or nothing
pub returns-in_default : goal.returns-in_default
returns-in_default c =
    let a = c.args in
    let m = a.m.now in
    let there = found m c.requires.sound_memory.0 _ _ c.requires.no_data.1.wait_heads _ (Some _) c.load-held.ensures c.in_default.ensures in
    let g = there.waits.held in
    let met = split_found (view m) _ there a.first.0 a.second.0
    ∙ no_split_wanted (view m).code g.place g _ (search (rules, opened)) a.first.0 a.second.0 a.r.0 in
    refused_step 18 (met_mismatch (view m) _ _ met)

pub returns-in_default-2 : goal.returns-in_default-2
returns-in_default-2 c =
    let a = c.args in
    let m = a.m.now in
    let there = found_here (goal.at.returns-in_default-2 c).After-wanted_at in
    let g = there.waits.held in
    let met = split_found (view m) _ there a.first.0 a.second.0
    ∙ ap (λ (w : Maybe Wanted). split_for a.first.0 a.second.0 a.r.0 g (wanted_of (view m).code g.place w)) c.in_default.is in
    refused_step 18 (met_mismatch (view m) _ _ met)

pub lowest_free_record-requires : goal.lowest_free_record-requires
lowest_free_record-requires c = memory_length _ c.requires.sound_memory.0

pub returns-in_default-lowest_free_record : goal.returns-in_default-lowest_free_record
returns-in_default-lowest_free_record c =
    let a = c.args in
    let m = a.m.now in
    let s = c.requires.sound_memory.0 in
    let there = found_here (goal.at.returns-in_default-lowest_free_record c).After-wanted_at in
    let g = there.waits.held in
    let is = c.in-Some-Split.is ∙ ap (λ (w : Wanted). Some w) c.in-Some-Split.field-0-is in
    let met = split_found (view m) _ there a.first.0 a.second.0
    ∙ ap (λ (w : Maybe Wanted). split_for a.first.0 a.second.0 a.r.0 g (wanted_of (view m).code g.place w)) is in
    let lowest = c.lowest_free_record.ensures.lowest (view m) (memory_sized m s) s.laid_out in
    let none_left : record_count ≤ lowest_free_record (view m) =
    omega (arith, ap (record_or record_count) c.in_default-lowest_free_record.is, lowest) in
    refused_step 19 (met_no_record (view m) _ _ met (no_record (view m) s.state_sound none_left))

pub branch-x-requires : goal.branch-x-requires
branch-x-requires c = (ends_within (goal.at.branch-x-requires c).Start).0

pub branch-y-requires : goal.branch-y-requires
branch-y-requires c = (ends_within (goal.at.branch-y-requires c).Start).1

pub free_and_run-requires : goal.free_and_run-requires
free_and_run-requires c =
    let p = c.requires.sound_memory in
    let r_in = (waits_there _ p.0 _ _ c.requires.no_data.1.wait_heads).in_list in
    (memory_length _ p.0, p.1, p.2, r_in, c.in-Some.ensures.within)

pub returns : goal.returns
returns c =
    let a = c.args in
    let m = a.m.now in
    let s = c.requires.sound_memory.0 in
    let there = found_here (goal.at.returns c).After-wanted_at in
    let g = there.waits.held in
    let slots = there.waits.within.slots_within in
    let is = c.in-Some-Split.is ∙ ap (λ (w : Wanted). Some w) c.in-Some-Split.field-0-is in
    let met = split_found (view m) _ there a.first.0 a.second.0
    ∙ ap (λ (w : Maybe Wanted). split_for a.first.0 a.second.0 a.r.0 g (wanted_of (view m).code g.place w)) is in
    let lowest = c.in-Some.ensures.lowest (view m) (memory_sized m s) s.laid_out in
    let free = some_record (view m) (omega (arith, c.in-Some.ensures.within, lowest)) in
    let left = c.free_and_run.ensures (view m) _ _ (memory_sized m s) s.laid_out c.requires.no_data.0
    (c.branch-x.ensures g slots there.loaded) (c.branch-y.ensures g slots there.loaded) in
    done_step m _ (met_divides (view m) _ _ met free lowest) left
