-- 16 for a number over the last one and for a free end, 17 where a queue is empty, then what the heads make. Assumes nothing.
use Rattle.std.proofs.Common.{◌≡◌, sym, ap, ◌∙◌, false, ◌<◌, le-leb}
use borrow.Author.Tests.{lt-leb}
use Rattle.rules.specs.Limits.{end_count}
use Rattle.rules.specs.State.{end_at, head_of, is_free_end}
use Rattle.rules.specs.RecordStep.{partner_in}
use Rattle.rules.specs.Layout.{view}
use Rattle.keeping.proofs.Memories.{memory_length}
use Rattle.ends.specs.Items.{head_in}
use Rattle.ends.proofs.Fitting.{sound_fits}
use Rattle.stepping.proofs.Steps.{refused_step, promised_as, memory_sized}
use Rattle.meetings.proofs.Answers.{over_the_last, end_free, own_empty, partner_empty, both_head}
use Rattle.meetings.proofs.Ends.{partner_shown}
use Rattle.meetings.proofs.step_end.Goals as goal
use Rattle.meetings.proofs.step_end.Goals.{After-head, After-head-2, After-partner-f, Else-is_free}

pub returns-then-end : goal.returns-then-end
returns-then-end c =
    let a = c.args in
    refused_step 16 (over_the_last (view a.m.now) a.end (le-leb end_count a.end c.if-end.true))

pub is_free-requires : goal.is_free-requires
is_free-requires c = (memory_length _ c.requires, c.if-end.false)

pub returns-then-is_free : goal.returns-then-is_free
returns-then-is_free c =
    let a = c.args in
    let m = a.m.now in
    let s = c.requires in
    let free = sym (c.is_free.ensures (view m) (memory_sized m s) s.laid_out) ∙ c.if-is_free.true in
    refused_step 16 (end_free (view m) a.end (lt-leb end_count a.end c.if-end.false) free)

pub partner-f-requires : goal.partner-f-requires
partner-f-requires c = (memory_length _ c.requires, c.if-end.false)

-- the end is in use
in_use : (c : Else-is_free) → let a = c.args in is_free_end (end_at (view a.m.now) a.end) ≡ false
in_use c =
    let m = c.args.m.now in
    let s = c.requires in
    sym (c.is_free.ensures (view m) (memory_sized m s) s.laid_out) ∙ c.if-is_free.false

-- f is its partner, and one of the ends
partner_here : (c : After-partner-f)
    → let a = c.args in
    (c.partner-f.result.0 ≡ partner_in (view a.m.now) a.end) × (c.partner-f.result.0 < end_count)
partner_here c =
    let m = c.args.m.now in
    let s = c.requires in
    let shown = c.partner-f.ensures (view m) (memory_sized m s) s.laid_out in
    partner_shown (view m) s.state_sound c.args.end (in_use c.before) shown

-- the head of the end's queue, and that of its partner's
head_here : (c : After-head)
    → let a = c.args in
    head_of (end_at (view a.m.now) a.end) ≡ head_in c.head.result
head_here c =
    let m = c.args.m.now in
    let s = c.requires in
    sym (c.head.ensures (view m) (memory_sized m s) s.laid_out (sound_fits (view m) s.state_sound _))

head_there : (c : After-head-2)
    → let m = c.args.m.now in
    head_of (end_at (view m) c.partner-f.result.0) ≡ head_in c.head-2.result
head_there c =
    let m = c.args.m.now in
    let s = c.requires in
    sym (c.head-2.ensures (view m) (memory_sized m s) s.laid_out (sound_fits (view m) s.state_sound _))

pub head-requires : goal.head-requires
head-requires c = (memory_length _ c.requires, c.if-end.false)

pub returns-in_default : goal.returns-in_default
returns-in_default c =
    let e = c.args.end in
    let within = lt-leb end_count e c.if-end.false in
    let empty = head_here (goal.at.returns-in_default c).After-head ∙ ap head_in c.in_default.is in
    refused_step 17 (own_empty (view c.args.m.now) e within (in_use (goal.at.returns-in_default c).Else-is_free) empty)

pub head-requires-2 : goal.head-requires-2
head-requires-2 c = (memory_length _ c.requires, (partner_here (goal.at.head-requires-2 c).After-partner-f).1)

pub returns-in_default-head : goal.returns-in_default-head
returns-in_default-head c =
    let e = c.args.end in
    let within = lt-leb end_count e c.if-end.false in
    let own = head_here (goal.at.returns-in_default-head c).After-head ∙ ap head_in c.in-Some.is in
    let empty = head_there (goal.at.returns-in_default-head c).After-head-2 ∙ ap head_in c.in_default-head.is in
    refused_step 17
    (partner_empty (view c.args.m.now) e within (in_use (goal.at.returns-in_default-head c).Else-is_free) _
    (partner_here (goal.at.returns-in_default-head c).After-partner-f).0 own empty)

pub meet-requires-clause-heads : goal.meet-requires-clause-heads
meet-requires-clause-heads c =
    let at = goal.at.meet-requires-clause-heads c in
    (head_here at.After-head ∙ ap head_in c.in-Some.is, head_there at.After-head-2 ∙ ap head_in c.in-Some-head.is)

pub returns : goal.returns
returns c =
    let e = c.args.end in
    let within = lt-leb end_count e c.if-end.false in
    let own = head_here (goal.at.returns c).After-head ∙ ap head_in c.in-Some.is in
    let other = head_there (goal.at.returns c).After-head-2 ∙ ap head_in c.in-Some-head.is in
    promised_as _ (both_head (view c.args.m.now) e within (in_use (goal.at.returns c).Else-is_free) _
    (partner_here (goal.at.returns c).After-partner-f).0 own other)
    c.meet.ensures
