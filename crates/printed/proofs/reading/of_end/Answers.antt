-- The heads of the end and of its partner. Assumes nothing.
use Rattle.std.proofs.Common.{◌≡◌, refl, sym, ap, ◌∙◌, ◌-◌, ◌<◌}
use Rattle.rules.specs.Limits.{record_count, end_count}
use Rattle.rules.specs.State.{end_at, head_of}
use Rattle.rules.specs.RecordStep.{partner_in}
use Rattle.rules.specs.Layout.{view}
use Rattle.ends.specs.Items.{head_in}
use Rattle.ends.proofs.Fitting.{sound_fits}
use Rattle.stepping.proofs.Steps.{memory_sized}
use Rattle.meetings.proofs.Ends.{partner_shown}
use Rattle.printed.proofs.Telling.{head_in_use, end_prints, own_empty, partner_empty}
use Rattle.printed.proofs.reading.of_end.Goals as goal
use Rattle.printed.proofs.reading.of_end.Goals.{After-head, After-head-2, After-partner}

-- what heads the queue of the end
head_here : (c : After-head)
    → let a = c.args in head_of (end_at (view a.m.now) (a.position - record_count)) ≡ head_in c.head.result
head_here c =
    let m = c.args.m.now in
    let s = c.requires.3 in
    sym (c.head.ensures (view m) (memory_sized m s) s.laid_out (sound_fits (view m) s.state_sound _))

pub returns-in_default : goal.returns-in_default
returns-in_default c z h =
    let a = c.args in
    let empty = head_here (goal.at.returns-in_default c).After-head ∙ ap head_in c.in_default.is in
    own_empty (view a.m.now) a.position _ z c.requires.1 refl empty h

-- the partner, one of the ends
partner_here : (c : After-partner) (head_here_here : let a = c.args in
    head_of (end_at (view a.m.now) (a.position - record_count)) ≡ head_in c.head.result)
    → let a = c.args in
    let e = a.position - record_count in
    (c.partner.result.0 ≡ partner_in (view a.m.now) e) × (c.partner.result.0 < end_count)
partner_here c head_here_here =
    let m = c.args.m.now in
    let s = c.requires.3 in
    let own = head_here_here ∙ ap head_in c.in-Some.is in
    let e = c.args.position - record_count in
    partner_shown (view m) s.state_sound e (head_in_use (end_at (view m) e) own)
    (c.partner.ensures (view m) (memory_sized m s) s.laid_out)

-- what heads its queue
head_there : (c : After-head-2)
    → let m = c.args.m.now in
    head_of (end_at (view m) c.partner.result.0) ≡ head_in c.head-2.result
head_there c =
    let m = c.args.m.now in
    let s = c.requires.3 in
    sym (c.head-2.ensures (view m) (memory_sized m s) s.laid_out (sound_fits (view m) s.state_sound _))

pub returns-in_default-head : goal.returns-in_default-head
returns-in_default-head c z h =
    let a = c.args in
    let own = head_here (goal.at.returns-in_default-head c).After-head ∙ ap head_in c.in-Some.is in
    let empty = head_there (goal.at.returns-in_default-head c).After-head-2 ∙ ap head_in c.in_default-head.is in
    partner_empty (view a.m.now) a.position _ _ _ z c.requires.1 refl own (partner_here (goal.at.returns-in_default-head c).After-partner
    (head_here (goal.at.returns-in_default-head c).After-head)).0 empty h

pub returns : goal.returns
returns c z h =
    let a = c.args in
    let own = head_here (goal.at.returns c).After-head ∙ ap head_in c.in-Some.is in
    let other = head_there (goal.at.returns c).After-head-2 ∙ ap head_in c.in-Some-head.is in
    let met = end_prints (view a.m.now) a.position _ _ _ _ z c.requires.1 refl own (partner_here (goal.at.returns c).After-partner
    (head_here (goal.at.returns c).After-head)).0 other h in
    c.of_items.ensures (view a.m.now) _ _ z met
