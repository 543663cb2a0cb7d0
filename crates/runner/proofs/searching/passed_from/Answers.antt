-- The queue of the end itself is looked at, then that of its partner. Assumes nothing.
use Rattle.std.proofs.Common.{◌≡◌, sym, ◌∙◌, subst, false, ℕ, ◌+◌, ◌<◌, arith}
use Rattle.rules.specs.Limits.{end_count}
use Rattle.rules.specs.State.{State, end_at, end_or, partner_of}
use Rattle.rules.specs.Refusal.{is_done}
use Rattle.rules.specs.Ask.{ask_end}
use Rattle.rules.specs.Layout.{view}
use Rattle.stepping.proofs.Steps.{memory_sized}
use Rattle.runner.proofs.Search.{nothing_queued, partner_within, nothing_meets}
use Rattle.runner.proofs.searching.passed_from.Goals as goal
use Rattle.runner.proofs.searching.passed_from.Goals.{After-partner}

pub returns-then-empty-gt0 : goal.returns-then-empty-gt0
returns-then-empty-gt0 c =
    let a = c.args in
    let m = a.m.now in
    let s = c.requires.2 in
    let within = c.empty_from-empty.ensures.within in
    let empty = c.empty_from-empty.ensures.empty (view m) (memory_sized m s) s.laid_out in
    record {
      within = within;
      passed = λ i l. nothing_queued (view m) (a.end.0 + i) (omega (arith, within, l)) (empty i l);
    }

-- what the partner's number stands for, and that it is one of the ends
partner_here : (c : After-partner)
    → let a = c.args in
    (c.partner.result.0 ≡ end_or 0 (partner_of (end_at (view a.m.now) a.end.0))) × (c.partner.result.0 < end_count)
partner_here c =
    let a = c.args in
    let m = a.m.now in
    let s = c.requires.2 in
    let shown = c.partner.ensures (view m) (memory_sized m s) s.laid_out in
    (shown, partner_within (view m) a.end.0 c.requires.1 s.state_sound c.partner.result.0 shown)

-- this end alone
only : (st : State) (e i : ℕ) → i < 1 → is_done (ask_end st e) ≡ false → is_done (ask_end st (e + i)) ≡ false
only st e i l no_step =
    let same : e ≡ e + i = omega (arith, l) in
    subst (λ (k : ℕ). is_done (ask_end st k) ≡ false) same no_step

pub returns-then-queued-eq0 : goal.returns-then-queued-eq0
returns-then-queued-eq0 c =
    let a = c.args in
    let m = a.m.now in
    let s = c.requires.2 in
    let e = a.end.0 in
    let h = c.requires.1 in
    let empty = sym (c.queued.ensures.queued (view m) (memory_sized m s) s.laid_out) ∙ c.if-queued-eq0.true in
    let no_step = nothing_meets (view m) e h s.state_sound c.partner.result.0
    (partner_here (goal.at.returns-then-queued-eq0 c).After-partner).0 empty in
    record {
      within = omega (arith, h);
      passed = λ i l. only (view m) e i l no_step;
    }
