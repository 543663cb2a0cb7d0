-- same: what its rows say, or the two ends joined and the record free. Assumes nothing.
use Rattle.std.proofs.Common.{◌≡◌, sym, ap, ◌∙◌, false, ℕ, arith}
use Rattle.rules.specs.State.{State, Registers as Process, running, record_at, end_in, end_at, is_free_end}
use Rattle.rules.specs.Instruction.{same}
use Rattle.rules.specs.Layout.{layout, view}
use Rattle.rules.specs.Numbers.{end_number}
use Rattle.rules.proofs.Promises.{handed_on}
use Rattle.keeping.proofs.LayoutLaws.{Sized}
use Rattle.stepping.proofs.Steps.{refused_step, done_step, memory_sized}
use Rattle.stepping.proofs.Begun.{Begun, own_refuses, within, held, passes}
use Rattle.processes.specs.Joinable.{shared_reply}
use Rattle.processes.proofs.JoinCases.{first_end, second_end, joinable, shared_refused, same_done, sized_joined, same_after}
use Rattle.processes.proofs.joining.same.Goals as goal
use Rattle.processes.proofs.joining.same.Goals.{After-own_end-x, After-own_end-y, In_ok-same}
use Rattle.rules.specs.Refusal.{Answer, done}

-- no row 5 to 11 holds
passed : (c : In_ok-same) → let a = c.args in
    Begun a.m.now a.r.0 (same a.c.0 a.d.0) c.load-held.result (done tt)
passed c = record { sound = c.requires.sound_memory.0; load_is = c.load-held.ensures; reply_is = c.in_ok-same.ensures }

pub returns-in_err-same : goal.returns-in_err-same
returns-in_err-same c next g is =
    own_refuses _ _ c.from_residual.ensures.1
    (record { sound = c.requires.sound_memory.0; load_is = c.load-held.ensures; reply_is = c.in_err-same.ensures }) next g is

-- the ends that are found
first : (c : After-own_end-x) (g : Process) → let a = c.args in
    record_at (view a.m.now) a.r.0 ≡ running g → end_number c.own_end-x.result ≡ end_in g a.c.0
first c g is = let b = passed c.before in c.own_end-x.ensures g (within b g is) (held b g is)

second : (c : After-own_end-y) (g : Process) → let a = c.args in
    record_at (view a.m.now) a.r.0 ≡ running g → end_number c.own_end-y.result ≡ end_in g a.d.0
second c g is = let b = passed c.before.before in c.own_end-y.ensures g (within b g is) (held b g is)

pub refusal-requires : goal.refusal-requires
refusal-requires c =
    let a = c.args in
    let p = c.requires in
    let s = p.sound_memory.0.state_sound in
    let g = p.sound_memory.1.process in
    let is = p.sound_memory.1.runs in
    let ok = passes (passed (goal.at.refusal-requires c).In_ok-same) g is in
    let x = (first_end (view a.m.now) s a.r.0 g is a.c.0 a.d.0 ok).in_range in
    let y = (second_end (view a.m.now) s a.r.0 g is a.c.0 a.d.0 ok).in_range in
    (p.m_len, omega (arith, x, first (goal.at.refusal-requires c).After-own_end-x g is), omega (arith, y, second c g is))

-- where the ends are found, what is said of every such state and its ends is said of this one
told : {said : Answer (Unit {0})} (c : After-own_end-y) (g : Process) → let a = c.args in
    record_at (view a.m.now) a.r.0 ≡ running g
    → ((st : State) (g : Process) → Sized st → a.m.now ≡ layout st → end_number c.own_end-x.result ≡ end_in g a.c.0
    → end_number c.own_end-y.result ≡ end_in g a.d.0 → is_free_end (end_at st (end_number c.own_end-x.result)) ≡ false
    → said ≡ shared_reply st g (same a.c.0 a.d.0))
    → said ≡ shared_reply (view a.m.now) g (same a.c.0 a.d.0)
told c g is f =
    let a = c.args in
    let m = a.m.now in
    let s = c.requires.sound_memory.0 in
    let x = first c.before g is in
    let used_x = (first_end (view m) s.state_sound a.r.0 g is a.c.0 a.d.0 (passes (passed c.before.before) g is)).in_use in
    f (view m) g (memory_sized m s) s.laid_out x (second c g is) (ap (λ (e : ℕ). is_free_end (end_at (view m) e)) x ∙ used_x)

pub returns-in_err-refusal : goal.returns-in_err-refusal
returns-in_err-refusal c next g is =
    let a = c.args in
    let s = c.requires.sound_memory.0.state_sound in
    let y = (goal.at.returns-in_err-refusal c).After-own_end-y in
    rw (handed_on _ _ c.from_residual-in_err-refusal.ensures.1)
    (refused_step _
    (shared_refused (view a.m.now) s a.r.0 g is a.c.0 a.d.0 (passes (passed (goal.at.returns-in_err-refusal c).In_ok-same) g is) next _
    (sym (told y g is c.in_err-refusal.ensures))))

pub join-requires-clause-sound_memory : goal.join-requires-clause-sound_memory
join-requires-clause-sound_memory c =
    let a = c.args in
    let p = c.requires.sound_memory in
    let at = goal.at.join-requires-clause-sound_memory c in
    let g = p.1.process in
    let is = p.1.runs in
    let none = sym (told at.After-own_end-y g is c.in_ok-refusal.ensures) in
    let j = joinable (view a.m.now) p.0.state_sound a.r.0 g is a.c.0 a.d.0 (passes (passed at.In_ok-same) g is) none in
    (p.0, rw (first at.After-own_end-x g is, second at.After-own_end-y g is) j)

pub returns : goal.returns
returns c next g is =
    let a = c.args in
    let m = a.m.now in
    let s = c.requires.sound_memory.0 in
    let none = sym (told (goal.at.returns c).After-own_end-y g is c.in_ok-refusal.ensures) in
    let anew = c.clear.ensures _ (sized_joined (view m) _ _ (memory_sized m s)) c.join.ensures in
    done_step m _ (same_done (view m) s.state_sound a.r.0 g is a.c.0 a.d.0 (passes (passed (goal.at.returns c).In_ok-same) g is) next none)
    (anew ∙ ap layout (same_after (view m) a.r.0 next g a.c.0 a.d.0 _ _ (first (goal.at.returns c).After-own_end-x g is)
    (second (goal.at.returns c).After-own_end-y g is)))
