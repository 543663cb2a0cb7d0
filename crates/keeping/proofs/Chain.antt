-- Steps one after the other: where each is an ask that is done from where the one before left, sound states stay sound, histories go on
-- agreeing, and nothing is lost. Assumes nothing.
use mathlib.Core.Path.{◌≡◌, refl, sym, subst}
use mathlib.Core.List.{List, [], ◌∷◌, ◌++◌}
use Prim.Native.Nat.{ℕ}
use Rattle.rules.specs.State.{State}
use Rattle.rules.specs.Refusal.{done}
use Rattle.rules.specs.Ask.{ask}
use Rattle.rules.specs.Run.{Step, reached_by}
use Rattle.rules.specs.Sound.{Sound}
use Rattle.rules.specs.Events.{Event, History, history, events, steps_events}
use Rattle.keeping.specs.Queues.{AllAgree}
use Rattle.keeping.specs.Runs.{IsRun, budget_used, nothing_can, goes_on}
use Rattle.keeping.specs.Demand3.{EveryStep}
use Rattle.keeping.proofs.Move.{Move, move_sound, move_queues, agrees_on, nothing_lost}
use Rattle.keeping.proofs.Asks.{ask_move}

-- steps that lead from a state to another
pub data Chain : State → List Step → State → Type 0 where
  here : {st : State} → Chain st [] st
  then : {st st' : State} {s : Step} {ss : List Step} → s.before ≡ st → ask s.before s.position ≡ done s.reached
      → Chain s.reached ss st'
      → Chain st (s ∷ ss) st'

pub chain_append : {st st' st'' : State} {ss ts : List Step} → Chain st ss st' → Chain st' ts st'' → Chain st (ss ++ ts) st''
chain_append here d = d
chain_append (then q a c) d = then q a (chain_append c d)

step_move : (s : Step) → Sound s.before → ask s.before s.position ≡ done s.reached
    → Move s.before s.reached (events s.before s.position)
step_move s k a = ask_move s.before k s.position s.reached a

pub chain_right : {st st' : State} {ss : List Step} → Sound st → Chain st ss st' → EveryStep ss
chain_right k here = tt
chain_right k (then {s = s} q a c) =
    let before = subst Sound (sym q) k in
    let m = step_move s before a in (
      record {
        asked = a;
        before_sound = before;
        after_sound = move_sound before m;
        events_are_changes = move_queues m;
        nothing_lost =
            nothing_lost m;
      },
      chain_right (move_sound before m) c,
    )

pub chain_sound : {st st' : State} {ss : List Step} → Sound st → Chain st ss st' → Sound st'
chain_sound k here = k
chain_sound k (then {s = s} q a c) = let before = subst Sound (sym q) k in chain_sound (move_sound before (step_move s before a)) c

history_append : (e : ℕ) (h : History) (xs ys : List Event) → history e h (xs ++ ys) ≡ history e (history e h xs) ys
unfolding history
history_append e h [] ys = refl
history_append e h (x ∷ xs) ys = history_append e (Rattle.rules.specs.Events.noted e h x) xs ys

pub chain_agrees : {st st' : State} {ss : List Step} → Sound st → Chain st ss st' → (h : ℕ → History) → AllAgree st h
    → AllAgree st' (λ e. history e (h e) (steps_events ss))
unfolding history steps_events
chain_agrees k here h a = a
chain_agrees {st} {st'} k (then {s = s} {ss = ss} q asked c) h a =
    let before = subst Sound (sym q) k in
    let m = step_move s before asked in
    let rest = chain_agrees (move_sound before m) c (λ e. history e (h e) (events s.before s.position))
    (agrees_on m h (subst (λ (z : State). AllAgree z h) (sym q) a)) in
    λ e. rw (history_append e (h e) (events s.before s.position) (steps_events ss)) (rest e)

-- the steps of a run are such a chain
pub run_chain : {budget : ℕ} {st : State} {p : ℕ} {ss : List Step} → IsRun budget st p ss → Chain st ss (reached_by st ss)
unfolding reached_by
run_chain budget_used = here
run_chain (nothing_can n) = here
run_chain (goes_on {s = s} f r) = then f.before_is
    (subst (λ (z : State). ask z s.position ≡ done s.reached) (sym f.before_is) f.is_step) (run_chain r)
