-- The answer of a step in two parts, as the code gives it: the rows 5 to 11 by the registers, then 13 or the state after. Assumes nothing.
use mathlib.Core.Path.{◌≡◌, refl, sym, ap, ◌∙◌}
use mathlib.Core.Bool.{Bool, true, false}
use mathlib.Core.List.{List, [], ◌∷◌}
use Prim.Native.Nat.{ℕ}
use Rattle.rules.specs.State.{State, Registers as Process, RecordState, running, Item, record_at, set_record, end_in}
use Rattle.rules.specs.Refusal.{Answer, done, NoCause, unless, refused}
use Rattle.rules.specs.Instruction.{Instruction}
use Rattle.rules.specs.Causes.{empty, own_causes, queue_full}
use Rattle.rules.specs.RecordStep.{append, waits}
use Rattle.rules.specs.Layout.{layout, view}
use Rattle.rules.specs.Calls.{layout_or}
use Rattle.std.specs.Prelude.{Ok, Err}
use Rattle.std.specs.Result.{IsErrAnd}
use Rattle.rules.specs.declared.Refusal.{Refusal}
use Rattle.rules.specs.Numbers.{Reply, answer_of, reply_to}
use Rattle.rules.proofs.Promises.{handed_on}
use Rattle.rules.specs.Promise.{Promise}
use Rattle.keeping.specs.Demand3.{SoundMemory}
use Rattle.keeping.proofs.LayoutLaws.{Sized}
use Rattle.registers.specs.declared.Registers.{Registers}
use Rattle.ends.proofs.Changes.{sized_anew}
use Rattle.causes.proofs.Shared.{refused_not_done, none_holds}
use Rattle.stepping.specs.Stepped.{shown_by}
use Rattle.stepping.proofs.Steps.{done_step, promised_as, memory_sized}
use Rattle.stepping.proofs.Begun.{Begun, held, shown, shown_passed, passes}
use Rattle.channels.specs.Appending.{HoldsEnd, Runs, unless_full, Appended, Waited}
use Rattle.channels.specs.Splitting.{shared_answer, SharedStep}

-- ---- the rows 5 to 11

-- none of them holds
module _ {m : List ℕ} {r : ℕ} {i : Instruction} {x : Registers} (b : Begun m r i x (done tt)) (c : ℕ)
    (named : (g : Process) → NoCause (own_causes g i) → empty c g ≡ false) where
  pub holds_end : HoldsEnd m x c
  holds_end = record { owner = r; sound = b.sound; is_loaded = shown b; not_empty = named (shown_by m r) (shown_passed b) }

  pub runs_here : (g : Process) → record_at (view m) r ≡ running g → Runs m r x g c
  runs_here g is = record { runs = is; is_held = held b g is; not_empty = named g (none_holds (own_causes g i) (passes b g is)) }

-- ---- 13

-- the code has answered with 13 or the state x; the step's answer is 13 or the state y
full_case : (b : Bool) (x y : State) (m : List ℕ) {left : List ℕ} {n : ℕ} → let a = unless ((13, b) ∷ []) (done x) in
    let a' = unless ((13, b) ∷ []) (done y) in
    Promise (reply_to a) (layout_or m a) (refused n) left → Promise (reply_to a') (layout_or m a') (refused n) left
unfolding unless
full_case true x y m p = record { answer_is = p.answer_is; memory_is = p.memory_is }
full_case false x y m p = refused_not_done p.answer_is

room_case : (b : Bool) (x y : State) (m : List ℕ) {left : List ℕ} → let a = unless ((13, b) ∷ []) (done x) in
    Promise (reply_to a) (layout_or m a) (done tt) left → (left ≡ layout x) × (unless ((13, b) ∷ []) (done y) ≡ done y)
unfolding unless
room_case true x y m p = refused_not_done (sym p.answer_is)
room_case false x y m p = (p.memory_is, refl)

module _ {m : List ℕ} {g : Process} {c : ℕ} {y : Item} {left : List ℕ} where
  -- 13 is the answer, which `?` hands on
  pub full_step : (reply : Reply) (e : Refusal) → IsErrAnd reply (λ (f : Refusal). f ≡ e) → Appended m g c y (Err e) left
      → (st : State) {a : Answer State} → a ≡ unless_full (view m) g c st → Promise (reply_to a) (layout_or m a) (answer_of reply) left
  full_step reply e h p st q =
      rw (handed_on reply e h, q) (full_case (queue_full (view m) c g) (append (view m) (end_in g c) y) st m p.appended)

  -- the item y' stands on the queue, and record r is put anew
  pub sent : Appended m g c y (Ok tt) left → SoundMemory m → {y' : Item} → y ≡ y' → (r : ℕ) (z : RecordState) {exit : List ℕ}
      → ((st : State) → Sized st → left ≡ layout st → exit ≡ layout (set_record st r z)) → {a : Answer State}
      → a ≡ unless_full (view m) g c (set_record (append (view m) (end_in g c) y') r z)
      → Promise (reply_to a) (layout_or m a) (done tt) exit
  sent p s {y'} same r z save q =
      let st = append (view m) (end_in g c) y' in
      let goes = room_case (queue_full (view m) c g) (append (view m) (end_in g c) y) (set_record st r z) m p.appended in
      let item_is = ap (λ (i : Item). layout (append (view m) (end_in g c) i)) same in
      done_step m _ (q ∙ goes.1) (save st (sized_anew (view m) (end_in g c) _ (memory_sized m s)) (goes.0 ∙ item_is))

pub waited_step : {m : List ℕ} {r : ℕ} {g : Process} {c : ℕ} {reply : Reply} {left : List ℕ} → Waited m r g c reply left
    → {a : Answer State} → a ≡ unless_full (view m) g c (waits (view m) r g c) → Promise (reply_to a) (layout_or m a) (answer_of reply) left
waited_step w q = promised_as _ q w.waited

pub shared_step : {m : List ℕ} {r next : ℕ} {g : Process} {i : Instruction} {reply : Reply} {left : List ℕ}
    → SharedStep m r next g i reply left → {a : Answer State} → a ≡ shared_answer (view m) r next g i
    → Promise (reply_to a) (layout_or m a) (answer_of reply) left
shared_step h q = promised_as _ q h.shared
