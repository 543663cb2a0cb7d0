-- Demand 3 on bytes: `demand_3`. Each call on a sound memory leaves a sound memory, and its steps lead from the one to the other.
-- Assumes nothing.
use mathlib.Core.Path.{◌≡◌, refl, sym, ap, ◌∙◌, subst}
use mathlib.Core.Bool.{Bool, true, false}
use mathlib.Core.List.{List, [], ◌∷◌}
use Prim.Native.Nat.{ℕ, zero, suc, ◌+◌, ◌-◌, ◌≤◌, ◌<◌}
use native.Mathlib.Nat.{min-le_left}
use native.Mathlib.Omega.{arith}
use lib.ListN.{length, get_or, take, drop, length-take}
use lib.Dec.{ltb, leb}
use borrow.Author.Tests.{lt-ltb, le-ltb, leb-false, ltb-false, eq-eqb}
use Rattle.rules.specs.Limits.{record_count, position_count, code_limit}
use Rattle.rules.specs.State.{State, RecordState, free_record, running, waiting, record_at, start}
use Rattle.rules.specs.Refusal.{Row, Answer, refused, done, refuse_if, unless, number_of, NoCause}
use Rattle.rules.specs.Ask.{ask_in, ask_record, ask_end, pick_answer, ask}
use Rattle.rules.specs.Run.{Step, Ran, steps, ran_by, run_from}
use Rattle.rules.specs.Sound.{Sound}
use Rattle.rules.specs.Events.{new_history}
use Rattle.rules.specs.Image.{block_size, data_size, head_size, read_causes, code_in, code_length, image_data, data_in, blocks_in}
use Rattle.rules.specs.Image.{read_image}
use Rattle.rules.specs.Layout.{state_size, layout, view}
use Rattle.rules.specs.Calls.{length_cause, start_cause, called, where_sound, started, load_answer, load, record_answer, call_record}
use Rattle.rules.specs.Calls.{end_answer}
use Rattle.rules.specs.Calls.{call_end, run_answer, reached_or, call_run, Call, record_asked, end_asked, run, memory_after, step_if}
use Rattle.rules.specs.Calls.{steps_if}
use Rattle.rules.specs.Calls.{call_steps, memory_after_all, all_steps, all_events}
use Rattle.keeping.specs.Queues.{AllAgree}
use Rattle.keeping.specs.Demand3.{SoundMemory, Demand3}
use Rattle.keeping.proofs.ValueLaws.{all_append, all_take, all_drop}
use Rattle.keeping.proofs.Asks.{refused_is_not_done}
use Rattle.keeping.proofs.Running.{running_in_list}
use Rattle.keeping.proofs.RunLaws.{steps_are}
use Rattle.keeping.proofs.Chain.{Chain, here, then, chain_append, chain_right, chain_sound, chain_agrees, run_chain}
use Rattle.keeping.proofs.Memories.{sound_view, sound_layout, test_of_memory, memory_length}
use Rattle.keeping.proofs.Start.{start_sound, start_agrees}

-- ---- on a sound memory neither 24 nor 1 is given

pub where_sound_lem : {A : Type 0} (m : List ℕ) (a : Answer A) → SoundMemory m → where_sound m a ≡ a
unfolding unless
where_sound_lem m a h = rw (eq-eqb (length m) state_size (memory_length m h), test_of_memory m h)

-- ---- a record or an end that is done is its position asked

record_position : (st : State) → Sound st → (r : ℕ) (st' : State) → ask_record st r ≡ done st' → ask st r ≡ done st'
unfolding ask ask_record
record_position st s r st' h = go (record_at st r) refl h
  where
    go : (x : RecordState) → record_at st r ≡ x → ask_in st r x ≡ done st'
        → pick_answer (ltb r record_count) (ask_in st r (record_at st r)) (ask_end st (r - record_count)) ≡ done st'
    go free_record q k = refused_is_not_done k
    go (waiting g) q k = refused_is_not_done k
    go (running g) q k = rw (lt-ltb r record_count (omega (arith, running_in_list st r g q, s.S1.record_count_is))) h

end_position : (st : State) (e : ℕ) (st' : State) → ask_end st e ≡ done st' → ask st (record_count + e) ≡ done st'
unfolding ask
end_position st e st' h =
    let back : record_count + e - record_count ≡ e = omega arith in
    rw (le-ltb (record_count + e) record_count (omega arith), back) h

-- ---- one call

-- a call on a sound memory: its steps lead from the state that the memory shows to the one that it shows afterwards
record Called' (m : List ℕ) (ss : List Step) (m' : List ℕ) : Type 0 where
  sound_after : SoundMemory m'
  chain : Chain (view m) ss (view m')

done_called : (m : List ℕ) → SoundMemory m → (ss : List Step) (st : State) → Chain (view m) ss st → Called' m ss (layout st)
done_called m h ss st c =
    let s = chain_sound h.state_sound c in
    record { sound_after = sound_layout st s; chain = subst (λ (z : State). Chain (view m) ss z) (sym (sound_view st s)) c }

asked_call : (m : List ℕ) → SoundMemory m → (p : ℕ) (a : Answer State) → ((st' : State) → a ≡ done st' → ask (view m) p ≡ done st')
    → Called' m (step_if p (view m) a) (called m a).memory
asked_call m h p (refused n) f = record { sound_after = h; chain = here }
asked_call m h p (done st') f = done_called m h _ st' (then refl (f st' refl) here)

run_call : (m : List ℕ) → SoundMemory m → (budget p : ℕ) (b : Bool) → leb position_count p ≡ b
    → Called' m (steps_if (refuse_if b 25 (done (run_from budget (view m) p))) (steps budget (view m) p))
    (reached_or m (refuse_if b 25 (done (run_from budget (view m) p))))
unfolding run_from ran_by
run_call m h budget p true q = record { sound_after = h; chain = here }
run_call m h budget p false q = done_called m h (steps budget (view m) p) _
    (run_chain (steps_are budget (view m) p (leb-false position_count p q)))

one_call : (m : List ℕ) → SoundMemory m → (c : Call) → Called' m (call_steps m c) (memory_after m c)
unfolding call_steps memory_after call_record record_answer call_end end_answer call_run run_answer unless
one_call m h (record_asked r) =
    subst (λ (a : Answer State). Called' m (step_if r (view m) a) (called m a).memory) (sym (where_sound_lem m (ask_record (view m) r) h))
    (asked_call m h r (ask_record (view m) r) (λ st' q. record_position (view m) h.state_sound r st' q))
one_call m h (end_asked e) =
    subst (λ (a : Answer State). Called' m (step_if (record_count + e) (view m) a) (called m a).memory)
    (sym (where_sound_lem m (ask_end (view m) e) h))
    (asked_call m h (record_count + e) (ask_end (view m) e) (λ st' q. end_position (view m) e st' q))
one_call m h (run budget p) =
    subst (λ (a : Answer Ran). Called' m (steps_if a (steps budget (view m) p)) (reached_or m a))
    (sym (where_sound_lem m (unless (start_cause p ∷ []) (done (run_from budget (view m) p))) h))
    (run_call m h budget p (leb position_count p) refl)

-- ---- a list of calls

all_calls : (m : List ℕ) → SoundMemory m → (cs : List Call) → Called' m (all_steps m cs) (memory_after_all m cs)
unfolding all_steps memory_after_all
all_calls m h [] = record { sound_after = h; chain = here }
all_calls m h (c ∷ cs) =
    let one = one_call m h c in
    let rest = all_calls (memory_after m c) one.sound_after cs in
    record { sound_after = rest.sound_after; chain = chain_append one.chain rest.chain }

-- from a sound memory on which every history agrees
calls_right : (m : List ℕ) → SoundMemory m → AllAgree (view m) (λ e. new_history) → (cs : List Call) → Demand3 m cs
unfolding all_events
calls_right m h a cs =
    let all = all_calls m h cs in
    record {
      every_memory_sound = λ before after q. (all_calls m h before).sound_after;
      every_step_right = chain_right h.state_sound all.chain;
      put_is_taken_then_queued = chain_agrees h.state_sound all.chain (λ e. new_history) a;
    }

-- ---- loading

abbrev Byte : ℕ → Type 0
Byte b = b < 256

-- the numbers of some rows are not 0
abbrev Numbered : List Row → Type 0
Numbered [] = Unit {0}
Numbered (row ∷ rows) = (0 < row.0) × Numbered rows

-- 0 is returned only where no row holds
unless_zero : {A : Type 0} (rows : List Row) (x : Answer A) → Numbered rows → number_of (unless rows x) ≡ 0
    → NoCause rows × (unless rows x ≡ x) × (number_of x ≡ 0)
unfolding unless
unless_zero [] x n h = (tt, refl, h)
unless_zero (row ∷ rows) x n h = go row.1 refl h (unless_zero rows x n.1)
  where
    go : (b : Bool) → row.1 ≡ b → number_of (refuse_if b row.0 (unless rows x)) ≡ 0
        → (number_of (unless rows x) ≡ 0 → NoCause rows × (unless rows x ≡ x) × (number_of x ≡ 0))
        → NoCause (row ∷ rows) × (refuse_if row.1 row.0 (unless rows x) ≡ x) × (number_of x ≡ 0)
    go true q h f = absurd (omega (arith, n.0))
    go false q h f = let t = f h in ((q, t.0), rw q t.1, t.2)

started_number : (a : Answer (List ℕ)) → number_of (started a) ≡ number_of a
started_number (refused n) = refl
started_number (done code) = refl

data_bytes : (n : ℕ) (image : List ℕ) → ((i : ℕ) → get_or image i 0 < 256) → (i : ℕ) → get_or (data_in n image) i 0 < 256
unfolding data_in
data_bytes zero image b = λ i. omega arith
data_bytes (suc n) image b =
    all_append Byte 0 (take data_size image) (data_in n (drop block_size image)) (all_take Byte 0 data_size image (omega arith) b)
    (data_bytes n (drop block_size image) (all_drop Byte 0 block_size image b))

-- an image that loads leaves the start state of its code, which is within the limits
pub loaded : (m image : List ℕ) → ((i : ℕ) → get_or image i 0 < 256) → (load m image).number ≡ 0
    → ((load m image).memory ≡ layout (start (code_in image))) × Sound (start (code_in image))
unfolding load load_answer read_image read_causes code_in image_data
loaded m image b h =
    let outer = unless_zero (length_cause m ∷ []) (started (read_image image)) (omega arith, tt) h in
    let inner = unless_zero (read_causes image) (done (code_in image)) (
      omega arith,
      (
        omega arith,
        (
          omega arith,
          (omega arith, (omega arith, (omega arith, (omega arith, (omega arith, (omega arith, (omega arith, tt))))))),
        ),
      ),
    )
    (sym (started_number (read_image image)) ∙ outer.2) in
    let short : code_length image ≤ code_limit = ltb-false code_limit (code_length image) inner.0.1.1.1.1.1.1.1.0 in
    let body = drop head_size (data_in (blocks_in image) image) in
    let bytes = all_take Byte 0 (code_length image) body (omega arith)
    (all_drop Byte 0 head_size (data_in (blocks_in image) image) (data_bytes (blocks_in image) image b)) in (
      ap (λ (a : Answer State). (called m a).memory) (outer.1 ∙ ap started inner.1),
      start_sound (code_in image) (omega (arith, length-take (code_length image) body, min-le_left (code_length image) (length body)))
          bytes,
    )

-- for every image that loads, and every list of asks and runs from there, refused ones among them
pub demand_3 : (m image : List ℕ) → ((i : ℕ) → get_or image i 0 < 256) → (load m image).number ≡ 0 → (calls : List Call)
    → Demand3 (load m image).memory calls
demand_3 m image b h calls =
    let l = loaded m image b h in
    let code = code_in image in
    subst (λ (x : List ℕ). Demand3 x calls) (sym l.0)
    (calls_right (layout (start code)) (sound_layout (start code) l.1)
    (subst (λ (z : State). AllAgree z (λ e. new_history)) (sym (sound_view (start code) l.1)) (start_agrees code)) calls)
