-- What the functions that step a record share: a refusal leaves the memory as it was, registers saved are the state after, and the
-- registers that are loaded from a sound memory are those of the record. Assumes nothing.
use mathlib.Core.Path.{◌≡◌, refl, sym, ap, ◌∙◌, subst}
use mathlib.Core.Logic.{◌≢◌}
use mathlib.Core.List.{List}
use Prim.Native.Nat.{ℕ, ◌≤◌, ◌<◌}
use native.Mathlib.Omega.{arith}
use lib.ListN.{drop, length-take, length-drop, length-set}
use lib.Seq.{get_or-set_other}
use Rattle.rules.specs.State.{State, Registers as Process, EndState, free_end, RecordState, free_record, running, waiting}
use Rattle.rules.specs.State.{record_at, end_at, set_record, set_end}
use Rattle.rules.specs.Refusal.{Answer, refused, done}
use Rattle.rules.specs.Limits.{record_count, environment_depth, code_limit}
use Rattle.rules.specs.Bytes.{number_at}
use Rattle.rules.specs.Layout.{no_registers, layout, view}
use Rattle.rules.specs.Sound.{RegistersWithin, RecordWithin}
use Rattle.rules.specs.Calls.{layout_or}
use Rattle.rules.specs.Numbers.{reply_to}
use Rattle.rules.specs.Promise.{Promise}
use Rattle.keeping.specs.Demand3.{SoundMemory}
use Rattle.keeping.proofs.LayoutLaws.{Sized}
use Rattle.keeping.proofs.Running.{running_in_list}
use Rattle.keeping.proofs.Memories.{memory_length}
use Rattle.registers.specs.declared.Registers.{Registers}
use Rattle.registers.specs.Registers.{registers_of, registers_in}
use Rattle.registers.proofs.Fields.{by_fields}
use Rattle.stepping.specs.Stepped.{shown_by, RunsAt}

-- ---- replies

pub refused_step : {a : Answer State} {m : List ℕ} (n : ℕ) → a ≡ refused n → Promise (reply_to a) (layout_or m a) (refused n) m
refused_step {m = m} n e = record { answer_is = ap reply_to (sym e); memory_is = ap (layout_or m) (sym e) }

pub done_step : {a : Answer State} (m : List ℕ) {left : List ℕ} (st : State) → a ≡ done st → left ≡ layout st
    → Promise (reply_to a) (layout_or m a) (done tt) left
done_step m st e q = record { answer_is = ap reply_to (sym e); memory_is = q ∙ ap (layout_or m) (sym e) }

-- a promise is one about an equal answer
pub promised_as : {a b : Answer State} (m : List ℕ) {reply : Answer (Unit {0})} {left : List ℕ} → a ≡ b
    → Promise (reply_to b) (layout_or m b) reply left → Promise (reply_to a) (layout_or m a) reply left
promised_as m {reply} {left} q p = subst (λ (x : Answer State). Promise (reply_to x) (layout_or m x) reply left) (sym q) p

-- ---- what is put anew

-- another end stays
pub other_end : (st : State) (e k : ℕ) (x : EndState) → k ≢ e → end_at (set_end st e x) k ≡ end_at st k
other_end st e k x differ = get_or-set_other st.ends e k x free_end differ

-- with a record put anew there are as many records and ends; for an end put anew `sized_anew` of `ends` says it
pub sized_record : (st : State) (r : ℕ) (x : RecordState) → Sized st → Sized (set_record st r x)
sized_record st r x z = record { records_sized = length-set st.records r x ∙ z.records_sized; ends_sized = z.ends_sized }

-- ---- a sound memory

-- it has its records and its ends
pub memory_sized : (m : List ℕ) → SoundMemory m → Sized (view m)
memory_sized m s = record { records_sized = s.state_sound.S1.record_count_is; ends_sized = s.state_sound.S1.end_count_is }

-- the number of bytes of the code that stands in a sound memory
pub code_fits : (m : List ℕ) → SoundMemory m → number_at 2 m 0 ≤ code_limit
unfolding view
code_fits m s =
    omega (arith, s.state_sound.S1.code_within, memory_length m s, length-take (number_at 2 m 0) (drop 2 m), length-drop 2 m)

-- what `load` promises
abbrev pub Loads : List ℕ → (r : ℕ) → Registers → Type 0
Loads m r x =
    (st : State) → Sized st → RecordWithin (record_at st r) → m ≡ layout st → x ≡ registers_of (registers_in (record_at st r))

-- the same of a sound memory, whatever the record is
pub loaded : (m : List ℕ) → SoundMemory m → (r : ℕ) {x : Registers} → Loads m r x → x ≡ registers_of (shown_by m r)
loaded m s r f = f (view m) (memory_sized m s) (s.state_sound.S1.records_within r) s.laid_out

-- the registers that a record shows are within the limits
pub shown_within : (m : List ℕ) → SoundMemory m → (r : ℕ) → RegistersWithin (shown_by m r)
unfolding no_registers
shown_within m s r = go (record_at (view m) r) (s.state_sound.S1.records_within r)
  where
    go : (y : RecordState) → RecordWithin y → RegistersWithin (registers_in y)
    go free_record w = record {
      place_within = omega arith;
      stack_within = omega arith;
      environment_within = omega arith;
      stack_values = λ i. omega arith;
      environment_values = λ i. omega arith;
      slots_within = refl;
    }
    go (running g) w = w
    go (waiting g) w = w

-- the environment that is loaded is within the limits, whatever the record is
pub held_small : (m : List ℕ) (s : SoundMemory m) (r : ℕ) {x : Registers} → Loads m r x → x.environment_count ≤ environment_depth
held_small m s r f = omega (
  arith,
  (by_fields (shown_by m r) (loaded m s r f)).environment_count_is,
  (shown_within m s r).environment_within,
)

-- ---- a running record of a sound memory

module _ (m : List ℕ) (s : SoundMemory m) (r : ℕ) (g : Process) (is : record_at (view m) r ≡ running g) where
  pub registers_ok : RegistersWithin g
  registers_ok = subst RecordWithin is (s.state_sound.S1.records_within r)

  pub held_is : {x : Registers} → Loads m r x → x ≡ registers_of g
  held_is f = loaded m s r f ∙ ap (λ (y : RecordState). registers_of (registers_in y)) is

-- its number is one of a record's
pub in_range : (m : List ℕ) → SoundMemory m → (r : ℕ) → RunsAt m r → r < record_count
in_range m s r a = rw (sym s.state_sound.S1.record_count_is) (running_in_list (view m) r a.process a.runs)
