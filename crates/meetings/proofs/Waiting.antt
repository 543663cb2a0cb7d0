-- The record that a wait at the head of a queue names, in a sound memory: it waits, its registers are those that are loaded, and what it
-- wants is what its instruction says. Assumes nothing.
use mathlib.Core.Path.{◌≡◌, refl, sym, ap, ◌∙◌, subst}
use mathlib.Core.Logic.{◌≢◌}
use mathlib.Core.Option.{Option, none, some}
use mathlib.Core.List.{List, [], ◌∷◌}
use Prim.Native.Nat.{ℕ, ◌+◌, ◌*◌, ◌≤◌, ◌<◌}
use native.Mathlib.Omega.{arith}
use lib.ListN.{length}
use borrow.Author.Tests.{leb-false, lt-ltb, le-ltb}
use denote.Enum.Declared.{tag_of}
use types.Run.{OneOf, miss}
use Rattle.rules.specs.Limits.{record_count, end_count, stack_depth}
use Rattle.rules.specs.State.{State, Value, Datum, value, handle, last, wait_item, Registers as Process, RecordState, waiting}
use Rattle.rules.specs.State.{record_at, end_at, head_of}
use Rattle.rules.specs.Refusal.{NoCause}
use Rattle.rules.specs.Instruction.{Instruction, cst, access, store, add, mul, leq, put, get, split, fork, plug, close, halt, same}
use Rattle.rules.specs.Instruction.{hput, hcase, run, Decoded, decode, place_at, places_at}
use Rattle.rules.specs.Causes.{own_causes}
use Rattle.rules.specs.EndStep.{Wanted, a_value, a_handle, Wait, wait_of, decoded_wait, waiter_with, waiter_in}
use Rattle.rules.specs.EndStep.{Meeting, mismatch, delivers, meet_datum, meet_split, datum_against, split_against}
use Rattle.rules.specs.Sound.{RegistersWithin, RecordWithin}
use Rattle.rules.specs.Layout.{view}
use Rattle.keeping.specs.Demand3.{SoundMemory}
use Rattle.keeping.proofs.Running.{waiting_in_list}
use Rattle.registers.specs.declared.Registers.{Registers}
use Rattle.registers.specs.Registers.{registers_of, registers_in, moved_to}
use Rattle.registers.proofs.Fields.{by_fields}
use Rattle.code.proofs.Listing.{length_places, listed_place}
use Rattle.stepping.proofs.Steps.{Loads, loaded}
use Rattle.std.specs.Prelude.{Option as Maybe, Some, None}
use Rattle.meetings.specs.declared.wanted.Wanted.{Wanted as Answer}
use Rattle.meetings.specs.declared.wanted.Wanted.TheVariants.{Value as Value', Handle, Split}
use Rattle.meetings.specs.Heads.{DatumWaits}
use Rattle.meetings.specs.Wanted.{wanted_by, wanted_of, HasRoom, RunsOn}
use Rattle.meetings.specs.contracts.wanted.Wanted.{the_type}
use Rattle.meetings.proofs.Ends.{head_in_list, last_is}

-- ---- what is wanted at a place

abbrev pub wanted_at : List ℕ → (place : ℕ) → Option Wanted
wanted_at code place = wanted_by (decoded_wait (decode code place))

-- a record that wants a value stands at a get, whose own causes leave room for it
room_left : (g : Process) (i : Instruction) (next n : ℕ) → NoCause (own_causes g i) → wanted_by (wait_of i next) ≡ some (a_value n)
    → length g.stack < stack_depth
unfolding own_causes
room_left g (cst v) next n own h = absurd cc
room_left g (access k) next n own h = absurd cc
room_left g store next n own h = absurd cc
room_left g add next n own h = absurd cc
room_left g mul next n own h = absurd cc
room_left g leq next n own h = absurd cc
room_left g (put c) next n own h = absurd cc
room_left g (get c) next n own h = leb-false stack_depth (length g.stack) own.0
room_left g (split c a b) next n own h = absurd cc
room_left g (fork c a m place b m' place') next n own h = absurd cc
room_left g (plug a m place m' place') next n own h = absurd cc
room_left g (close c) next n own h = absurd cc
room_left g (halt c) next n own h = absurd cc
room_left g (same c d) next n own h = absurd cc
room_left g (hput c k) next n own h = absurd cc
room_left g (hcase c places) next n own h = absurd cc
room_left g (run place k cs) next n own h = absurd cc

-- ---- the waiting record

-- record r waits with the registers `held`, and has room for a value that it wants
pub record Waits (st : State) (r : ℕ) : Type 0 where
  pub held : Process
  pub is : record_at st r ≡ waiting held
  pub within : RegistersWithin held
  pub in_list : r < record_count
  pub room : (next : ℕ) → wanted_at st.code held.place ≡ some (a_value next) → length held.stack < stack_depth

module _ (m : List ℕ) (s : SoundMemory m) where
  pub waits_there : (to r : ℕ) → head_of (end_at (view m) to) ≡ some (last (wait_item r)) → Waits (view m) r
  waits_there to r h =
      let there = s.state_sound.S5 to r (last_is (end_at (view m) to) h) in
      record {
        held = there.held;
        is = there.waits;
        within = subst RecordWithin there.waits (s.state_sound.S1.records_within r);
        in_list = omega (arith, waiting_in_list (view m) r there.held there.waits, s.state_sound.S1.record_count_is);
        room = λ next q. room_left there.held there.there.instruction there.there.next next there.no_cause_is
            (subst (λ (x : Option Decoded). wanted_by (decoded_wait x) ≡ some (a_value next)) there.decoded q);
      }

  -- the two ends and the record are the state's
  pub datum_within : {from to r : ℕ} {d : Datum} → DatumWaits (view m) from to d r → (from < end_count)
      × (to < end_count) × (r < record_count)
  datum_within {from} {to} {r} h = (
    head_in_list (view m) s.state_sound from h.datum_heads,
    head_in_list (view m) s.state_sound to h.wait_heads,
    (waits_there to r h.wait_heads).in_list,
  )

  -- the registers that are loaded
  pub held_is : (r : ℕ) (w : Waits (view m) r) {x : Registers} → Loads m r x → x ≡ registers_of w.held
  held_is r w f = loaded m s r f ∙ ap (λ (y : RecordState). registers_of (registers_in y)) w.is

-- ---- a datum or a split against what is wanted

abbrev pub datum_for : (from to r : ℕ) → Datum → Process → Option Wanted → Meeting
datum_for from to r d g none = mismatch
datum_for from to r d g (some x) = meet_datum from to r d g x

abbrev pub split_for : (first second r : ℕ) → Process → Option Wanted → Meeting
split_for first second r g none = mismatch
split_for first second r g (some x) = meet_split first second r g x

-- a datum for a process that waits
datum_against_lem : (code : List ℕ) (g : Process) (from to r : ℕ) (d : Datum)
    → datum_against from to r d (waiter_in code (waiting g)) ≡ datum_for from to r d g (wanted_at code g.place)
datum_against_lem code g from to r d = go (decoded_wait (decode code g.place))
  where
    go : (x : Option Wait) → datum_against from to r d (waiter_with g x) ≡ datum_for from to r d g (wanted_by x)
    go none = refl
    go (some x) = refl

split_against_lem : (st : State) (r : ℕ) (w : Waits st r) (first second : ℕ)
    → split_against first second r (waiter_in st.code (record_at st r))
    ≡ split_for first second r w.held (wanted_at st.code w.held.place)
split_against_lem st r w first second = rw w.is (go (decoded_wait (decode st.code w.held.place)))
  where
    go : (x : Option Wait) → split_against first second r (waiter_with w.held x) ≡ split_for first second r w.held (wanted_by x)
    go none = refl
    go (some x) = refl

-- ---- what the code found out

-- the registers that were loaded are those of the waiting record, and the answer on their place is right
pub record Found (st : State) (r : ℕ) (x : Registers) (answer : Maybe Answer) : Type 0 where
  pub waits : Waits st r
  pub loaded : x ≡ registers_of waits.held
  pub wanted_is : wanted_at st.code waits.held.place ≡ wanted_of st.code waits.held.place answer

pub found : (m : List ℕ) → SoundMemory m → (to r : ℕ) → head_of (end_at (view m) to) ≡ some (last (wait_item r))
    → (x : Registers) (answer : Maybe Answer)
    → Loads m r x → wanted_of (view m).code x.place answer ≡ wanted_at (view m).code x.place → Found (view m) r x answer
found m s to r h x answer f q =
    let w = waits_there m s to r h in
    let e = held_is m s r w f in
    record {
      waits = w;
      loaded = e;
      wanted_is =
          let here = (by_fields w.held e).place_is in
          sym (subst (λ (p : ℕ). wanted_of (view m).code p answer ≡ wanted_at (view m).code p) here q);
    }

pub split_found : (st : State) (r : ℕ) {x : Registers} {answer : Maybe Answer} (f : Found st r x answer) (first second : ℕ)
    → split_against first second r (waiter_in st.code (record_at st r))
    ≡ split_for first second r f.waits.held (wanted_of st.code f.waits.held.place answer)
split_found st r f first second =
    split_against_lem st r f.waits first second ∙ ap (split_for first second r f.waits.held) f.wanted_is

-- where another thing is wanted than the code tests for, known by its tag, nothing matches
pub no_split_wanted : (code : List ℕ) (place : ℕ) (g : Process) (answer : Answer) → OneOf (0 ∷ 1 ∷ []) (tag_of the_type answer)
    → (first second r : ℕ) → split_for first second r g (wanted_of code place (Some answer)) ≡ mismatch
no_split_wanted code place g (Value' next) h first second r = refl
no_split_wanted code place g (Handle k) h first second r = refl
no_split_wanted code place g (Split a one b two) h first second r = absurd (miss (0 ∷ 1 ∷ []) 2 tt h)

-- ---- a datum is there

-- a waiting record has room for the value that it wants
pub room_there : (m : List ℕ) (s : SoundMemory m) (to r : ℕ) → head_of (end_at (view m) to) ≡ some (last (wait_item r)) → {x : Registers}
    → Loads m r x → HasRoom (view m).code x
room_there m s to r h {x} f = record {
  room = λ next q.
      let w = waits_there m s to r h in
      let e = by_fields w.held (held_is m s r w f) in
      let wanted : wanted_at (view m).code w.held.place ≡ some (a_value next) =
      subst (λ (p : ℕ). wanted_at (view m).code p ≡ some (a_value next)) e.place_is q in
      omega (arith, w.room next wanted, e.stack_count_is);
}

-- a datum against the record is one against a process that waits
pub against : (st : State) {r : ℕ} (w : Waits st r) (from to : ℕ) (d : Datum)
    → datum_against from to r d (waiter_in st.code (record_at st r)) ≡ datum_against from to r d (waiter_in st.code (waiting w.held))
against st {r} w from to d = ap (λ (x : RecordState). datum_against from to r d (waiter_in st.code x)) w.is

-- the registers `held` of the code stand for those of g, which waits at their place for x
module _ (code : List ℕ) (g : Process) {held : Registers} (e : held ≡ registers_of g) (x : Option Wanted)
    (q : x ≡ wanted_at code held.place) where
  datum_found : (from to r : ℕ) (d : Datum) → datum_against from to r d (waiter_in code (waiting g)) ≡ datum_for from to r d g x
  datum_found from to r d =
      datum_against_lem code g from to r d
      ∙ ap (datum_for from to r d g) (sym (q ∙ ap (λ (p : ℕ). wanted_at code p) (by_fields g e).place_is))

  -- the datum is what it waits for, or it is not
  pub met_runs : (d : Datum) {after : Registers} (g' : Process)
      → ((from to r : ℕ) → datum_for from to r d g x ≡ delivers from to r d g') → after ≡ registers_of g'
      → RunsOn code g d (Some after)
  met_runs d g' met is = record {
    process = g';
    meets = λ from to r. datum_found from to r d ∙ met from to r;
    stands_for = is;
  }

  pub unmet_waits : (d : Datum) → ((from to r : ℕ) → datum_for from to r d g x ≡ mismatch) → RunsOn code g d None
  unmet_waits d unmet from to r = datum_found from to r d ∙ unmet from to r

-- a value meets nothing but the wait of a get, a handle nothing but that of an hcase of more places
module _ (code : List ℕ) (place : ℕ) (g : Process) (from to r : ℕ) where
  pub no_value_wanted : (v : Value) (answer : Answer) → ((next : ℕ) → answer ≢ Value' next)
      → datum_for from to r (value v) g (wanted_of code place (Some answer)) ≡ mismatch
  no_value_wanted v (Value' next) h = absurd (h next refl)
  no_value_wanted v (Handle k) h = refl
  no_value_wanted v (Split a first b second) h = refl

  pub no_handle_wanted : (n : ℕ) (answer : Answer) → ((k : ℕ) → answer ≢ Handle k)
      → datum_for from to r (handle n) g (wanted_of code place (Some answer)) ≡ mismatch
  no_handle_wanted n (Value' next) h = refl
  no_handle_wanted n (Handle k) h = absurd (h k refl)
  no_handle_wanted n (Split a first b second) h = refl

  pub handle_below : (n k : ℕ) {p : ℕ} → n < k → p ≡ place_at code place (3 + 2 * n)
      → datum_for from to r (handle n) g (some (a_handle (places_at code place 3 k))) ≡ delivers from to r (handle n) (moved_to g p)
  handle_below n k below q =
      rw (length_places code place 3 k, lt-ltb n k below, listed_place code place 3 k n below, q)

  pub handle_past : (n k : ℕ) → k ≤ n
      → datum_for from to r (handle n) g (some (a_handle (places_at code place 3 k))) ≡ mismatch
  handle_past n k past = rw (length_places code place 3 k, le-ltb n k past)
