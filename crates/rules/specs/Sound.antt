-- Document 01, "Sound": S1 to S5 as statements, over every number that a record, an end or a slot might have. A number over the last
-- record's or the last end's shows as free, so S2, S3 and S4 also say that no end and no record over the limits is named anywhere, and
-- that a split's two ends differ. The test that computes is in `SoundTest`. Assumes nothing.
use Rattle.std.specs.Prelude.{◌≡◌, ◌≢◌, List, ℕ, ◌+◌, ◌≤◌, ◌<◌, length, get_or, pos}
use Rattle.std.proofs.Math.Option.{Option, none, some}
use Rattle.std.specs.Int.Signed.{mag}
use Rattle.rules.specs.Count.{δ, total}
use Rattle.rules.specs.Limits.{record_count, end_count, slot_count, stack_depth, environment_depth, queue_depth, code_limit, place_count}
use Rattle.rules.specs.Limits.{handle_count, value_bound}
use Rattle.rules.specs.State.{State, Value, Datum, value, handle, Last, split_item, close_item, wait_item, EndState, free_end, used}
use Rattle.rules.specs.State.{Registers, RecordState, free_record, running, waiting, record_at, end_at, queue_length, last_of, partner_of}
use Rattle.rules.specs.State.{slot_at}
use Rattle.rules.specs.Refusal.{NoCause}
use Rattle.rules.specs.Instruction.{Decoded, decode}
use Rattle.rules.specs.Causes.{own_causes}
use Rattle.rules.specs.EndStep.{Wait, wait_of}

-- ---- S1: every count and number is within the limits

-- a value is a signed number of 32 bits
abbrev pub ValueWithin : Value → Type 0
ValueWithin v = mag v < value_bound

-- what is queued: a value of 32 bits, a handle of one byte
abbrev pub DatumWithin : Datum → Type 0
DatumWithin (value v) = ValueWithin v
DatumWithin (handle n) = n < handle_count

-- a two-byte place, at most so many values on the stack and in the environment, so many slots
pub record RegistersWithin (g : Registers) : Type 0 where
  pub place_within : g.place < place_count
  pub stack_within : length g.stack ≤ stack_depth
  pub environment_within : length g.environment ≤ environment_depth
  pub stack_values : (i : ℕ) → ValueWithin (get_or g.stack i (pos 0))
  pub environment_values : (i : ℕ) → ValueWithin (get_or g.environment i (pos 0))
  pub slots_within : length g.slots ≡ slot_count

abbrev pub RecordWithin : RecordState → Type 0
RecordWithin free_record = Unit {0}
RecordWithin (running g) = RegistersWithin g
RecordWithin (waiting g) = RegistersWithin g

-- a queue of at most so many items
abbrev pub EndWithin : EndState → Type 0
EndWithin free_end = Unit {0}
EndWithin (used m ds l) = (queue_length (used m ds l) ≤ queue_depth) × ((i : ℕ) → DatumWithin (get_or ds i (handle 0)))

pub record Within (st : State) : Type 0 where
  pub code_within : length st.code ≤ code_limit
  pub code_bytes : (i : ℕ) → get_or st.code i 0 < 256
  pub record_count_is : length st.records ≡ record_count
  pub end_count_is : length st.ends ≡ end_count
  pub records_within : (r : ℕ) → RecordWithin (record_at st r)
  pub ends_within : (e : ℕ) → EndWithin (end_at st e)

-- ---- S2: an end in use has a partner other than itself, whose partner it is

abbrev pub Paired : State → ℕ → EndState → Type 0
Paired st e free_end = Unit {0}
Paired st e (used m ds l) = (m ≢ e) × (partner_of (end_at st m) ≡ some e)

-- ---- S3: each end in use is in exactly one place

-- end e is in this slot
abbrev pub in_slot : ℕ → Option ℕ → ℕ
in_slot e none = 0
in_slot e (some f) = δ e f

-- in how many slots of a record in use end e is
abbrev pub held_in : ℕ → RecordState → ℕ
held_in e free_record = 0
held_in e (running g) = total (in_slot e) g.slots
held_in e (waiting g) = total (in_slot e) g.slots

abbrev pub in_last : ℕ → Option Last → ℕ
in_last e none = 0
in_last e (some (split_item p q)) = δ e p + δ e q
in_last e (some close_item) = 0
in_last e (some (wait_item r)) = 0

-- how often a split item of this queue carries end e
abbrev pub carried_by : ℕ → EndState → ℕ
carried_by e x = in_last e (last_of x)

abbrev pub gives_up : Option Last → ℕ
gives_up none = 0
gives_up (some (split_item p q)) = 1
gives_up (some close_item) = 1
gives_up (some (wait_item r)) = 0

-- an end is given up exactly when the last item of its own queue is a close or a split
abbrev pub given_up : EndState → ℕ
given_up x = gives_up (last_of x)

abbrev pub in_use : EndState → ℕ
in_use free_end = 0
in_use (used m ds l) = 1

-- in how many places end e is: slots of records in use, split items, and being given up
unfoldable pub places_of : State → ℕ → ℕ
places_of st e = total (held_in e) st.records + total (carried_by e) st.ends + given_up (end_at st e)

-- ---- S4: each waiting record is named by exactly one wait item, running or free ones by none

abbrev pub named_by_last : ℕ → Option Last → ℕ
named_by_last r none = 0
named_by_last r (some (split_item p q)) = 0
named_by_last r (some close_item) = 0
named_by_last r (some (wait_item r')) = δ r r'

abbrev pub named_by : ℕ → EndState → ℕ
named_by r x = named_by_last r (last_of x)

-- how many wait items name record r
unfoldable pub waits_naming : State → ℕ → ℕ
waits_naming st r = total (named_by r) st.ends

abbrev pub is_waiting : RecordState → ℕ
is_waiting free_record = 0
is_waiting (running g) = 0
is_waiting (waiting g) = 1

-- ---- S5: a waiting record stands at a get, hcase or fork naming that end's slot, and none of the causes 4, 6, 8, 10, 11 holds there

-- the record waits, holds end e in the slot that its instruction names, and none of that instruction's own causes holds (get has 6 and 8,
-- hcase 8, fork 8, 10 and 11; 4 does not, as the instruction is there)
pub record StandsAt (code : List ℕ) (e : ℕ) (x : RecordState) : Type 0 where
  pub held : Registers
  pub waits : x ≡ waiting held
  pub there : Decoded
  pub decoded : decode code held.place ≡ some there
  pub wait : Wait
  pub named : wait_of there.instruction there.next ≡ some wait
  pub holds : slot_at held wait.slot ≡ some e
  pub no_cause_is : NoCause (own_causes held there.instruction)

-- ---- sound means all of

pub record Sound (st : State) : Type 0 where
  -- every count and number is within the limits
  pub S1 : Within st
  -- an end in use has a partner other than itself, whose partner it is
  pub S2 : (e : ℕ) → Paired st e (end_at st e)
  -- each end in use is in exactly one place, a free one in none
  pub S3 : (e : ℕ) → places_of st e ≡ in_use (end_at st e)
  -- each waiting record is named by exactly one wait item, the others by none; that such items stand only last is in `EndState`
  pub S4 : (r : ℕ) → waits_naming st r ≡ is_waiting (record_at st r)
  -- a record named by a wait item stands at its end
  pub S5 : (e r : ℕ) → last_of (end_at st e) ≡ some (wait_item r) → StandsAt st.code e (record_at st r)
