-- Document 01, "The state": process records, ends with their queues, and the code, as lists. Slots, ends and records are named by numbers;
-- in text a slot is c, d, a, b, an end e, f, p, q and a record r. What makes a state sound is in `Sound`. Assumes nothing.
use Rattle.std.specs.Prelude.{ℕ, suc, Bool, true, false, List, [], ◌∷◌, ◌++◌, length, get_or, set, replicate, ℤ}
use Rattle.std.proofs.Math.Option.{Option, none, some}
use Rattle.rules.specs.Limits.{record_count, end_count, slot_count}

-- a value: a signed number. Its 32 bits are a limit of `Sound`
abbrev pub Value : Type 0
Value = ℤ

-- what is put on a queue and taken from it: a value or a handle
pub data Datum : Type 0 where
  value : Value → Datum
  handle : ℕ → Datum

-- what stands only last in a queue: a split with two ends, a close, or a wait naming a record
pub data Last : Type 0 where
  split_item : (first second : ℕ) → Last
  close_item : Last
  wait_item : (record' : ℕ) → Last

-- an item of a queue
pub data Item : Type 0 where
  datum : Datum → Item
  last : Last → Item

-- an end: free, or in use with a partner and a queue, head first: values and handles, then at most one last item.
-- That wait, close and split stand only last (S4) is said by this type
pub data EndState : Type 0 where
  free_end : EndState
  used : (partner : ℕ) (queued : List Datum) (final : Option Last) → EndState

-- the registers of one process: a place in the code, the stack top first, the environment newest first, and the local slots
pub record Registers : Type 0 where
  pub place : ℕ
  pub stack : List Value
  pub environment : List Value
  pub slots : List (Option ℕ)

abbrev pub registers : ℕ → List Value → List Value → List (Option ℕ) → Registers
registers place stack environment slots = record { place = place; stack = stack; environment = environment; slots = slots }

-- a process record: free, running or waiting
pub data RecordState : Type 0 where
  free_record : RecordState
  running : Registers → RecordState
  waiting : Registers → RecordState

pub record State : Type 0 where
  pub code : List ℕ
  pub records : List RecordState
  pub ends : List EndState

-- ---- one record, one end, one slot

-- record r; a number over the last record's shows as a free one
abbrev pub record_at : State → ℕ → RecordState
record_at st r = get_or st.records r free_record

-- end e; a number over the last end's shows as a free one
abbrev pub end_at : State → ℕ → EndState
end_at st e = get_or st.ends e free_end

-- the state with record r anew
abbrev pub set_record : State → ℕ → RecordState → State
set_record st r x = record { code = st.code; records = set st.records r x; ends = st.ends }

-- the state with end e anew
abbrev pub set_end : State → ℕ → EndState → State
set_end st e x = record { code = st.code; records = st.records; ends = set st.ends e x }

-- what slot c holds
abbrev pub slot_at : Registers → ℕ → Option ℕ
slot_at g c = get_or g.slots c none

abbrev pub end_or : ℕ → Option ℕ → ℕ
end_or e none = e
end_or e (some f) = f

-- the notes' translation: the end that local slot c stands for. An empty slot stands for no end
abbrev pub end_in : Registers → ℕ → ℕ
end_in g c = end_or end_count (slot_at g c)

-- ---- one queue

-- how many items are queued
abbrev pub queue_length : EndState → ℕ
queue_length free_end = 0
queue_length (used m ds none) = length ds
queue_length (used m ds (some l)) = suc (length ds)

-- the head of the queue
abbrev pub head_of : EndState → Option Item
head_of free_end = none
head_of (used m [] none) = none
head_of (used m [] (some l)) = some (last l)
head_of (used m (d ∷ ds) l) = some (datum d)

-- the end with the head of its queue removed
abbrev pub behind_head : EndState → EndState
behind_head free_end = free_end
behind_head (used m [] l) = used m [] none
behind_head (used m (d ∷ ds) l) = used m ds l

-- the last item of the queue, where it is a split, a close or a wait
abbrev pub last_of : EndState → Option Last
last_of free_end = none
last_of (used m ds l) = l

-- the values and handles queued, in order
abbrev pub data_of : EndState → List Datum
data_of free_end = []
data_of (used m ds l) = ds

-- the partner
abbrev pub partner_of : EndState → Option ℕ
partner_of free_end = none
partner_of (used m ds l) = some m

-- the end with an item appended; nothing is appended behind a last item
abbrev pub appended : Item → EndState → EndState
appended x free_end = free_end
appended (datum d) (used m ds none) = used m (ds ++ d ∷ []) none
appended (last l) (used m ds none) = used m ds (some l)
appended (datum d) (used m ds (some k)) = used m ds (some k)
appended (last l) (used m ds (some k)) = used m ds (some k)

-- the end with another partner; its queue stays
abbrev pub with_partner : ℕ → EndState → EndState
with_partner m free_end = free_end
with_partner m (used old ds l) = used m ds l

-- an end just created, with an empty queue
abbrev pub fresh_end : ℕ → EndState
fresh_end m = used m [] none

-- ---- what is free, in use, waiting

abbrev pub is_free_end : EndState → Bool
is_free_end free_end = true
is_free_end (used m ds l) = false

abbrev pub is_free_record : RecordState → Bool
is_free_record free_record = true
is_free_record (running g) = false
is_free_record (waiting g) = false

abbrev pub prepend_if : Bool → ℕ → List ℕ → List ℕ
prepend_if true k ks = k ∷ ks
prepend_if false k ks = ks

-- the places of a list, counted from k, whose elements pass a test
unfoldable pub places_from : {A : Type 0} → ℕ → (A → Bool) → List A → List ℕ
places_from k test [] = []
places_from k test (x ∷ xs) = prepend_if (test x) k (places_from (suc k) test xs)

-- the free ends, lowest first
unfoldable pub free_ends : State → List ℕ
free_ends st = places_from 0 is_free_end st.ends

-- the free records, lowest first
unfoldable pub free_records : State → List ℕ
free_records st = places_from 0 is_free_record st.records

-- the lowest free end; with none free, the number of ends
abbrev pub lowest_free_end : State → ℕ
lowest_free_end st = get_or (free_ends st) 0 end_count

-- the lowest free record; with none free, the number of records
abbrev pub lowest_free_record : State → ℕ
lowest_free_record st = get_or (free_records st) 0 record_count

-- ---- the start state

abbrev pub empty_slots : List (Option ℕ)
empty_slots = replicate slot_count none

-- record 0 running at place 0, all else empty, all ends free
unfoldable pub start : List ℕ → State
start code = record {
  code = code;
  records = set (replicate record_count free_record) 0 (running (registers 0 [] [] empty_slots));
  ends = replicate end_count free_end;
}
