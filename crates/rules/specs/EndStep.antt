-- Document 01, "A step at an end": the two heads of a pair must match, and are removed. A value against a get's wait, a handle against an
-- hcase's, a split against a fork's, close against close; 16 to 19 in their order. Assumes nothing.
use Rattle.std.specs.Prelude.{ℕ, Bool, true, false, List, [], ◌∷◌, length, get_or, leb, ltb}
use Rattle.std.proofs.Math.Option.{Option, none, some}
use Rattle.rules.specs.Limits.{end_count}
use Rattle.rules.specs.State.{State, Datum, value, handle, Last, split_item, close_item, wait_item, Item, datum, last, Registers}
use Rattle.rules.specs.State.{registers, RecordState, free_record, running, waiting, free_end, record_at, end_at, set_record, set_end}
use Rattle.rules.specs.State.{head_of, behind_head, is_free_end}
use Rattle.rules.specs.Refusal.{Row}
use Rattle.rules.specs.Instruction.{Instruction, cst, access, store, add, mul, leq, put, get, split, fork, plug, close, halt, same}
use Rattle.rules.specs.Instruction.{hput, hcase, run, Decoded, decode}
use Rattle.rules.specs.Causes.{no_free_record}
use Rattle.rules.specs.RecordStep.{branch, partner_in}

-- ---- what a waiting record waits for

-- what is to come, and where the record then goes on
pub data Wanted : Type 0 where
  a_value : (next : ℕ) → Wanted
  a_handle : (places : List ℕ) → Wanted
  a_split : (a m place b m' place' : ℕ) → Wanted

-- the slot whose end the wait stands on, and what is wanted there
pub record Wait : Type 0 where
  pub slot : ℕ
  pub wanted : Wanted

abbrev pub wait_for : ℕ → Wanted → Option Wait
wait_for slot wanted = some (record { slot = slot; wanted = wanted })

-- get, hcase and fork wait; nothing else does
abbrev pub wait_of : Instruction → (next : ℕ) → Option Wait
wait_of (cst v) next = none
wait_of (access n) next = none
wait_of store next = none
wait_of add next = none
wait_of mul next = none
wait_of leq next = none
wait_of (put c) next = none
wait_of (get c) next = wait_for c (a_value next)
wait_of (split c a b) next = none
wait_of (fork c a m place b m' place') next = wait_for c (a_split a m place b m' place')
wait_of (plug a m place m' place') next = none
wait_of (close c) next = none
wait_of (halt c) next = none
wait_of (same c d) next = none
wait_of (hput c n) next = none
wait_of (hcase c places) next = wait_for c (a_handle places)
wait_of (run place n cs) next = none

abbrev pub decoded_wait : Option Decoded → Option Wait
decoded_wait none = none
decoded_wait (some d) = wait_of d.instruction d.next

-- the registers of a waiting record and what it waits for, at its present place
pub record Waiter : Type 0 where
  pub held : Registers
  pub wait : Wait

abbrev pub waiter_with : Registers → Option Wait → Option Waiter
waiter_with g none = none
waiter_with g (some w) = some (record { held = g; wait = w })

abbrev pub waiter_in : List ℕ → RecordState → Option Waiter
waiter_in code free_record = none
waiter_in code (running g) = none
waiter_in code (waiting g) = waiter_with g (decoded_wait (decode code g.place))

-- ---- what two heads make

pub data Meeting : Type 0 where
  -- they don't match
  mismatch : Meeting
  -- the datum at the head of `from` meets the wait of record r at the head of `to`; r runs on with the registers g
  delivers : (from to r : ℕ) (d : Datum) (g : Registers) → Meeting
  -- the split at the head of one meets the wait of record r at the head of the other; r runs on with the registers g, a new record with g'
  divides : (r : ℕ) (g g' : Registers) → Meeting
  -- close meets close
  closes : Meeting

abbrev pub handle_chosen : Bool → Meeting → Meeting
handle_chosen true m = m
handle_chosen false m = mismatch

-- a value against a get: the record runs on after the get, value pushed; a handle n against an hcase of k places with n < k: it runs at
-- place n
abbrev pub meet_datum : (from to r : ℕ) → Datum → Registers → Wanted → Meeting
meet_datum from to r (value v) g (a_value next) =
    delivers from to r (value v) (registers next (v ∷ g.stack) g.environment g.slots)
meet_datum from to r (value v) g (a_handle places) = mismatch
meet_datum from to r (value v) g (a_split a m place b m' place') = mismatch
meet_datum from to r (handle n) g (a_value next) = mismatch
meet_datum from to r (handle n) g (a_handle places) =
    handle_chosen (ltb n (length places))
    (delivers from to r (handle n) (registers (get_or places n 0) g.stack g.environment g.slots))
meet_datum from to r (handle n) g (a_split a m place b m' place') = mismatch

-- a split against a fork: the first branch with the first end in a, the second with the second end in b
abbrev pub meet_split : (first second r : ℕ) → Registers → Wanted → Meeting
meet_split first second r g (a_value next) = mismatch
meet_split first second r g (a_handle places) = mismatch
meet_split first second r g (a_split a m place b m' place') = divides r (branch g a m place first) (branch g b m' place' second)

abbrev pub datum_against : (from to r : ℕ) → Datum → Option Waiter → Meeting
datum_against from to r d none = mismatch
datum_against from to r d (some w) = meet_datum from to r d w.held w.wait.wanted

abbrev pub split_against : (first second r : ℕ) → Option Waiter → Meeting
split_against first second r none = mismatch
split_against first second r (some w) = meet_split first second r w.held w.wait.wanted

-- two last items
abbrev pub meet_lasts : State → Last → Last → Meeting
meet_lasts st close_item close_item = closes
meet_lasts st close_item (split_item x y) = mismatch
meet_lasts st close_item (wait_item r) = mismatch
meet_lasts st (split_item x y) close_item = mismatch
meet_lasts st (split_item x y) (split_item x' y') = mismatch
meet_lasts st (split_item x y) (wait_item r) = split_against x y r (waiter_in st.code (record_at st r))
meet_lasts st (wait_item r) close_item = mismatch
meet_lasts st (wait_item r) (split_item x y) = split_against x y r (waiter_in st.code (record_at st r))
meet_lasts st (wait_item r) (wait_item r') = mismatch

-- a datum at the head of `from` and a last item at the head of `to`
abbrev pub meet_last : State → (from to : ℕ) → Datum → Last → Meeting
meet_last st from to d close_item = mismatch
meet_last st from to d (split_item x y) = mismatch
meet_last st from to d (wait_item r) = datum_against from to r d (waiter_in st.code (record_at st r))

-- the heads of e and f; where a queue is empty nothing matches
abbrev pub meet_heads : State → (e f : ℕ) → Option Item → Option Item → Meeting
meet_heads st e f none y = mismatch
meet_heads st e f (some x) none = mismatch
meet_heads st e f (some (datum d)) (some (datum d')) = mismatch
meet_heads st e f (some (datum d)) (some (last l)) = meet_last st e f d l
meet_heads st e f (some (last l)) (some (datum d)) = meet_last st f e d l
meet_heads st e f (some (last l)) (some (last l')) = meet_lasts st l l'

-- end e and its partner
unfoldable pub meeting : State → ℕ → Meeting
meeting st e = meet_heads st e (partner_in st e) (head_of (end_at st e)) (head_of (end_at st (partner_in st e)))

-- ---- 16 to 19

abbrev pub has_no_head : Option Item → Bool
has_no_head none = true
has_no_head (some x) = false

abbrev pub is_mismatch : Meeting → Bool
is_mismatch mismatch = true
is_mismatch (delivers from to r d g) = false
is_mismatch (divides r g g') = false
is_mismatch closes = false

abbrev pub is_division : Meeting → Bool
is_division mismatch = false
is_division (delivers from to r d g) = false
is_division (divides r g g') = true
is_division closes = false

abbrev pub only_if : Bool → Bool → Bool
only_if true b = b
only_if false b = false

unfoldable pub end_causes : State → ℕ → List Row
end_causes st e =
    (16, leb end_count e)
    ∷ (16, is_free_end (end_at st e))
    ∷ (17, has_no_head (head_of (end_at st e)))
    ∷ (17, has_no_head (head_of (end_at st (partner_in st e))))
    ∷ (18, is_mismatch (meeting st e))
    ∷ (19, only_if (is_division (meeting st e)) (no_free_record st))
    ∷ []

-- ---- the state after

-- both ends of a pair become free
abbrev pub freed : State → (e f : ℕ) → State
freed st e f = set_end (set_end st e free_end) f free_end

-- `new` is the record that a second branch goes into
unfoldable pub after_meeting : State → (e f new : ℕ) → Meeting → State
after_meeting st e f new mismatch = st
after_meeting st e f new (delivers from to r d g) =
    set_record (set_end (set_end st from (behind_head (end_at st from))) to (behind_head (end_at st to))) r (running g)
after_meeting st e f new (divides r g g') = set_record (set_record (freed st e f) r (running g)) new (running g')
after_meeting st e f new closes = freed st e f
