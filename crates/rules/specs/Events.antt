-- What a step creates, puts and takes, and the history of an end since the step that created it. Demand 3 speaks of these. That an event is
-- exactly a change of that queue by the step is proved in the crate `keeping`. Assumes nothing.
use Rattle.std.specs.Prelude.{ℕ, ◌-◌, Bool, true, false, List, [], ◌∷◌, ◌++◌, ltb, eqb}
use Rattle.std.proofs.Math.Option.{Option, none, some}
use Rattle.rules.specs.Limits.{record_count}
use Rattle.rules.specs.State.{State, Datum, value, handle, Registers, RecordState, free_record, running, waiting, record_at, end_in}
use Rattle.rules.specs.Instruction.{Instruction, cst, access, store, add, mul, leq, put, get, split, fork, plug, close, halt, same}
use Rattle.rules.specs.Instruction.{hput, hcase, run, Decoded, decode}
use Rattle.rules.specs.Causes.{top}
use Rattle.rules.specs.RecordStep.{Fresh, lowest_free}
use Rattle.rules.specs.EndStep.{Meeting, mismatch, delivers, divides, closes, meeting}
use Rattle.rules.specs.Run.{Step}

-- an end is created; a value or handle is put on the queue of an end, or taken from it
pub data Event : Type 0 where
  created : (e : ℕ) → Event
  put_on : (e : ℕ) (d : Datum) → Event
  taken_from : (e : ℕ) (d : Datum) → Event

-- ---- the events of a step that is done

-- of a record with registers g
unfoldable pub instruction_events : Registers → Fresh → Instruction → List Event
instruction_events g new (cst v) = []
instruction_events g new (access n) = []
instruction_events g new store = []
instruction_events g new add = []
instruction_events g new mul = []
instruction_events g new leq = []
instruction_events g new (put c) = put_on (end_in g c) (value (top g)) ∷ []
instruction_events g new (get c) = []
instruction_events g new (split c a b) = created new.p ∷ created new.q ∷ created new.s ∷ created new.t ∷ []
instruction_events g new (fork c a m place b m' place') = []
instruction_events g new (plug a m place m' place') = created new.p ∷ created new.q ∷ []
instruction_events g new (close c) = []
instruction_events g new (halt c) = []
instruction_events g new (same c d) = []
instruction_events g new (hput c n) = put_on (end_in g c) (handle n) ∷ []
instruction_events g new (hcase c places) = []
instruction_events g new (run place n cs) = []

abbrev pub decoded_events : Registers → Fresh → Option Decoded → List Event
decoded_events g new none = []
decoded_events g new (some d) = instruction_events g new d.instruction

abbrev pub record_events_in : State → RecordState → List Event
record_events_in st free_record = []
record_events_in st (waiting g) = []
record_events_in st (running g) = decoded_events g (lowest_free st) (decode st.code g.place)

-- of record r
unfoldable pub record_events : State → (r : ℕ) → List Event
record_events st r = record_events_in st (record_at st r)

-- at an end
unfoldable pub meeting_events : Meeting → List Event
meeting_events mismatch = []
meeting_events (delivers from to r d g) = taken_from from d ∷ []
meeting_events (divides r g g') = []
meeting_events closes = []

unfoldable pub end_events : State → (e : ℕ) → List Event
end_events st e = meeting_events (meeting st e)

abbrev pub pick_events : Bool → List Event → List Event → List Event
pick_events true xs ys = xs
pick_events false xs ys = ys

-- of the step at a position
unfoldable pub events : State → (p : ℕ) → List Event
events st p = pick_events (ltb p record_count) (record_events st p) (end_events st (p - record_count))

-- of several steps, in order
unfoldable pub steps_events : List Step → List Event
steps_events [] = []
steps_events (s ∷ ss) = events s.before s.position ++ steps_events ss

-- ---- the history of an end

-- what was put on it and what was taken from it since its creation, each in order
pub record History : Type 0 where
  pub put_so_far : List Datum
  pub taken_so_far : List Datum

abbrev pub new_history : History
new_history = record { put_so_far = []; taken_so_far = [] }

-- one datum more put; one datum more taken
abbrev pub more_put : History → Datum → History
more_put h d = record { put_so_far = h.put_so_far ++ d ∷ []; taken_so_far = h.taken_so_far }

abbrev pub more_taken : History → Datum → History
more_taken h d = record { put_so_far = h.put_so_far; taken_so_far = h.taken_so_far ++ d ∷ [] }

abbrev pub pick_history : Bool → History → History → History
pick_history true h k = h
pick_history false h k = k

-- the history of end e with one more event
abbrev pub noted : (e : ℕ) → History → Event → History
noted e h (created f) = pick_history (eqb f e) new_history h
noted e h (put_on f d) = pick_history (eqb f e) (more_put h d) h
noted e h (taken_from f d) = pick_history (eqb f e) (more_taken h d) h

-- the history of end e with more events, in order
unfoldable pub history : (e : ℕ) → History → List Event → History
history e h [] = h
history e h (x ∷ xs) = history e (noted e h x) xs
