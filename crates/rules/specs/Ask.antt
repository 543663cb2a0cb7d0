-- Asking a record, an end, or a position to step: document 01's number, or the state after. The state is taken to be sound here; 24 and 1
-- come first, in `Calls`. Assumes nothing.
use Rattle.std.specs.Prelude.{ℕ, ◌-◌, Bool, true, false, ltb}
use Rattle.std.proofs.Math.Option.{Option, none, some}
use Rattle.rules.specs.Limits.{record_count}
use Rattle.rules.specs.State.{State, Registers, RecordState, free_record, running, waiting, record_at, lowest_free_record}
use Rattle.rules.specs.Refusal.{Answer, refused, done, unless}
use Rattle.rules.specs.Instruction.{Instruction, Decoded, decode}
use Rattle.rules.specs.Causes.{causes}
use Rattle.rules.specs.RecordStep.{lowest_free, after, partner_in}
use Rattle.rules.specs.EndStep.{end_causes, meeting, after_meeting}

-- an instruction of record r with registers g, `next` the place after it: its own rows, 5 to 15, or the state after it
unfoldable pub answer_to : State → (r next : ℕ) → Registers → Instruction → Answer State
answer_to st r next g i = unless (causes st g i) (done (after st r next g (lowest_free st) i))

-- 4 where there is no instruction
abbrev pub ask_decoded : State → ℕ → Registers → Option Decoded → Answer State
ask_decoded st r g none = refused 4
ask_decoded st r g (some d) = answer_to st r d.next g d.instruction

-- 2: record number over the last one's, or record free; 3: record waiting
abbrev pub ask_in : State → ℕ → RecordState → Answer State
ask_in st r free_record = refused 2
ask_in st r (waiting g) = refused 3
ask_in st r (running g) = ask_decoded st r g (decode st.code g.place)

-- a record is asked to step
unfoldable pub ask_record : State → ℕ → Answer State
ask_record st r = ask_in st r (record_at st r)

-- an end is asked to step: 16 to 19
unfoldable pub ask_end : State → ℕ → Answer State
ask_end st e = unless (end_causes st e) (done (after_meeting st e (partner_in st e) (lowest_free_record st) (meeting st e)))

abbrev pub pick_answer : Bool → Answer State → Answer State → Answer State
pick_answer true a b = a
pick_answer false a b = b

-- a position is asked to step: the records come first, then the ends
unfoldable pub ask : State → ℕ → Answer State
ask st p = pick_answer (ltb p record_count) (ask_record st p) (ask_end st (p - record_count))
