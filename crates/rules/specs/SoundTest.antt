-- S1 to S5 of document 01 as one test that computes. `proofs/SoundLaws` has the laws: the test passes exactly if the state is `Sound`.
-- Assumes nothing.
use Rattle.std.specs.Prelude.{Bool, true, false, not, List, [], ◌∷◌, ℕ, zero, suc, length, leb, ltb, eqb}
use Rattle.std.proofs.Math.Option.{Option, none, some}
use Rattle.std.specs.Int.Signed.{mag}
use Rattle.rules.specs.Limits.{record_count, end_count, slot_count, stack_depth, environment_depth, queue_depth, code_limit, place_count}
use Rattle.rules.specs.Limits.{handle_count, value_bound}
use Rattle.rules.specs.State.{State, Value, Datum, value, handle, Last, split_item, close_item, wait_item, EndState, free_end, used}
use Rattle.rules.specs.State.{Registers, RecordState, free_record, running, waiting, record_at, end_at, queue_length, last_of, partner_of}
use Rattle.rules.specs.State.{slot_at}
use Rattle.rules.specs.Refusal.{no_cause}
use Rattle.rules.specs.Instruction.{Instruction, Decoded, decode}
use Rattle.rules.specs.Causes.{own_causes, names}
use Rattle.rules.specs.EndStep.{Wait, wait_of, only_if}
use Rattle.rules.specs.Sound.{places_of, in_use, waits_naming, is_waiting}

-- ---- tests on lists

-- every element passes
unfoldable pub all : {A : Type 0} → (A → Bool) → List A → Bool
all test [] = true
all test (x ∷ xs) = only_if (test x) (all test xs)

-- every number below n passes
unfoldable pub every : (ℕ → Bool) → ℕ → Bool
every test zero = true
every test (suc n) = only_if (test n) (every test n)

-- all of a list of tests pass
unfoldable pub all_true : List Bool → Bool
all_true [] = true
all_true (b ∷ bs) = only_if b (all_true bs)

-- ---- S1

unfoldable pub value_within : Value → Bool
value_within v = ltb (mag v) value_bound

unfoldable pub datum_within : Datum → Bool
datum_within (value v) = ltb (mag v) value_bound
datum_within (handle n) = ltb n handle_count

unfoldable pub slot_within : Option ℕ → Bool
slot_within none = true
slot_within (some e) = ltb e end_count

unfoldable pub registers_within : Registers → Bool
registers_within g =
    all_true
    (ltb g.place place_count
    ∷ leb (length g.stack) stack_depth
    ∷ leb (length g.environment) environment_depth
    ∷ all value_within g.stack
    ∷ all value_within g.environment
    ∷ eqb (length g.slots) slot_count
    ∷ all slot_within g.slots
    ∷ [])

unfoldable pub record_within : RecordState → Bool
record_within free_record = true
record_within (running g) = registers_within g
record_within (waiting g) = registers_within g

unfoldable pub last_within : Option Last → Bool
last_within none = true
last_within (some (split_item p q)) = only_if (ltb p end_count) (ltb q end_count)
last_within (some close_item) = true
last_within (some (wait_item r)) = ltb r record_count

unfoldable pub end_within : EndState → Bool
end_within free_end = true
end_within (used m ds l) =
    all_true (leb (queue_length (used m ds l)) queue_depth ∷ all datum_within ds ∷ last_within l ∷ [])

unfoldable pub byte_within : ℕ → Bool
byte_within b = ltb b 256

unfoldable pub within : State → Bool
within st =
    all_true
    (leb (length st.code) code_limit
    ∷ all byte_within st.code
    ∷ eqb (length st.records) record_count
    ∷ eqb (length st.ends) end_count
    ∷ all record_within st.records
    ∷ all end_within st.ends
    ∷ [])

-- ---- S2

unfoldable pub paired_in : State → ℕ → EndState → Bool
paired_in st e free_end = true
paired_in st e (used m ds l) = only_if (not (eqb m e)) (names (partner_of (end_at st m)) e)

unfoldable pub paired_test : State → ℕ → Bool
paired_test st e = paired_in st e (end_at st e)

-- ---- S3

unfoldable pub places_test : State → ℕ → Bool
places_test st e = eqb (places_of st e) (in_use (end_at st e))

-- ---- S4

unfoldable pub waits_test : State → ℕ → Bool
waits_test st r = eqb (waits_naming st r) (is_waiting (record_at st r))

-- ---- S5

unfoldable pub stands_named : ℕ → Registers → Instruction → Option Wait → Bool
stands_named e g i none = false
stands_named e g i (some w) = only_if (names (slot_at g w.slot) e) (no_cause (own_causes g i))

unfoldable pub stands_decoded : ℕ → Registers → Option Decoded → Bool
stands_decoded e g none = false
stands_decoded e g (some d) = stands_named e g d.instruction (wait_of d.instruction d.next)

unfoldable pub stands_in : List ℕ → ℕ → RecordState → Bool
stands_in code e free_record = false
stands_in code e (running g) = false
stands_in code e (waiting g) = stands_decoded e g (decode code g.place)

unfoldable pub stands_last : State → ℕ → Option Last → Bool
stands_last st e none = true
stands_last st e (some (split_item p q)) = true
stands_last st e (some close_item) = true
stands_last st e (some (wait_item r)) = stands_in st.code e (record_at st r)

unfoldable pub stands_test : State → ℕ → Bool
stands_test st e = stands_last st e (last_of (end_at st e))

-- ---- all of them

unfoldable pub sound_test : State → Bool
sound_test st =
    all_true
    (within st
    ∷ every (paired_test st) end_count
    ∷ every (places_test st) end_count
    ∷ every (waits_test st) record_count
    ∷ every (stands_test st) end_count
    ∷ [])
