-- S1 of document 01 on bytes, piece by piece: every count and number is within its limit and all that is not in use is zero. A memory
-- whose pieces all pass is the layout of the state that it shows, and that state is within the limits: proofs/Memory shows that this is
-- so, and only so. What a state asks beyond that, S2 to S5, is not here. Assumes nothing.
use Rattle.std.specs.Prelude.{ℕ, ◌+◌, ◌-◌, ◌*◌, ◌/◌, ◌%◌, Bool, true, false, List, [], ◌∷◌, map, length, get_or, take, drop, leb, ltb, eqb}
use Rattle.rules.specs.Limits.{record_count, end_count, slot_count, stack_depth, environment_depth, queue_depth, code_limit, handle_count}
use Rattle.rules.specs.Bytes.{number_at, pieces}
use Rattle.rules.specs.Slots.{in_set}
use Rattle.rules.specs.EndStep.{only_if}
use Rattle.rules.specs.SoundTest.{all, every, all_true}
use Rattle.rules.specs.Layout.{value_size, cell_size, record_size, free_size, queue_size, records_at, free_at, partners_at, counts_at}
use Rattle.rules.specs.Layout.{queues_at}
use Rattle.rules.specs.Layout.{CellKind, no_cell, value_cell, handle_cell, split_cell, close_cell, wait_cell, cell_kind}

-- the bytes from one place on up to another
abbrev pub part : (from to : ℕ) → List ℕ → List ℕ
part from to m = take (to - from) (drop from m)

abbrev pub is_zero : ℕ → Bool
is_zero b = eqb b 0

-- all of these bytes are zero
unfoldable pub all_zero : List ℕ → Bool
all_zero bytes = all is_zero bytes

abbrev pub either : Bool → Bool → Bool → Bool
either true a b = a
either false a b = b

-- ---- the code

abbrev pub code_length : List ℕ → ℕ
code_length m = number_at 2 m 0

-- its length is at most the limit, and what stands behind it is zero
unfoldable pub canonical_code : List ℕ → Bool
canonical_code m = only_if (leb (code_length m) code_limit) (all_zero (part (2 + code_length m) records_at m))

-- ---- a record's bytes: status, place, two counts, slots, stack, environment

abbrev pub slots_from : ℕ
slots_from = 5

abbrev pub stack_from : ℕ
stack_from = slots_from + slot_count

abbrev pub environment_from : ℕ
environment_from = stack_from + value_size * stack_depth

-- a slot is empty, or holds an end: its number plus one
abbrev pub slot_fits : ℕ → Bool
slot_fits b = leb b end_count

-- a record in use: the counts and the slots are within their limits, and what stands behind the counts is zero
unfoldable pub canonical_registers : List ℕ → Bool
canonical_registers p =
    all_true
    (leb (get_or p 3 0) stack_depth
    ∷ leb (get_or p 4 0) environment_depth
    ∷ all slot_fits (part slots_from stack_from p)
    ∷ all_zero (part (stack_from + value_size * get_or p 3 0) environment_from p)
    ∷ all_zero (part (environment_from + value_size * get_or p 4 0) record_size p)
    ∷ [])

-- free, all of it is zero; else running or waiting
unfoldable pub canonical_record : List ℕ → Bool
canonical_record p = either (eqb (get_or p 0 0) 0) (all_zero p) (only_if (leb (get_or p 0 0) 2) (canonical_registers p))

-- ---- an end: whether it is free, its partner, its count and its queue's bytes

-- the cells of a queue
unfoldable pub cells_in : List ℕ → List ℕ
cells_in bytes = map (λ (cell : List ℕ). number_at cell_size cell 0) (pieces queue_depth cell_size bytes)

-- a value of 32 bits, or a handle
abbrev pub datum_fits : CellKind → (payload : ℕ) → Bool
datum_fits no_cell n = false
datum_fits value_cell n = ltb n 4294967296
datum_fits handle_cell n = ltb n handle_count
datum_fits split_cell n = false
datum_fits close_cell n = false
datum_fits wait_cell n = false

-- a split with two ends, a close, or a wait naming a record
abbrev pub last_fits : CellKind → (payload : ℕ) → Bool
last_fits no_cell n = false
last_fits value_cell n = false
last_fits handle_cell n = false
last_fits split_cell n = only_if (ltb (n % 256) end_count) (ltb (n / 256) end_count)
last_fits close_cell n = eqb n 0
last_fits wait_cell n = ltb n record_count

unfoldable pub is_datum : ℕ → Bool
is_datum cell = datum_fits (cell_kind (cell % 256)) (cell / 256)

unfoldable pub is_last : ℕ → Bool
is_last cell = last_fits (cell_kind (cell % 256)) (cell / 256)

-- the cells in use: values and handles, then at most one last item
unfoldable pub canonical_cells : List ℕ → Bool
canonical_cells [] = true
canonical_cells (c ∷ cs) = either (is_datum c) (canonical_cells cs) (only_if (is_last c) (eqb (length cs) 0))

-- an end in use: the count is within its limit, the cells in use are items, and what stands behind them is zero
unfoldable pub canonical_queue : (count : ℕ) → List ℕ → Bool
canonical_queue k bytes =
    all_true (leb k queue_depth ∷ canonical_cells (take k (cells_in bytes)) ∷ all_zero (part (cell_size * k) queue_size bytes) ∷ [])

-- a free end: all of it is zero
unfoldable pub canonical_end : (free : Bool) (partner count : ℕ) → List ℕ → Bool
canonical_end true m k bytes = all_true (eqb m 0 ∷ eqb k 0 ∷ all_zero bytes ∷ [])
canonical_end false m k bytes = canonical_queue k bytes

-- ---- the memory

-- the bytes of record r
abbrev pub record_part : List ℕ → (r : ℕ) → List ℕ
record_part m r = take record_size (drop (records_at + record_size * r) m)

-- end e is free
abbrev pub free_in : List ℕ → (e : ℕ) → Bool
free_in m e = in_set (number_at free_size m free_at) e

-- the bytes of the queue of end e
abbrev pub queue_part : List ℕ → (e : ℕ) → List ℕ
queue_part m e = take queue_size (drop (queues_at + queue_size * e) m)

unfoldable pub record_test : List ℕ → (r : ℕ) → Bool
record_test m r = canonical_record (record_part m r)

unfoldable pub end_test : List ℕ → (e : ℕ) → Bool
end_test m e = canonical_end (free_in m e) (get_or m (partners_at + e) 0) (get_or m (counts_at + e) 0) (queue_part m e)

-- S1 on bytes
unfoldable pub canonical_bytes : List ℕ → Bool
canonical_bytes m = all_true (canonical_code m ∷ every (record_test m) record_count ∷ every (end_test m) end_count ∷ [])
