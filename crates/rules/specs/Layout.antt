-- The state memory, byte by byte, and its reading back: `layout` writes a state, `view` reads one. Numbers stand low byte first; a number
-- that may be absent is stored plus one, 0 for none; cells not in use hold zero. docs/STATE.md has the table. Assumes nothing.
use Rattle.std.specs.Prelude.{ℕ, zero, suc, ◌+◌, ◌*◌, ◌/◌, ◌%◌, Bool, true, false, List, [], ◌∷◌, ◌++◌, map, length, get_or, take, drop}
use Rattle.std.specs.Prelude.{pos}
use Rattle.std.proofs.Math.Option.{Option, none, some}
use Rattle.std.specs.Int.{w32}
use Rattle.std.proofs.Common.{to_z, of_z}
use Rattle.rules.specs.Limits.{record_count, end_count, slot_count, stack_depth, environment_depth, queue_depth, code_limit}
use Rattle.rules.specs.Bytes.{bytes_of, number_at, flat, pad, pieces}
use Rattle.rules.specs.State.{State, Value, Datum, value, handle, Last, split_item, close_item, wait_item, EndState, free_end, used}
use Rattle.rules.specs.State.{Registers, registers, RecordState, free_record, running, waiting, empty_slots, queue_length}
use Rattle.rules.specs.Slots.{low_bit}

-- ---- sizes

-- bytes of a value, and of a queue's cell
abbrev pub value_size : ℕ
value_size = 4

abbrev pub cell_size : ℕ
cell_size = 8

-- bytes of a record: status, place, two counts, slots, stack, environment
abbrev pub record_size : ℕ
record_size = 5 + slot_count + value_size * stack_depth + value_size * environment_depth

-- bytes of the word of free ends
abbrev pub free_size : ℕ
free_size = 8

-- bytes of a queue
abbrev pub queue_size : ℕ
queue_size = cell_size * queue_depth

-- where the records, the word of free ends, the partners, the queue counts and the queues stand
abbrev pub records_at : ℕ
records_at = 2 + code_limit

abbrev pub free_at : ℕ
free_at = records_at + record_size * record_count

abbrev pub partners_at : ℕ
partners_at = free_at + free_size

abbrev pub counts_at : ℕ
counts_at = partners_at + end_count

abbrev pub queues_at : ℕ
queues_at = counts_at + end_count

-- the fixed length of the state memory
abbrev pub state_size : ℕ
state_size = queues_at + queue_size * end_count

-- ---- records

-- a number that may be absent
abbrev pub optional : Option ℕ → ℕ
optional none = 0
optional (some n) = suc n

-- a value: its 32 bits in two's complement
unfoldable pub value_bytes : Value → List ℕ
value_bytes v = bytes_of value_size (of_z w32 v)

unfoldable pub registers_bytes : Registers → List ℕ
registers_bytes g =
    bytes_of 2 g.place
    ++ (length g.stack
    ∷ length g.environment
    ∷ (map optional (pad slot_count none g.slots)
    ++ (flat value_bytes (pad stack_depth (pos 0) g.stack) ++ flat value_bytes (pad environment_depth (pos 0) g.environment))))

-- all of a free record is zero
unfoldable pub no_registers : Registers
no_registers = registers 0 [] [] empty_slots

-- status 0 free, 1 running, 2 waiting
unfoldable pub record_bytes : RecordState → List ℕ
record_bytes free_record = 0 ∷ registers_bytes no_registers
record_bytes (running g) = 1 ∷ registers_bytes g
record_bytes (waiting g) = 2 ∷ registers_bytes g

-- ---- ends

-- the free ends as one number, bit e for end e
unfoldable pub free_word : List EndState → ℕ
free_word [] = 0
free_word (free_end ∷ ends) = 1 + 2 * free_word ends
free_word (used m ds l ∷ ends) = 2 * free_word ends

-- the partner; 0 for a free end
unfoldable pub partner_byte : EndState → ℕ
partner_byte free_end = 0
partner_byte (used m ds l) = m

-- a cell: the kind in the low byte, above it the payload
unfoldable pub datum_cell : Datum → ℕ
datum_cell (value v) = 1 + 256 * of_z w32 v
datum_cell (handle n) = 2 + 256 * n

unfoldable pub last_cell : Last → ℕ
last_cell (split_item p q) = 3 + 256 * (p + 256 * q)
last_cell close_item = 4
last_cell (wait_item r) = 5 + 256 * r

unfoldable pub last_cells : Option Last → List ℕ
last_cells none = []
last_cells (some l) = last_cell l ∷ []

-- the cells in use, head first
unfoldable pub queue_cells : EndState → List ℕ
queue_cells free_end = []
queue_cells (used m ds l) = map datum_cell ds ++ last_cells l

unfoldable pub queue_bytes : EndState → List ℕ
queue_bytes x = flat (bytes_of cell_size) (pad queue_depth 0 (queue_cells x))

-- ---- the memory

unfoldable pub layout : State → List ℕ
layout st =
    bytes_of 2 (length st.code)
    ++ (pad code_limit 0 st.code
    ++ (flat record_bytes st.records
    ++ (bytes_of free_size (free_word st.ends)
    ++ (map partner_byte st.ends ++ (map queue_length st.ends ++ flat queue_bytes st.ends)))))

-- ---- reading back

unfoldable pub view_optional : ℕ → Option ℕ
view_optional zero = none
view_optional (suc n) = some n

unfoldable pub view_value : List ℕ → Value
view_value bytes = to_z w32 (number_at value_size bytes 0)

-- the values in n cells, of which the first k are in use
unfoldable pub view_values : (n k : ℕ) → List ℕ → List Value
view_values n k bytes = take k (map view_value (pieces n value_size bytes))

unfoldable pub view_registers : List ℕ → Registers
view_registers bytes =
    registers (number_at 2 bytes 1) (view_values stack_depth (get_or bytes 3 0) (drop (5 + slot_count) bytes))
    (view_values environment_depth (get_or bytes 4 0) (drop (5 + slot_count + value_size * stack_depth) bytes))
    (map view_optional (take slot_count (drop 5 bytes)))

unfoldable pub view_status : ℕ → Registers → RecordState
view_status zero g = free_record
view_status (suc zero) g = running g
view_status (suc (suc n)) g = waiting g

unfoldable pub view_record : List ℕ → RecordState
view_record bytes = view_status (get_or bytes 0 0) (view_registers bytes)

-- a queue read so far: its values and handles, and its last item
pub record Queue : Type 0 where
  pub queued : List Datum
  pub final : Option Last

abbrev pub queue : List Datum → Option Last → Queue
queue queued final = record { queued = queued; final = final }

abbrev pub in_front : Datum → Queue → Queue
in_front d q = queue (d ∷ q.queued) q.final

-- the kinds of cell, by their number
pub data CellKind : Type 0 where
  no_cell value_cell handle_cell split_cell close_cell wait_cell : CellKind

abbrev pub cell_kind : ℕ → CellKind
cell_kind n = get_or (no_cell ∷ value_cell ∷ handle_cell ∷ split_cell ∷ close_cell ∷ wait_cell ∷ []) n no_cell

-- a cell of a kind and a payload, in front of what the cells behind it hold
unfoldable pub view_cell : CellKind → (payload : ℕ) → Queue → Queue
view_cell no_cell n behind = queue [] none
view_cell value_cell n behind = in_front (value (to_z w32 n)) behind
view_cell handle_cell n behind = in_front (handle n) behind
view_cell split_cell n behind = queue [] (some (split_item (n % 256) (n / 256)))
view_cell close_cell n behind = queue [] (some close_item)
view_cell wait_cell n behind = queue [] (some (wait_item n))

unfoldable pub view_cells : List ℕ → Queue
view_cells [] = queue [] none
view_cells (c ∷ cs) = view_cell (cell_kind (c % 256)) (c / 256) (view_cells cs)

-- a queue of k items
unfoldable pub view_queue : (k : ℕ) → List ℕ → Queue
view_queue k bytes = view_cells (take k (map (λ (cell : List ℕ). number_at cell_size cell 0) (pieces queue_depth cell_size bytes)))

unfoldable pub view_end : (free : Bool) (partner count : ℕ) → List ℕ → EndState
view_end true m k bytes = free_end
view_end false m k bytes = used m (view_queue k bytes).queued (view_queue k bytes).final

-- n ends, from the word of free ends, the partners, the counts and the queues
unfoldable pub view_ends : (n word : ℕ) (partners counts queues : List ℕ) → List EndState
view_ends zero word partners counts queues = []
view_ends (suc n) word partners counts queues =
    view_end (low_bit word) (get_or partners 0 0) (get_or counts 0 0) (take queue_size queues)
    ∷ view_ends n (word / 2) (drop 1 partners) (drop 1 counts) (drop queue_size queues)

unfoldable pub view : List ℕ → State
view m = record {
  code = take (number_at 2 m 0) (drop 2 m);
  records = map view_record (pieces record_count record_size (drop records_at m));
  ends = view_ends end_count (number_at free_size (drop free_at m) 0) (drop partners_at m) (drop counts_at m) (drop queues_at m);
}
