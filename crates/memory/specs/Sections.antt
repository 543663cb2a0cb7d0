-- The state memory as its six sections, so that a law can replace or read one and leave the others alone: the code, the records, the
-- word of free ends, the partners, the queue counts and the queue cells. `layout` of `rules` is these sections of a state. Assumes
-- nothing.
use Rattle.std.specs.Prelude.{ℕ, ◌*◌, ◌-◌, ◌^◌, List, ◌++◌, map, length}
use Rattle.rules.specs.Limits.{end_count, queue_depth, code_limit}
use Rattle.rules.specs.Bytes.{bytes_of, flat, pad}
use Rattle.rules.specs.State.{EndState, RecordState, queue_length}
use Rattle.rules.specs.Layout.{cell_size, free_size, record_bytes, partner_byte, queue_cells}

-- how many cells the queues of all ends have
abbrev pub cell_count : ℕ
cell_count = queue_depth * end_count

-- the word of free ends with every end free
abbrev pub all_free_word : ℕ
all_free_word = 2 ^ end_count - 1

-- the sections one after the other
unfoldable pub sectioned : (code : List ℕ) (records : List RecordState) (word : ℕ) (partners counts cells : List ℕ) → List ℕ
sectioned code records word partners counts cells =
    bytes_of 2 (length code)
    ++ (pad code_limit 0 code
    ++ (flat record_bytes records ++ (bytes_of free_size word ++ (partners ++ (counts ++ flat (bytes_of cell_size) cells)))))

-- the cells of one end's queue, those in use and zeros behind them
unfoldable pub cells_of : EndState → List ℕ
cells_of x = pad queue_depth 0 (queue_cells x)

-- the partners, the counts and the cells of all ends
unfoldable pub partners_of : List EndState → List ℕ
partners_of ends = map partner_byte ends

unfoldable pub counts_of : List EndState → List ℕ
counts_of ends = map queue_length ends

unfoldable pub all_cells : List EndState → List ℕ
all_cells ends = flat cells_of ends
