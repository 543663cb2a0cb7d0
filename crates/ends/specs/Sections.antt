-- What the bytes of a state memory show of the ends: the word of free ends, and the partner, the count and the cells of one end; and the
-- bytes with one of these anew, all others as they were. Assumes nothing.
use Rattle.std.specs.Prelude.{ℕ, ◌+◌, ◌*◌, List, [], ◌∷◌, get_or}
use Rattle.rules.specs.Limits.{queue_depth}
use Rattle.rules.specs.Bytes.{number_at, bytes_of, flat, table}
use Rattle.rules.specs.Layout.{free_size, cell_size, free_at, partners_at, counts_at, queues_at}
use Rattle.words.specs.Parts.{put_at}

-- ---- the word of free ends

unfoldable pub word_in : List ℕ → ℕ
word_in m = number_at free_size m free_at

unfoldable pub with_word : List ℕ → (word : ℕ) → List ℕ
with_word m word = put_at m free_at (bytes_of free_size word)

-- ---- the partner of end e

abbrev pub partner_byte_in : List ℕ → (e : ℕ) → ℕ
partner_byte_in m e = get_or m (partners_at + e) 0

abbrev pub with_partner_byte : List ℕ → (e partner : ℕ) → List ℕ
with_partner_byte m e partner = put_at m (partners_at + e) (partner ∷ [])

-- ---- how many items are queued on end e

abbrev pub count_in : List ℕ → (e : ℕ) → ℕ
count_in m e = get_or m (counts_at + e) 0

-- and on the seven ends after it, as one number
unfoldable pub eight_counts_in : List ℕ → (e : ℕ) → ℕ
eight_counts_in m e = number_at 8 m (counts_at + e)

abbrev pub with_count : List ℕ → (e count : ℕ) → List ℕ
with_count m e count = put_at m (counts_at + e) (count ∷ [])

-- ---- the cells of end e's queue, head first

-- where cell i stands
abbrev pub cell_at : (e i : ℕ) → ℕ
cell_at e i = queues_at + cell_size * (queue_depth * e + i)

unfoldable pub cell_in : List ℕ → (e i : ℕ) → ℕ
cell_in m e i = number_at cell_size m (cell_at e i)

unfoldable pub with_cell : List ℕ → (e i cell : ℕ) → List ℕ
with_cell m e i cell = put_at m (cell_at e i) (bytes_of cell_size cell)

-- all of them
unfoldable pub cells_in : List ℕ → (e : ℕ) → List ℕ
cells_in m e = table queue_depth (cell_in m e)

unfoldable pub with_cells : List ℕ → (e : ℕ) → (cells : List ℕ) → List ℕ
with_cells m e cells = put_at m (cell_at e 0) (flat (bytes_of cell_size) cells)
