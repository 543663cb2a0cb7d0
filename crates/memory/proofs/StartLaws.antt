-- The memory of the start state: zeros throughout are the layout of a state with nothing in use but no end marked free; with record 0's
-- status and the word of free ends written it is the start state with no code. Assumes nothing.
use mathlib.Core.Path.{◌≡◌, refl, sym, ap, ◌∙◌}
use mathlib.Core.List.{List, [], ◌∷◌, ◌++◌, append_assoc}
use Prim.Native.Nat.{ℕ, zero, suc, ◌+◌, ◌*◌}
use native.Mathlib.Nat.{suc-add, zero-add, mul-suc, mul-zero}
use native.Mathlib.Omega.{arith}
use lib.ListN.{length, set, replicate, length-append}
use Rattle.rules.specs.Limits.{record_count, end_count, code_limit}
use Rattle.rules.specs.Bytes.{bytes_of, flat, pad}
use Rattle.rules.specs.State.{free_end, registers, RecordState, free_record, running, empty_slots, start}
use Rattle.rules.specs.Layout.{cell_size, record_size, free_size, records_at, free_at, queues_at, state_size, registers_bytes, no_registers}
use Rattle.rules.specs.Layout.{record_bytes, free_word, layout}
use Rattle.words.specs.Parts.{put_at}
use Rattle.words.proofs.Parts.{put_append, put_all}
use Rattle.words.proofs.Pads.{length_pad}
use Rattle.memory.specs.Sections.{cell_count, all_free_word, sectioned, cells_of, partners_of, counts_of, all_cells}
use Rattle.memory.proofs.Sections.{behind_partners, behind_word, behind_records, behind_code, sections, put_code, layout_is, put_word}

-- ---- zeros

abbrev pub zeros : ℕ → List ℕ
zeros n = pad n 0 []

zeros_add : (a b : ℕ) → zeros (a + b) ≡ zeros a ++ zeros b
unfolding pad
zeros_add zero b = ap (λ (k : ℕ). zeros k) (zero-add b)
zeros_add (suc a) b = ap (λ (k : ℕ). zeros k) (suc-add a b) ∙ ap (λ (r : List ℕ). 0 ∷ r) (zeros_add a b)

-- pieces of zeros are zeros
flat_zeros : {A : Type 0} (f : A → List ℕ) (w : ℕ) (x : A) → f x ≡ zeros w → (n : ℕ) → flat f (replicate n x) ≡ zeros (w * n)
unfolding flat pad
flat_zeros f w x e zero = ap (λ (k : ℕ). zeros k) (sym (mul-zero w))
flat_zeros f w x e (suc n) =
    let more : w + w * n ≡ w * suc n = omega (arith, mul-suc w n) in
    (λ i. e i ++ flat_zeros f w x e n i) ∙ sym (zeros_add w (w * n)) ∙ ap (λ (k : ℕ). zeros k) more

-- a free record is zeros, and so is a cell with nothing in it
free_zeros : record_bytes free_record ≡ zeros record_size
unfolding record_bytes registers_bytes no_registers flat pad Rattle.rules.specs.Layout.value_bytes
free_zeros = refl

cell_zeros : bytes_of cell_size 0 ≡ zeros cell_size
unfolding pad
cell_zeros = refl

-- ---- the memory of zeros, by its sections

abbrev nothing : List ℕ
nothing =
    sectioned [] (replicate record_count free_record) 0 (replicate end_count 0) (replicate end_count 0) (replicate cell_count 0)

zero_list : (n : ℕ) → replicate n 0 ≡ zeros n
unfolding pad
zero_list zero = refl
zero_list (suc n) = ap (λ (r : List ℕ). 0 ∷ r) (zero_list n)

two_zeros : bytes_of 2 0 ≡ zeros 2
unfolding pad
two_zeros = refl

word_zeros : bytes_of free_size 0 ≡ zeros free_size
unfolding pad
word_zeros = refl

zeros_front : (a b : ℕ) (m : List ℕ) → zeros a ++ (zeros b ++ m) ≡ zeros (a + b) ++ m
zeros_front a b m = sym (append_assoc (zeros a) (zeros b) m) ∙ ap (λ (r : List ℕ). r ++ m) (sym (zeros_add a b))

-- the sections in front of the queues are zeros
front_zeros : (q : List ℕ)
    → bytes_of 2 0
    ++ (zeros code_limit
    ++ (flat record_bytes (replicate record_count free_record)
    ++ (bytes_of free_size 0 ++ (replicate end_count 0 ++ (replicate end_count 0 ++ q)))))
    ≡ zeros queues_at ++ q
front_zeros q =
    let records = flat_zeros record_bytes record_size free_record free_zeros record_count in
    let all = record_size * record_count in
    (λ i. two_zeros i ++ (zeros code_limit ++ (records i ++ (word_zeros i ++ (zero_list end_count i ++ (zero_list end_count i ++ q))))))
    ∙ ap (λ (r : List ℕ). zeros 2 ++ (zeros code_limit ++ (zeros all ++ (zeros free_size ++ r)))) (zeros_front end_count end_count q)
    ∙ ap (λ (r : List ℕ). zeros 2 ++ (zeros code_limit ++ (zeros all ++ r))) (zeros_front free_size (end_count + end_count) q)
    ∙ ap (λ (r : List ℕ). zeros 2 ++ (zeros code_limit ++ r)) (zeros_front all (free_size + (end_count + end_count)) q)
    ∙ ap (λ (r : List ℕ). zeros 2 ++ r) (zeros_front code_limit (all + (free_size + (end_count + end_count))) q)
    ∙ zeros_front 2 (code_limit + (all + (free_size + (end_count + end_count)))) q

cells_zeros : flat (bytes_of cell_size) (replicate cell_count 0) ≡ zeros (cell_size * cell_count)
cells_zeros = flat_zeros (bytes_of cell_size) cell_size 0 cell_zeros cell_count

nothing_is : nothing ≡ zeros queues_at ++ flat (bytes_of cell_size) (replicate cell_count 0)
unfolding sectioned
nothing_is = front_zeros (flat (bytes_of cell_size) (replicate cell_count 0))

-- zeros in front and the cells behind fill any memory of the right length
pub filled : (m : List ℕ) → length m ≡ state_size
    → put_at (put_at m 0 (zeros queues_at)) queues_at (flat (bytes_of cell_size) (replicate cell_count 0)) ≡ nothing
filled m e =
    let cells = flat (bytes_of cell_size) (replicate cell_count 0) in
    let front : length (zeros queues_at) ≡ queues_at = length_pad {A = ℕ} queues_at 0 [] in
    let back : length cells ≡ cell_size * cell_count = ap length cells_zeros ∙ length_pad {A = ℕ} (cell_size * cell_count) 0 [] in
    ap (λ (k : ℕ). put_at (put_at m 0 (zeros queues_at)) k cells) (sym (omega (arith, front)))
    ∙ sym (put_append m 0 (zeros queues_at) cells)
    ∙ put_all m (zeros queues_at ++ cells) (omega (arith, length-append (zeros queues_at) cells, front, back, e))
    ∙ sym nothing_is

-- ---- record 0 runs, all ends are free

abbrev first_runs : List RecordState
first_runs = set (replicate record_count free_record) 0 (running (registers 0 [] [] empty_slots))

status_written : set nothing records_at 1 ≡ sectioned [] first_runs 0 (replicate end_count 0)
    (replicate end_count 0) (replicate cell_count 0)
unfolding behind_code behind_records behind_word behind_partners flat record_bytes no_registers
status_written =
    let none_of : List ℕ = replicate end_count 0 in
    let cells : List ℕ = replicate cell_count 0 in
    ap (λ (m : List ℕ). set m records_at 1) (sections [] (replicate record_count free_record) 0 none_of none_of cells)
    ∙ put_code [] (behind_code [] (replicate record_count free_record) 0 none_of none_of cells) 0 (1 ∷ [])
    ∙ sym (sections [] first_runs 0 none_of none_of cells)

all_free : free_word (replicate end_count free_end) ≡ all_free_word
unfolding free_word
all_free = refl

no_partners : partners_of (replicate end_count free_end) ≡ replicate end_count 0
unfolding partners_of Rattle.rules.specs.Layout.partner_byte
no_partners = refl

nothing_queued : counts_of (replicate end_count free_end) ≡ replicate end_count 0
unfolding counts_of
nothing_queued = refl

-- every queue is empty: its cells are zero
pub queues_empty : all_cells (replicate end_count free_end) ≡ replicate cell_count 0
unfolding all_cells cells_of flat pad Rattle.rules.specs.Layout.queue_cells
queues_empty = refl

start_is : layout (start []) ≡ sectioned [] first_runs all_free_word (replicate end_count 0)
    (replicate end_count 0) (replicate cell_count 0)
unfolding start
start_is =
    layout_is (start []) ∙ (λ i. sectioned [] first_runs (all_free i) (no_partners i) (nothing_queued i) (queues_empty i))

-- the writes of `start`, one after the other
pub start_written : (m : List ℕ) {m₁ m₂ m₃ m₄ : List ℕ} → length m ≡ state_size → m₁ ≡ put_at m 0 (zeros queues_at)
    → m₂ ≡ put_at m₁ queues_at (flat (bytes_of cell_size) (replicate cell_count 0)) → m₃ ≡ set m₂ records_at 1
    → m₄ ≡ put_at m₃ free_at (bytes_of free_size all_free_word) → m₄ ≡ layout (start [])
start_written m e p₁ p₂ p₃ p₄ =
    let none_of : List ℕ = replicate end_count 0 in
    let cells : List ℕ = replicate cell_count 0 in
    let at₂ = p₂ ∙ ap (λ (r : List ℕ). put_at r queues_at (flat (bytes_of cell_size) cells)) p₁ ∙ filled m e in
    let at₃ = p₃ ∙ ap (λ (r : List ℕ). set r records_at 1) at₂ ∙ status_written in
    p₄ ∙ ap (λ (r : List ℕ). put_at r free_at (bytes_of free_size all_free_word)) at₃
    ∙ put_word [] first_runs 0 none_of none_of cells refl refl refl all_free_word
    ∙ sym start_is
