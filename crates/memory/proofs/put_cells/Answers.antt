-- `put_cells` stores the cells one after the other. The invariant: the first k are written. Assumes nothing.
use Rattle.std.proofs.Common.{◌≡◌, refl, ap, ◌∙◌, List, ℕ, ◌+◌, ◌*◌, ◌<◌, arith, length, get_or, take}
use Rattle.rules.specs.Bytes.{bytes_of, flat}
use Rattle.rules.specs.Layout.{cell_size, queues_at}
use Rattle.words.specs.Parts.{put_at}
use Rattle.words.proofs.Numbers.{length_bytes}
use Rattle.words.proofs.Pieces.{put_more}
use Rattle.memory.proofs.put_cells.Goals as goal

-- one cell more
next_cell : (m₀ : List ℕ) (cells : List ℕ) (k : ℕ) {m m' : List ℕ} → k < length cells
    → m ≡ put_at m₀ queues_at (flat (bytes_of cell_size) (take k cells))
    → m' ≡ put_at m (queues_at + cell_size * k) (bytes_of cell_size (get_or cells k 0))
    → m' ≡ put_at m₀ queues_at (flat (bytes_of cell_size) (take (k + 1) cells))
next_cell m₀ cells k h p e =
    e ∙ ap (λ (r : List ℕ). put_at r (queues_at + cell_size * k) (bytes_of cell_size (get_or cells k 0))) p
    ∙ put_more (bytes_of cell_size) cell_size (length_bytes cell_size) m₀ queues_at cells k 0 h

pub loop-k-init : goal.loop-k-init
unfolding flat
loop-k-init c = (refl, refl)

pub loop-k-preserved : goal.loop-k-preserved
loop-k-preserved c =
    let a = c.args in
    let l = c.loop-k in
    (omega arith, next_cell a.m.now a.cells.now l.k (omega arith) l.invariant.1 c.put64.ensures)
