-- The cells of one queue, read and written one after the other. Assumes nothing.
use mathlib.Core.Path.{◌≡◌, refl, ap, ◌∙◌}
use mathlib.Core.List.{List}
use Prim.Native.Nat.{ℕ, ◌+◌, ◌*◌, ◌<◌}
use native.Mathlib.Omega.{arith}
use lib.ListN.{length, get_or, take}
use Rattle.rules.specs.Bytes.{bytes_of, flat}
use Rattle.rules.specs.Layout.{cell_size}
use Rattle.words.specs.Parts.{put_at}
use Rattle.words.proofs.Numbers.{length_bytes}
use Rattle.words.proofs.Pieces.{put_more}
use Rattle.ends.specs.Sections.{cell_at, with_cell, with_cells}

-- a turn of the loop that writes the cells: cell k behind the first k
pub cells_more : (m₀ : List ℕ) (e : ℕ) (cells : List ℕ) (k : ℕ) {m m' : List ℕ} → k < length cells → m ≡ with_cells m₀ e (take k cells)
    → m' ≡ with_cell m e k (get_or cells k 0) → m' ≡ with_cells m₀ e (take (k + 1) cells)
unfolding with_cell with_cells
cells_more m₀ e cells k {m} h p q =
    let at : cell_at e k ≡ cell_at e 0 + cell_size * k = omega arith in
    q ∙ ap (λ (i : ℕ). put_at m i (bytes_of cell_size (get_or cells k 0))) at
    ∙ ap (λ (r : List ℕ). put_at r (cell_at e 0 + cell_size * k) (bytes_of cell_size (get_or cells k 0))) p
    ∙ put_more (bytes_of cell_size) cell_size (length_bytes cell_size) m₀ (cell_at e 0) cells k 0 h

-- before it
pub cells_none : (m : List ℕ) (e : ℕ) (cells : List ℕ) → m ≡ with_cells m e (take 0 cells)
unfolding with_cells flat
cells_none m e cells = refl
