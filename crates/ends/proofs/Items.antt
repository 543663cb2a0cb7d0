-- Items and cells: a cell is read by its kind, and the cell of an item within the limits holds that item. Assumes nothing.
use mathlib.Core.Path.{◌≡◌, refl, ◌∙◌}
use mathlib.Core.Option.{none, some}
use Prim.Native.Nat.{ℕ, zero, suc, ◌+◌, ◌*◌, ◌/◌, ◌%◌, ◌<◌}
use native.Mathlib.Nat.{mod-eq_of_lt}
use native.Mathlib.Omega.{arith}
use mir.Syntax.{w32}
use mir.Val.{of_z, SFits}
use mir.Facts.{to_z-of_z, Fits-of_z}
use Rattle.rules.specs.State.{Item, datum, last, value, handle, split_item, close_item, wait_item}
use Rattle.rules.specs.Layout.{datum_cell, last_cell, no_cell, cell_kind}
use Rattle.ends.specs.Items.{ItemFits, item_cell, kind_item, cell_item}

-- ---- a cell by its kind

pub cell_of_kind : (cell k : ℕ) → cell % 256 ≡ k → cell_item cell ≡ kind_item (cell_kind k) (cell / 256)
unfolding cell_item
cell_of_kind cell k e = rw e

no_kind : (k : ℕ) → (k ≡ 1 → ⊥) → (k ≡ 2 → ⊥) → (k ≡ 3 → ⊥) → (k ≡ 4 → ⊥) → (k ≡ 5 → ⊥) → cell_kind k ≡ no_cell
no_kind zero h1 h2 h3 h4 h5 = refl
no_kind (suc zero) h1 h2 h3 h4 h5 = absurd (h1 refl)
no_kind (suc (suc zero)) h1 h2 h3 h4 h5 = absurd (h2 refl)
no_kind (suc (suc (suc zero))) h1 h2 h3 h4 h5 = absurd (h3 refl)
no_kind (suc (suc (suc (suc zero)))) h1 h2 h3 h4 h5 = absurd (h4 refl)
no_kind (suc (suc (suc (suc (suc zero))))) h1 h2 h3 h4 h5 = absurd (h5 refl)
no_kind (suc (suc (suc (suc (suc (suc k)))))) h1 h2 h3 h4 h5 = refl

pub cell_of_no_kind : (cell : ℕ) → (cell % 256 ≡ 1 → ⊥) → (cell % 256 ≡ 2 → ⊥) → (cell % 256 ≡ 3 → ⊥) → (cell % 256 ≡ 4 → ⊥)
    → (cell % 256 ≡ 5 → ⊥) → cell_item cell ≡ none
unfolding cell_item
cell_of_no_kind cell h1 h2 h3 h4 h5 = rw (no_kind (cell % 256) h1 h2 h3 h4 h5)

-- ---- the cell of an item

-- a cell of a kind and a payload
cell_parts : (k n : ℕ) → k < 256 → cell_item (k + 256 * n) ≡ kind_item (cell_kind k) n
unfolding cell_item
cell_parts k n h =
    let low : (k + 256 * n) % 256 ≡ k = omega arith in
    let high : (k + 256 * n) / 256 ≡ n = omega arith in
    rw (low, high)

-- the cell of an item holds the item
pub cell_item_lem : (x : Item) → ItemFits x → cell_item (item_cell x) ≡ some x
unfolding datum_cell last_cell
cell_item_lem (datum (value v)) h =
    let fits : SFits w32 v = record { sfits = h } in
    cell_parts 1 (of_z w32 v) (omega arith)
    ∙ rw (mod-eq_of_lt (Fits-of_z {w = w32} {z = v} fits).fits, to_z-of_z {w = w32} {z = v} fits)
cell_item_lem (datum (handle n)) h = cell_parts 2 n (omega arith) ∙ rw (mod-eq_of_lt h)
cell_item_lem (last (split_item p q)) h =
    let low : (p + 256 * q) % 256 ≡ p = omega (arith, h.0) in
    let high : (p + 256 * q) / 256 ≡ q = omega (arith, h.0) in
    cell_parts 3 (p + 256 * q) (omega arith) ∙ rw (low, high, mod-eq_of_lt h.1)
cell_item_lem (last close_item) h = cell_parts 4 0 (omega arith)
cell_item_lem (last (wait_item r)) h = cell_parts 5 r (omega arith) ∙ rw (mod-eq_of_lt h)

-- and a cell of zeros holds none
pub cell_none : cell_item 0 ≡ none
unfolding cell_item
cell_none = refl
