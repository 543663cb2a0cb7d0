-- The cells of one end's queue: as many as there are items, each fits, the first holds the head, and each holds its item. Assumes nothing.
use mathlib.Core.Path.{◌≡◌, refl, ap, ◌∙◌}
use mathlib.Core.Option.{Option, none, some}
use mathlib.Core.List.{List, [], ◌∷◌, ◌++◌, map}
use Prim.Native.Nat.{ℕ, zero, suc, ◌^◌, ◌≤◌, ◌<◌}
use native.Mathlib.Omega.{arith}
use lib.ListN.{length, get_or, length-append, length-map}
use mir.Syntax.{w32}
use mir.Facts.{Fits-of_z}
use Rattle.rules.specs.Limits.{queue_depth}
use Rattle.rules.specs.Bytes.{pad}
use Rattle.rules.specs.State.{Datum, value, handle, Last, split_item, close_item, wait_item, Item, datum, last}
use Rattle.rules.specs.State.{EndState, free_end, used, queue_length, head_of}
use Rattle.rules.specs.Layout.{cell_size, datum_cell, last_cell, last_cells, queue_cells}
use Rattle.rules.specs.Sound.{DatumWithin}
use Rattle.words.proofs.Pads.{get_d_pad, pad_all}
use Rattle.keeping.proofs.ViewLaws.{LastFits}
use Rattle.memory.specs.Sections.{cells_of}
use Rattle.ends.specs.Items.{ItemFits, item_cell, cell_item}
use Rattle.ends.specs.Ends.{EndFits, item_at}
use Rattle.ends.proofs.Items.{cell_item_lem, cell_none}

-- ---- lengths

pub length_queue_cells : (x : EndState) → length (queue_cells x) ≡ queue_length x
unfolding queue_cells last_cells
length_queue_cells free_end = refl
length_queue_cells (used m ds none) = omega (arith, length-append (map datum_cell ds) [], length-map ds datum_cell)
length_queue_cells (used m ds (some l)) = omega (arith, length-append (map datum_cell ds) (last_cell l ∷ []), length-map ds datum_cell)

pub queue_within : (x : EndState) → EndFits x → queue_length x ≤ queue_depth
queue_within free_end f = omega arith
queue_within (used m ds l) f = f.within.0

-- ---- every cell fits

item_fits : (x : Item) → ItemFits x → item_cell x < 256 ^ cell_size
unfolding datum_cell last_cell
item_fits (datum (value v)) h = omega (arith, (Fits-of_z {w = w32} {z = v} (record { sfits = h })).fits)
item_fits (datum (handle n)) h = omega arith
item_fits (last (split_item p q)) h = omega (arith, h.0, h.1)
item_fits (last close_item) h = omega arith
item_fits (last (wait_item r)) h = omega arith

queue_fits : (ds : List Datum) (l : Option Last) → ((i : ℕ) → DatumWithin (get_or ds i (handle 0))) → LastFits l
    → (i : ℕ) → get_or (map datum_cell ds ++ last_cells l) i 0 < 256 ^ cell_size
unfolding last_cells
queue_fits [] none w h i = omega arith
queue_fits [] (some l) w h zero = item_fits (last l) h
queue_fits [] (some l) w h (suc i) = omega arith
queue_fits (d ∷ ds) l w h zero = item_fits (datum d) (w 0)
queue_fits (d ∷ ds) l w h (suc i) = queue_fits ds l (λ j. w (suc j)) h i

pub cells_fit : (x : EndState) → EndFits x → (i : ℕ) → get_or (cells_of x) i 0 < 256 ^ cell_size
unfolding cells_of queue_cells
cells_fit x f = pad_all (λ (n : ℕ). n < 256 ^ cell_size) queue_depth 0 (queue_cells x) (omega arith) (fit x f)
  where
    fit : (x : EndState) → EndFits x → (i : ℕ) → get_or (queue_cells x) i 0 < 256 ^ cell_size
    fit free_end f i = omega arith
    fit (used m ds l) f i = queue_fits ds l f.within.1 f.last_fits i

-- ---- the head

pub head_cell : (x : EndState) → EndFits x → cell_item (get_or (cells_of x) 0 0) ≡ head_of x
unfolding cells_of queue_cells last_cells pad
head_cell free_end f = cell_none
head_cell (used m [] none) f = cell_none
head_cell (used m [] (some l)) f = cell_item_lem (last l) f.last_fits
head_cell (used m (d ∷ ds) l) f = cell_item_lem (datum d) (f.within.1 0)

-- ---- the item at an index

-- an empty queue has none
none_at : (m i : ℕ) → none ≡ item_at i (used m [] none)
unfolding item_at
none_at m zero = refl
none_at m (suc i) = none_at m i

queue_item : (m : ℕ) (ds : List Datum) (l : Option Last) → ((i : ℕ) → DatumWithin (get_or ds i (handle 0))) → LastFits l
    → (i : ℕ) → cell_item (get_or (map datum_cell ds ++ last_cells l) i 0) ≡ item_at i (used m ds l)
unfolding last_cells item_at
queue_item m [] none w h i = cell_none ∙ none_at m i
queue_item m [] (some l) w h zero = cell_item_lem (last l) h
queue_item m [] (some l) w h (suc i) = cell_none ∙ none_at m i
queue_item m (d ∷ ds) l w h zero = cell_item_lem (datum d) (w 0)
queue_item m (d ∷ ds) l w h (suc i) = queue_item m ds l (λ j. w (suc j)) h i

pub item_cell_lem : (x : EndState) → EndFits x → (i : ℕ) → i < queue_depth → cell_item (get_or (cells_of x) i 0) ≡ item_at i x
unfolding cells_of queue_cells item_at
item_cell_lem x f i h = ap cell_item (get_d_pad queue_depth 0 (queue_cells x) i h) ∙ go x f
  where
    free_at : (i : ℕ) → none ≡ item_at i free_end
    free_at zero = refl
    free_at (suc i) = free_at i

    go : (x : EndState) → EndFits x → cell_item (get_or (queue_cells x) i 0) ≡ item_at i x
    go free_end f = cell_none ∙ free_at i
    go (used m ds l) f = queue_item m ds l f.within.1 f.last_fits i
