-- One end anew: what an appended item, a removed head, another partner and being freed make of its partner, its count and its cells, and
-- what they leave as it was. Assumes nothing.
use mathlib.Core.Path.{◌≡◌, refl, sym, ap, ◌∙◌}
use mathlib.Core.Bool.{false}
use mathlib.Core.Option.{none, some}
use mathlib.Core.List.{List, [], ◌∷◌, ◌++◌, map, append-nil, map-append}
use Prim.Native.Nat.{ℕ, zero, suc, ◌+◌, ◌-◌, ◌≤◌, ◌<◌}
use native.Mathlib.Nat.{le_of_suc-le-suc}
use native.Mathlib.Omega.{arith}
use lib.ListN.{length, get_or, set, drop, length-append, length-drop, get_or-eq_default}
use lib.Seq.{get_or-drop}
use Rattle.rules.specs.Limits.{queue_depth}
use Rattle.rules.specs.Bytes.{pad, table}
use Rattle.rules.specs.State.{Datum, Item, datum, last, EndState, free_end, used}
use Rattle.rules.specs.State.{queue_length, is_free_end, last_of, data_of, appended, behind_head, with_partner}
use Rattle.rules.specs.Layout.{datum_cell, last_cells, queue_cells, partner_byte}
use Rattle.rules.proofs.TestLaws.{true_is_not_false}
use Rattle.words.proofs.Pads.{length_pad}
use Rattle.words.proofs.Tables.{table_is}
use Rattle.memory.specs.Sections.{cells_of}
use Rattle.ends.specs.Items.{item_cell}
use Rattle.ends.proofs.Queues.{length_queue_cells}

-- ---- an item appended

-- one element behind a padded list
pad_behind : (n : ℕ) (xs : List ℕ) (c : ℕ) → length xs < n → pad n 0 (xs ++ c ∷ []) ≡ set (pad n 0 xs) (length xs) c
unfolding pad
pad_behind zero xs c h = absurd (omega arith)
pad_behind (suc n) [] c h = refl
pad_behind (suc n) (x ∷ xs) c h = ap (λ (r : List ℕ). x ∷ r) (pad_behind n xs c (le_of_suc-le-suc h))

-- the cells of an end in use with no last item, and of the same end with an item appended
cells_behind : (m : ℕ) (ds : List Datum) (it : Item)
    → queue_cells (appended it (used m ds none)) ≡ queue_cells (used m ds none) ++ item_cell it ∷ []
unfolding queue_cells last_cells
cells_behind m ds (datum d) =
    rw (append-nil (map datum_cell (ds ++ d ∷ [])), append-nil (map datum_cell ds)) (map-append datum_cell ds (d ∷ []))
cells_behind m ds (last l) = rw (append-nil (map datum_cell ds))

cells_appended : (m : ℕ) (ds : List Datum) (it : Item) → length ds < queue_depth
    → cells_of (appended it (used m ds none)) ≡ set (cells_of (used m ds none)) (length ds) (item_cell it)
unfolding cells_of
cells_appended m ds it h =
    let cells = queue_cells (used m ds none) in
    let long : length cells ≡ length ds = length_queue_cells (used m ds none) in
    ap (pad queue_depth 0) (cells_behind m ds it)
    ∙ pad_behind queue_depth cells (item_cell it) (omega (arith, long))
    ∙ ap (λ (k : ℕ). set (pad queue_depth 0 cells) k (item_cell it)) long

-- what an append changes and leaves
pub record Appends (it : Item) (x : EndState) : Type 0 where
  pub in_use : is_free_end (appended it x) ≡ is_free_end x
  pub partner : partner_byte (appended it x) ≡ partner_byte x
  pub count : queue_length (appended it x) ≡ queue_length x + 1
  pub cells : cells_of (appended it x) ≡ set (cells_of x) (queue_length x) (item_cell it)

pub appends : (it : Item) (x : EndState) → is_free_end x ≡ false → last_of x ≡ none → queue_length x < queue_depth → Appends it x
unfolding partner_byte
appends it free_end f l h = true_is_not_false refl f
appends (datum d) (used m ds none) f l h = record {
  in_use = refl;
  partner = refl;
  count = omega (arith, length-append ds (d ∷ []));
  cells = cells_appended m ds (datum d) h;
}
appends (last k) (used m ds none) f l h = record {
  in_use = refl;
  partner = refl;
  count = omega arith;
  cells = cells_appended m ds (last k) h;
}
appends it (used m ds (some k)) f l h = absurd (let z : ◌≡◌ {A = ℕ} 0 1 = cc in omega arith)

-- ---- the head removed

-- what removing the head changes and leaves
pub record Removes (x : EndState) : Type 0 where
  pub in_use : is_free_end (behind_head x) ≡ is_free_end x
  pub partner : partner_byte (behind_head x) ≡ partner_byte x
  pub count : queue_length (behind_head x) ≡ queue_length x - 1
  pub cells : queue_cells (behind_head x) ≡ drop 1 (queue_cells x)

pub removes : (x : EndState) → Removes x
unfolding partner_byte queue_cells last_cells
removes free_end = record { in_use = refl; partner = refl; count = refl; cells = refl }
removes (used m [] none) = record { in_use = refl; partner = refl; count = refl; cells = refl }
removes (used m [] (some l)) = record { in_use = refl; partner = refl; count = refl; cells = refl }
removes (used m (d ∷ ds) none) = record { in_use = refl; partner = refl; count = omega arith; cells = refl }
removes (used m (d ∷ ds) (some l)) = record { in_use = refl; partner = refl; count = omega arith; cells = refl }

-- the cells behind the first, and a zero
abbrev pub moved_up : List ℕ → List ℕ
moved_up c = get_or c 1 0 ∷ get_or c 2 0 ∷ get_or c 3 0 ∷ get_or c 4 0 ∷ get_or c 5 0 ∷ get_or c 6 0 ∷ get_or c 7 0 ∷ 0 ∷ []

-- a list that fits its length shows the same elements padded
get_d_padded : (n : ℕ) (xs : List ℕ) → length xs ≤ n → (i : ℕ) → get_or (pad n 0 xs) i 0 ≡ get_or xs i 0
unfolding pad
get_d_padded zero [] h i = refl
get_d_padded zero (x ∷ xs) h i = absurd (omega arith)
get_d_padded (suc n) [] h zero = refl
get_d_padded (suc n) [] h (suc i) = get_d_padded n [] (omega arith) i
get_d_padded (suc n) (x ∷ xs) h zero = refl
get_d_padded (suc n) (x ∷ xs) h (suc i) = get_d_padded n xs (le_of_suc-le-suc h) i

moved_up_lem : (xs : List ℕ) → length xs ≤ queue_depth → moved_up (pad queue_depth 0 xs) ≡ pad queue_depth 0 (drop 1 xs)
unfolding table
moved_up_lem xs h =
    let c = pad queue_depth 0 xs in
    let past : get_or c queue_depth 0 ≡ 0 = get_or-eq_default c 0 (omega (arith, length_pad queue_depth 0 xs)) in
    let short : length (drop 1 xs) ≤ queue_depth = rw (length-drop 1 xs) (omega arith) in
    ap (λ (n : ℕ). get_or c 1 0 ∷ get_or c 2 0 ∷ get_or c 3 0 ∷ get_or c 4 0 ∷ get_or c 5 0 ∷ get_or c 6 0 ∷ get_or c 7 0 ∷ n ∷ [])
    (sym past)
    ∙ table_is 0 queue_depth (λ (k : ℕ). get_or c (suc k) 0) (pad queue_depth 0 (drop 1 xs)) (length_pad queue_depth 0 (drop 1 xs))
    (λ i l.
    let next : 1 + i ≡ suc i = omega arith in
    get_d_padded queue_depth xs h (suc i) ∙ ap (λ (j : ℕ). get_or xs j 0) (sym next) ∙ sym (get_or-drop 1 xs i 0)
    ∙ sym (get_d_padded queue_depth (drop 1 xs) short i))

pub cells_moved : (x : EndState) → queue_length x ≤ queue_depth → moved_up (cells_of x) ≡ cells_of (behind_head x)
unfolding cells_of
cells_moved x h =
    moved_up_lem (queue_cells x) (omega (arith, length_queue_cells x)) ∙ ap (pad queue_depth 0) (sym (removes x).cells)

-- an empty queue has no head to remove
pub none_removed : (x : EndState) → queue_length x ≡ 0 → behind_head x ≡ x
none_removed free_end h = refl
none_removed (used m [] none) h = refl
none_removed (used m [] (some l)) h = absurd (omega arith)
none_removed (used m (d ∷ ds) none) h = absurd (omega arith)
none_removed (used m (d ∷ ds) (some l)) h = absurd (omega arith)

-- ---- an end freed

-- an end without values and handles: a zero in its first cell, and it is as a free one
pub cells_freed : (x : EndState) → data_of x ≡ [] → cells_of free_end ≡ set (cells_of x) 0 0
unfolding cells_of queue_cells last_cells pad
cells_freed free_end h = refl
cells_freed (used m [] none) h = refl
cells_freed (used m [] (some l)) h = refl
cells_freed (used m (d ∷ ds) l) h = absurd (let z : ◌≡◌ {A = ℕ} 0 1 = cc in omega arith)

-- ---- another partner

-- what another partner changes and leaves
pub record Joins (partner : ℕ) (x : EndState) : Type 0 where
  pub in_use : is_free_end (with_partner partner x) ≡ is_free_end x
  pub partner_is : partner_byte (with_partner partner x) ≡ partner
  pub count : queue_length (with_partner partner x) ≡ queue_length x
  pub cells : cells_of (with_partner partner x) ≡ cells_of x

pub joins : (partner : ℕ) (x : EndState) → is_free_end x ≡ false → Joins partner x
unfolding partner_byte cells_of queue_cells
joins partner free_end u = true_is_not_false refl u
joins partner (used m ds none) u = record { in_use = refl; partner_is = refl; count = refl; cells = refl }
joins partner (used m ds (some l)) u = record { in_use = refl; partner_is = refl; count = refl; cells = refl }
