-- An end's bytes: they pass `canonical_end` exactly if they are what the end that they show is written to, and that end is within the limits
-- (`end_from`, `end_to`). The idea: the cells in use are items exactly if the queue that they show is written to the same cells.
-- Assumes nothing.
use mathlib.Core.Path.{◌≡◌, refl, sym, ap, ◌∙◌, subst}
use mathlib.Core.Bool.{Bool, true, false}
use mathlib.Core.Option.{Option, none, some}
use mathlib.Core.List.{List, [], ◌∷◌, ◌++◌, map, append-nil}
use Prim.Native.Nat.{ℕ, zero, suc, ◌+◌, ◌-◌, ◌*◌, ◌/◌, ◌%◌, ◌^◌, ◌≤◌, ◌<◌}
use native.Mathlib.Omega.{arith}
use lib.ListN.{length, get_or, take, drop, length-append, length-map}
use lib.Seq.{length-take-le, take_all}
use lib.Dec.{eqb, ltb}
use lib.Signed.{mag}
use mir.Syntax.{w32}
use mir.Val.{to_z, of_z, Fits, SFits}
use mir.Facts.{of_z-to_z, sfits_to_z, Fits-of_z}
use borrow.Author.Tests.{lt-ltb, ltb-true, le-leb, leb-true, eq-eqb, eqb-true}
use Rattle.rules.specs.Limits.{end_count, queue_depth, record_count, handle_count, value_bound}
use Rattle.rules.specs.Bytes.{bytes_of, number_at, flat, pad, pieces}
use Rattle.rules.specs.State.{Datum, value, handle, Last, split_item, close_item, wait_item, EndState, free_end, used, queue_length}
use Rattle.rules.specs.EndStep.{only_if}
use Rattle.rules.specs.SoundTest.{all, datum_within, last_within, end_within}
use Rattle.rules.specs.Layout.{cell_size, queue_size, partner_byte, datum_cell, last_cell, last_cells, queue_cells, queue_bytes, Queue}
use Rattle.rules.specs.Layout.{queue}
use Rattle.rules.specs.Layout.{in_front, cell_kind, view_cell, view_cells, view_queue, view_end}
use Rattle.rules.proofs.TestLaws.{both, left_of, right_of, all_true_read, all_true_write, true_is_not_false}
use Rattle.words.specs.Parts.{Bytes}
use Rattle.words.proofs.Numbers.{length_bytes, bytes_number, number_bytes}
use Rattle.words.proofs.Pads.{length_pad, pad_same, pad_all, take_pad}
use Rattle.words.proofs.Pieces.{pieces_flat, length_pieces}
use Rattle.canonical.specs.Canonical.{part, all_zero, either, cells_in, datum_fits, last_fits, is_datum, is_last, canonical_cells}
use Rattle.canonical.specs.Canonical.{canonical_queue, canonical_end}
use Rattle.canonical.proofs.Padding.{all_zero_read, all_zero_write, flat_none, cells_from, cells_to}

-- ---- the cells in use

-- the cells that a queue is written to
abbrev cells_of : Queue → List ℕ
cells_of q = map datum_cell q.queued ++ last_cells q.final

-- a queue that is written to these cells, and is within the limits
pub record Holds (cs : List ℕ) (q : Queue) : Type 0 where
  pub cells : cells_of q ≡ cs
  pub queued_within : all datum_within q.queued ≡ true
  pub final_within : last_within q.final ≡ true

either_read : (a b c : Bool) → either a b (only_if false c) ≡ true → (a ≡ true) × (b ≡ true)
either_read true b c h = (refl, h)
either_read false b c h = true_is_not_false h refl

either_write : {a b : Bool} → a ≡ true → b ≡ true → either a b false ≡ true
either_write p q = rw p q

none_left : (cs : List ℕ) → eqb (length cs) 0 ≡ true → [] ≡ cs
none_left [] h = refl
none_left (c ∷ cs) h = absurd (let e = eqb-true (length (c ∷ cs)) 0 h in omega arith)

-- the first cell, of a kind by its number
module _ (c : ℕ) (cs : List ℕ) where
  shows : {n : ℕ} → c % 256 ≡ n → view_cells (c ∷ cs) ≡ view_cell (cell_kind n) (c / 256) (view_cells cs)
  unfolding view_cells
  shows q = ap (λ (k : ℕ). view_cell (cell_kind k) (c / 256) (view_cells cs)) q

  tests : {n : ℕ} → c % 256 ≡ n → canonical_cells (c ∷ cs)
      ≡ either (datum_fits (cell_kind n) (c / 256)) (canonical_cells cs) (only_if (last_fits (cell_kind n) (c / 256)) (eqb (length cs) 0))
  unfolding canonical_cells is_datum is_last
  tests q =
      ap (λ (k : ℕ). either (datum_fits (cell_kind k) (c / 256)) (canonical_cells cs)
      (only_if (last_fits (cell_kind k) (c / 256)) (eqb (length cs) 0))) q

-- a datum in front of a queue
datum_from : (d : Datum) (q : Queue) (c : ℕ) (cs : List ℕ) → datum_cell d ≡ c → datum_within d ≡ true → Holds cs q
    → Holds (c ∷ cs) (in_front d q)
unfolding all
datum_from d q c cs e w h = record {
  cells = λ i. e i ∷ h.cells i;
  queued_within = both w h.queued_within;
  final_within = h.final_within;
}

datum_to : (d : Datum) (q : Queue) (c : ℕ) (cs : List ℕ) → Holds (c ∷ cs) (in_front d q)
    → (datum_cell d ≡ c) × (datum_within d ≡ true) × Holds cs q
unfolding all
datum_to d q c cs h = (
  ap (λ (r : List ℕ). get_or r 0 0) h.cells,
  left_of (datum_within d) (all datum_within q.queued) h.queued_within,
  record {
    cells = ap (drop 1) h.cells;
    queued_within = right_of (datum_within d) (all datum_within q.queued) h.queued_within;
    final_within = h.final_within;
  },
)

-- a last item, and nothing behind it
last_from : (l : Last) (c : ℕ) (cs : List ℕ) → last_cell l ≡ c → last_within (some l) ≡ true → eqb (length cs) 0 ≡ true
    → Holds (c ∷ cs) (queue [] (some l))
unfolding all last_cells
last_from l c cs e w h =
    let behind = none_left cs h in
    record { cells = λ i. e i ∷ behind i; queued_within = refl; final_within = w }

last_to : (l : Last) (c : ℕ) (cs : List ℕ) → Holds (c ∷ cs) (queue [] (some l))
    → (last_cell l ≡ c) × (last_within (some l) ≡ true) × (eqb (length cs) 0 ≡ true)
unfolding last_cells
last_to l c cs h = (
  ap (λ (r : List ℕ). get_or r 0 0) h.cells,
  h.final_within,
  eq-eqb (length cs) 0 (sym (ap (λ (r : List ℕ). length (drop 1 r)) h.cells)),
)

never_empty : (c : ℕ) (cs : List ℕ) → Holds (c ∷ cs) (queue [] none) → ⊥
unfolding last_cells
never_empty c cs h = let e = ap length h.cells in omega arith

value_back : (x : ℕ) → ltb x 4294967296 ≡ true → (of_z w32 (to_z w32 x) ≡ x) × (datum_within (value (to_z w32 x)) ≡ true)
unfolding datum_within
value_back x h =
    let fits : Fits w32 x = record { fits = ltb-true x 4294967296 h } in
    (of_z-to_z {w = w32} {n = x} fits, lt-ltb (mag (to_z w32 x)) value_bound (sfits_to_z {w = w32} {n = x} fits).sfits)

value_forth : (x : ℕ) → datum_within (value (to_z w32 x)) ≡ true → of_z w32 (to_z w32 x) ≡ x → ltb x 4294967296 ≡ true
unfolding datum_within
value_forth x h e =
    let fits : SFits w32 (to_z w32 x) = record { sfits = ltb-true (mag (to_z w32 x)) value_bound h } in
    let bits : of_z w32 (to_z w32 x) < 4294967296 = (Fits-of_z {w = w32} {z = to_z w32 x} fits).fits in
    lt-ltb x 4294967296 (subst (λ (k : ℕ). k < 4294967296) e bits)

-- a cell is its kind and its payload
cell_is : (c k : ℕ) → c % 256 ≡ k → k + 256 * (c / 256) ≡ c
cell_is c k h = omega arith

halves : (x : ℕ) → x % 256 + 256 * (x / 256) ≡ x
halves x = omega arith

pub items_from : (cs : List ℕ) → canonical_cells cs ≡ true → Holds cs (view_cells cs)
unfolding view_cells view_cell datum_cell last_cell datum_within last_within last_cells all
items_from [] h = record { cells = refl; queued_within = refl; final_within = refl }
items_from (c ∷ cs) h = subst (Holds (c ∷ cs)) (sym (shows c cs refl)) (go (c % 256) refl (items_from cs))
  where
    x : ℕ
    x = c / 256

    test : {n : ℕ} → c % 256 ≡ n
        → either (datum_fits (cell_kind n) x) (canonical_cells cs) (only_if (last_fits (cell_kind n) x) (eqb (length cs) 0)) ≡ true
    test q = sym (tests c cs q) ∙ h

    go : (n : ℕ) → c % 256 ≡ n → (canonical_cells cs ≡ true → Holds cs (view_cells cs))
        → Holds (c ∷ cs) (view_cell (cell_kind n) x (view_cells cs))
    go zero q rest = true_is_not_false (test q) refl
    go (suc zero) q rest =
        let t = either_read (ltb x 4294967296) (canonical_cells cs) (eqb (length cs) 0) (test q) in
        let v = value_back x t.0 in
        datum_from (value (to_z w32 x)) (view_cells cs) c cs (ap (λ (k : ℕ). 1 + 256 * k) v.0 ∙ cell_is c 1 q) v.1 (rest t.1)
    go (suc (suc zero)) q rest =
        let t = either_read (ltb x handle_count) (canonical_cells cs) (eqb (length cs) 0) (test q) in
        datum_from (handle x) (view_cells cs) c cs (cell_is c 2 q) t.0 (rest t.1)
    go (suc (suc (suc zero))) q rest =
        let fits = only_if (ltb (x % 256) end_count) (ltb (x / 256) end_count) in
        let l : last_cell (split_item (x % 256) (x / 256)) ≡ c = ap (λ (k : ℕ). 3 + 256 * k) (halves x) ∙ cell_is c 3 q in
        last_from (split_item (x % 256) (x / 256)) c cs l (left_of fits (eqb (length cs) 0) (test q))
        (right_of fits (eqb (length cs) 0) (test q))
    go (suc (suc (suc (suc zero)))) q rest =
        let none : x ≡ 0 = eqb-true x 0 (left_of (eqb x 0) (eqb (length cs) 0) (test q)) in
        last_from close_item c cs (omega (arith, cell_is c 4 q)) refl (right_of (eqb x 0) (eqb (length cs) 0) (test q))
    go (suc (suc (suc (suc (suc zero))))) q rest =
        last_from (wait_item x) c cs (cell_is c 5 q) (left_of (ltb x record_count) (eqb (length cs) 0) (test q))
        (right_of (ltb x record_count) (eqb (length cs) 0) (test q))
    go (suc (suc (suc (suc (suc (suc n)))))) q rest = true_is_not_false (test q) refl

pub items_to : (cs : List ℕ) → Holds cs (view_cells cs) → canonical_cells cs ≡ true
unfolding view_cells view_cell datum_cell last_cell datum_within last_within canonical_cells
items_to [] h = refl
items_to (c ∷ cs) h = go (c % 256) refl (items_to cs)
  where
    x : ℕ
    x = c / 256

    shown : {n : ℕ} → c % 256 ≡ n → Holds (c ∷ cs) (view_cell (cell_kind n) x (view_cells cs))
    shown q = subst (Holds (c ∷ cs)) (shows c cs q) h

    go : (n : ℕ) → c % 256 ≡ n → (Holds cs (view_cells cs) → canonical_cells cs ≡ true) → canonical_cells (c ∷ cs) ≡ true
    go zero q rest = absurd (never_empty c cs (shown q))
    go (suc zero) q rest =
        let t = datum_to (value (to_z w32 x)) (view_cells cs) c cs (shown q) in
        let bits : of_z w32 (to_z w32 x) ≡ x = omega (arith, t.0, cell_is c 1 q) in
        tests c cs q ∙ either_write (value_forth x t.1 bits) (rest t.2)
    go (suc (suc zero)) q rest =
        let t = datum_to (handle x) (view_cells cs) c cs (shown q) in
        tests c cs q ∙ either_write t.1 (rest t.2)
    go (suc (suc (suc zero))) q rest =
        let t = last_to (split_item (x % 256) (x / 256)) c cs (shown q) in
        tests c cs q ∙ both t.1 t.2
    go (suc (suc (suc (suc zero)))) q rest =
        let t = last_to close_item c cs (shown q) in
        tests c cs q ∙ both (eq-eqb x 0 (omega (arith, t.0, cell_is c 4 q))) t.2
    go (suc (suc (suc (suc (suc zero))))) q rest =
        let t = last_to (wait_item x) c cs (shown q) in
        tests c cs q ∙ both t.1 t.2
    go (suc (suc (suc (suc (suc (suc n)))))) q rest = absurd (never_empty c cs (shown q))

-- ---- an end in use

length_items : (m : ℕ) (q : Queue) → length (cells_of q) ≡ queue_length (used m q.queued q.final)
unfolding last_cells
length_items m q = go q.final
  where
    ds : List Datum
    ds = q.queued

    go : (l : Option Last) → length (map datum_cell ds ++ last_cells l) ≡ queue_length (used m ds l)
    go none = omega (arith, length-append (map datum_cell ds) [], length-map ds datum_cell)
    go (some l) = omega (arith, length-append (map datum_cell ds) (last_cell l ∷ []), length-map ds datum_cell)

-- what is within the limits fits its cell
datum_fits_lem : (d : Datum) → datum_within d ≡ true → datum_cell d < 256 ^ cell_size
unfolding datum_cell datum_within
datum_fits_lem (value v) h =
    let fits : SFits w32 v = record { sfits = ltb-true (mag v) value_bound h } in
    let bits : of_z w32 v < 4294967296 = (Fits-of_z {w = w32} {z = v} fits).fits in
    omega arith
datum_fits_lem (handle n) h = omega (arith, ltb-true n handle_count h)

last_fits_lem : (l : Last) → last_within (some l) ≡ true → last_cell l < 256 ^ cell_size
unfolding last_cell last_within
last_fits_lem (split_item p q) h =
    let p_within = ltb-true p end_count (left_of (ltb p end_count) (ltb q end_count) h) in
    let q_within = ltb-true q end_count (right_of (ltb p end_count) (ltb q end_count) h) in
    omega arith
last_fits_lem close_item h = omega arith
last_fits_lem (wait_item r) h = omega (arith, ltb-true r record_count h)

items_fit : (ds : List Datum) (l : Option Last) → all datum_within ds ≡ true → last_within l ≡ true → (i : ℕ)
    → get_or (map datum_cell ds ++ last_cells l) i 0 < 256 ^ cell_size
unfolding last_cells all
items_fit [] none w h i = omega arith
items_fit [] (some l) w h zero = last_fits_lem l h
items_fit [] (some l) w h (suc i) = omega arith
items_fit (d ∷ ds) l w h zero = datum_fits_lem d (left_of (datum_within d) (all datum_within ds) w)
items_fit (d ∷ ds) l w h (suc i) = items_fit ds l (right_of (datum_within d) (all datum_within ds) w) h i

-- cells that were written are read
abbrev number_in : List ℕ → ℕ
number_in cell = number_at cell_size cell 0

numbers_back : (ns : List ℕ) → ((i : ℕ) → get_or ns i 0 < 256 ^ cell_size) → map number_in (map (bytes_of cell_size) ns) ≡ ns
numbers_back [] h = refl
numbers_back (n ∷ ns) h =
    let first : number_in (bytes_of cell_size n) ≡ n = ap number_in (sym (append-nil (bytes_of cell_size n)))
    ∙ number_bytes cell_size n [] (h 0) in
    λ i. first i ∷ numbers_back ns (λ j. h (suc j)) i

cells_back : (ns : List ℕ) → length ns ≡ queue_depth → ((i : ℕ) → get_or ns i 0 < 256 ^ cell_size)
    → cells_in (flat (bytes_of cell_size) ns) ≡ ns
unfolding cells_in
cells_back ns l h =
    ap (λ (r : List ℕ). map number_in (pieces queue_depth cell_size r)) (sym (append-nil (flat (bytes_of cell_size) ns)))
    ∙ ap (map number_in)
    (subst (λ (k : ℕ). pieces k cell_size (flat (bytes_of cell_size) ns ++ []) ≡ map (bytes_of cell_size) ns) l
    (pieces_flat (bytes_of cell_size) cell_size (length_bytes cell_size) ns []))
    ∙ numbers_back ns h

cell_bytes : (p : List ℕ) → Bytes p → length p ≡ cell_size → bytes_of cell_size (number_in p) ≡ p
cell_bytes p b l = bytes_number cell_size p 0 b (omega arith) ∙ take_all cell_size p (omega arith)

zero_cell : bytes_of cell_size 0 ≡ pad cell_size 0 []
unfolding pad
zero_cell = refl

pub length_cells : (bytes : List ℕ) → length (cells_in bytes) ≡ queue_depth
unfolding cells_in
length_cells bytes = length-map (pieces queue_depth cell_size bytes) number_in ∙ length_pieces queue_depth cell_size bytes

-- the cells in use are written to the same bytes exactly if the bytes behind them are zero
module _ (bytes : List ℕ) (b : Bytes bytes) (l : length bytes ≡ queue_size) (k : ℕ) (h : k ≤ queue_depth) where
  behind_is : take (cell_size * (queue_depth - k)) (drop (cell_size * k) bytes) ≡ part (cell_size * k) queue_size bytes
  behind_is =
      let e : cell_size * (queue_depth - k) ≡ queue_size - cell_size * k = omega arith in
      ap (λ (i : ℕ). take i (drop (cell_size * k) bytes)) e

  used_from : all_zero (part (cell_size * k) queue_size bytes) ≡ true
      → flat (bytes_of cell_size) (pad queue_depth 0 (take k (cells_in bytes))) ≡ bytes
  unfolding cells_in
  used_from z =
      cells_from (bytes_of cell_size) cell_size 0 zero_cell number_in cell_bytes k (queue_depth - k) queue_depth (omega arith) bytes b
      (omega arith) (rw behind_is z)
      ∙ take_all queue_size bytes (omega arith)

  used_to : flat (bytes_of cell_size) (pad queue_depth 0 (take k (cells_in bytes))) ≡ bytes
      → all_zero (part (cell_size * k) queue_size bytes) ≡ true
  unfolding cells_in
  used_to e =
      subst (λ (r : List ℕ). all_zero r ≡ true) behind_is
      (cells_to (bytes_of cell_size) cell_size 0 zero_cell number_in cell_bytes k (queue_depth - k) queue_depth (omega arith) bytes b
      (omega arith) (e ∙ sym (take_all queue_size bytes (omega arith))))

-- ---- any end

-- written again, the end that the bytes show is these bytes, and it is within the limits
pub record EndSame (x : EndState) (m k : ℕ) (bytes : List ℕ) : Type 0 where
  pub partner_same : partner_byte x ≡ m
  pub count_same : queue_length x ≡ k
  pub queue_same : queue_bytes x ≡ bytes
  pub end_within_lem : end_within x ≡ true

free_queue : queue_bytes free_end ≡ pad queue_size 0 []
unfolding queue_bytes queue_cells
free_queue = flat_none (bytes_of cell_size) cell_size 0 zero_cell number_in cell_bytes queue_depth

module _ (m k : ℕ) (bytes : List ℕ) (b : Bytes bytes) (l : length bytes ≡ queue_size) where
  pub end_from : (free : Bool) → canonical_end free m k bytes ≡ true → EndSame (view_end free m k bytes) m k bytes
  unfolding canonical_end canonical_queue view_end partner_byte end_within view_queue queue_bytes queue_cells cells_in
  end_from true h =
      let t = all_true_read _ h in
      record {
        partner_same = sym (eqb-true m 0 t.0);
        count_same = sym (eqb-true k 0 t.1.0);
        queue_same = free_queue ∙ sym (all_zero_read bytes t.1.1.0 ∙ ap (λ (n : ℕ). pad n 0 []) l);
        end_within_lem = refl;
      }
  end_from false h =
      let t = all_true_read _ h in
      let few = leb-true k queue_depth t.0 in
      let cells = take k (cells_in bytes) in
      let q = view_cells cells in
      let holds = items_from cells t.1.0 in
      let long : length cells ≡ k = length-take-le k (cells_in bytes) (omega (arith, length_cells bytes)) in
      let count : queue_length (used m q.queued q.final) ≡ k = sym (length_items m q) ∙ ap length holds.cells ∙ long in
      record {
        partner_same = refl;
        count_same = count;
        queue_same = ap (λ (r : List ℕ). flat (bytes_of cell_size) (pad queue_depth 0 r)) holds.cells
            ∙ used_from bytes b l k few t.1.1.0;
        end_within_lem = all_true_write _ (
          le-leb (queue_length (used m q.queued q.final)) queue_depth (omega (arith, count)),
          (holds.queued_within, (holds.final_within, tt)),
        );
      }

  pub end_to : (free : Bool) → EndSame (view_end free m k bytes) m k bytes → canonical_end free m k bytes ≡ true
  unfolding canonical_end canonical_queue view_end partner_byte end_within view_queue queue_bytes queue_cells cells_in
  end_to true h = all_true_write _ (
    eq-eqb m 0 (sym h.partner_same),
    (
      eq-eqb k 0 (sym h.count_same),
      (subst (λ (r : List ℕ). all_zero r ≡ true) (sym free_queue ∙ h.queue_same) (all_zero_write queue_size), tt),
    ),
  )
  end_to false h =
      let cells = take k (cells_in bytes) in
      let q = view_cells cells in
      let t = all_true_read _ h.end_within_lem in
      let items = cells_of q in
      let long : length items ≡ k = length_items m q ∙ h.count_same in
      let few : k ≤ queue_depth = omega (arith, h.count_same, leb-true (queue_length (used m q.queued q.final)) queue_depth t.0) in
      let fit = pad_all (λ (n : ℕ). n < 256 ^ cell_size) queue_depth 0 items (omega arith)
      (items_fit q.queued q.final t.1.0 t.1.1.0) in
      let all_cells : cells_in bytes ≡ pad queue_depth 0 items = ap cells_in (sym h.queue_same)
      ∙ cells_back (pad queue_depth 0 items) (length_pad queue_depth 0 items) fit in
      let first : take k (pad queue_depth 0 items) ≡ items =
      subst (λ (n : ℕ). take k (pad n 0 items) ≡ pad k 0 items) (omega arith) (take_pad k (queue_depth - k) 0 items)
      ∙ pad_same k 0 items long in
      let same : items ≡ cells = sym (ap (take k) all_cells ∙ first) in
      let holds : Holds cells q = record { cells = same; queued_within = t.1.0; final_within = t.1.1.0 } in
      all_true_write _ (
        le-leb k queue_depth few,
        (
          items_to cells holds,
          (
            used_to bytes b l k few (ap (λ (r : List ℕ). flat (bytes_of cell_size) (pad queue_depth 0 r)) (sym same) ∙ h.queue_same),
            tt,
          ),
        ),
      )
