-- A cell by its kind, the cells of a queue one after the other, and the bit of an end, as the code tests them. Assumes nothing.
use mathlib.Core.Path.{◌≡◌, refl, sym, ap, ◌∙◌}
use mathlib.Core.Bool.{Bool, true, false}
use mathlib.Core.List.{List, [], ◌∷◌}
use Prim.Native.Nat.{ℕ, zero, suc, ◌+◌, ◌-◌, ◌*◌, ◌/◌, ◌%◌, ◌^◌, ◌≤◌, ◌<◌}
use native.Mathlib.Omega.{arith}
use lib.ListN.{length, get_or, take, drop, length-drop, drop_of_length-le, get_or-map}
use lib.Seq.{length-take-le, drop-cons, get_or-take}
use lib.Pow.{shr-shr}
use lib.Dec.{eqb}
use borrow.Author.Tests.{eq-eqb, ne_eqb}
use Rattle.rules.specs.Limits.{queue_depth}
use Rattle.rules.specs.Bytes.{number_at, pieces}
use Rattle.rules.specs.Slots.{in_set}
use Rattle.rules.specs.EndStep.{only_if}
use Rattle.rules.specs.Layout.{cell_size, cell_kind}
use Rattle.words.proofs.Numbers.{number_in}
use Rattle.words.proofs.Pieces.{get_d_pieces}
use Rattle.canonical.specs.Canonical.{datum_fits, last_fits, is_datum, is_last, cells_in, canonical_cells}
use Rattle.canonical.proofs.EndBytes.{length_cells}

module _ (c : ℕ) where
  pub datum_kind : {k : ℕ} → c % 256 ≡ k → datum_fits (cell_kind k) (c / 256) ≡ is_datum c
  unfolding is_datum
  datum_kind q = sym (ap (λ (k : ℕ). datum_fits (cell_kind k) (c / 256)) q)

  pub last_kind : {k : ℕ} → c % 256 ≡ k → last_fits (cell_kind k) (c / 256) ≡ is_last c
  unfolding is_last
  last_kind q = sym (ap (λ (k : ℕ). last_fits (cell_kind k) (c / 256)) q)

  -- kinds 1 and 2 are the data, kinds 3, 4 and 5 the last items
  pub no_datum : (c % 256 ≡ 1 → ⊥) → (c % 256 ≡ 2 → ⊥) → false ≡ is_datum c
  no_datum one two = go (c % 256) refl
    where
      go : (k : ℕ) → c % 256 ≡ k → false ≡ is_datum c
      go zero q = datum_kind q
      go (suc zero) q = absurd (one q)
      go (suc (suc zero)) q = absurd (two q)
      go (suc (suc (suc zero))) q = datum_kind q
      go (suc (suc (suc (suc zero)))) q = datum_kind q
      go (suc (suc (suc (suc (suc zero))))) q = datum_kind q
      go (suc (suc (suc (suc (suc (suc k)))))) q = datum_kind q

  pub no_last : (c % 256 ≡ 3 → ⊥) → (c % 256 ≡ 4 → ⊥) → (c % 256 ≡ 5 → ⊥) → false ≡ is_last c
  no_last three four five = go (c % 256) refl
    where
      go : (k : ℕ) → c % 256 ≡ k → false ≡ is_last c
      go zero q = last_kind q
      go (suc zero) q = last_kind q
      go (suc (suc zero)) q = last_kind q
      go (suc (suc (suc zero))) q = absurd (three q)
      go (suc (suc (suc (suc zero)))) q = absurd (four q)
      go (suc (suc (suc (suc (suc zero))))) q = absurd (five q)
      go (suc (suc (suc (suc (suc (suc k)))))) q = last_kind q

-- bit e of a word
pub bit_is : (w e : ℕ) → eqb (w / 2 ^ e % 2) 1 ≡ in_set w e
unfolding in_set
bit_is w zero = let whole : w / 1 ≡ w = omega arith in ap (λ (k : ℕ). eqb (k % 2) 1) whole
bit_is w (suc e) =
    let one : 1 + e ≡ suc e = omega arith in
    let far : w / 2 ^ suc e ≡ w / 2 / 2 ^ e = ap (λ (k : ℕ). w / 2 ^ k) (sym one) ∙ sym (shr-shr w 1 e) in
    ap (λ (k : ℕ). eqb (k % 2) 1) far ∙ bit_is (w / 2) e

-- ---- the cells in use, one after the other

only_true : (b : Bool) → only_if b true ≡ b
only_true true = refl
only_true false = refl

only_false : (b : Bool) → only_if b false ≡ false
only_false true = refl
only_false false = refl

module _ (c : ℕ) (cs : List ℕ) where
  -- behind a datum the rest decides
  pub cells_go : is_datum c ≡ true → canonical_cells (c ∷ cs) ≡ canonical_cells cs
  unfolding canonical_cells
  cells_go h = rw h

  -- anything else must be a last item, and the last
  pub cells_end : is_datum c ≡ false → length cs ≡ 0 → canonical_cells (c ∷ cs) ≡ is_last c
  unfolding canonical_cells
  cells_end h e = rw (h, eq-eqb (length cs) 0 e) (only_true (is_last c))

  pub cells_stop : is_datum c ≡ false → 0 < length cs → canonical_cells (c ∷ cs) ≡ false
  unfolding canonical_cells
  cells_stop h l = rw (h, ne_eqb (length cs) 0 (λ z. absurd (omega arith))) (only_false (is_last c))

-- cell i of a queue
pub cell_at : (bytes : List ℕ) (i : ℕ) → i < queue_depth → get_or (cells_in bytes) i 0 ≡ number_at cell_size bytes (cell_size * i)
unfolding cells_in
cell_at bytes i h =
    let number : List ℕ → ℕ = λ (cell : List ℕ). number_at cell_size cell 0 in
    let e : cell_size * i + 0 ≡ cell_size * i = omega arith in
    get_or-map number (pieces queue_depth cell_size bytes) i [] ∙ ap number (get_d_pieces queue_depth cell_size bytes i h)
    ∙ sym (number_in cell_size bytes (cell_size * i) cell_size 0 (omega arith))
    ∙ ap (number_at cell_size bytes) e

-- the cells in use from cell i on
abbrev pub cells_from : (bytes : List ℕ) (count i : ℕ) → List ℕ
cells_from bytes count i = drop i (take count (cells_in bytes))

module _ (bytes : List ℕ) (count : ℕ) (few : count ≤ queue_depth) where
  cells_long : length (take count (cells_in bytes)) ≡ count
  cells_long = length-take-le count (cells_in bytes) (omega (arith, length_cells bytes))

  length_from : (i : ℕ) → length (cells_from bytes count i) ≡ count - i
  length_from i = length-drop i (take count (cells_in bytes)) ∙ ap (λ (k : ℕ). k - i) cells_long

  cells_next : (i : ℕ) → i < count → cells_from bytes count i ≡ number_at cell_size bytes (cell_size * i) ∷ cells_from bytes count (i + 1)
  cells_next i h =
      let first = get_or-take count (cells_in bytes) i 0 h ∙ cell_at bytes i (omega arith) in
      let next : suc i ≡ i + 1 = omega arith in
      drop-cons (take count (cells_in bytes)) i 0 (omega (arith, cells_long))
      ∙ (λ j. first j ∷ drop (next j) (take count (cells_in bytes)))

  -- what the turn at cell i shows, of the cell that was read
  module _ (i : ℕ) (h : i < count) {cell : ℕ} (e : cell ≡ number_at cell_size bytes (cell_size * i)) where
    here : canonical_cells (cells_from bytes count i) ≡ canonical_cells (cell ∷ cells_from bytes count (i + 1))
    here = ap canonical_cells (cells_next i h) ∙ ap (λ (k : ℕ). canonical_cells (k ∷ cells_from bytes count (i + 1))) (sym e)

    pub turn_go : is_datum cell ≡ true → canonical_cells (cells_from bytes count i) ≡ canonical_cells (cells_from bytes count (i + 1))
    turn_go t = here ∙ cells_go cell (cells_from bytes count (i + 1)) t

    pub turn_end : is_datum cell ≡ false → count ≤ i + 1 → canonical_cells (cells_from bytes count i) ≡ is_last cell
    turn_end t l = here ∙ cells_end cell (cells_from bytes count (i + 1)) t (omega (arith, length_from (i + 1)))

    pub turn_stop : is_datum cell ≡ false → i + 1 < count → canonical_cells (cells_from bytes count i) ≡ false
    turn_stop t l = here ∙ cells_stop cell (cells_from bytes count (i + 1)) t (omega (arith, length_from (i + 1)))

  pub cells_all : (i : ℕ) → count ≤ i → canonical_cells (cells_from bytes count i) ≡ true
  unfolding canonical_cells
  cells_all i h =
      let past : length (take count (cells_in bytes)) ≤ i = omega (arith, cells_long) in
      ap canonical_cells (drop_of_length-le (take count (cells_in bytes)) past)
