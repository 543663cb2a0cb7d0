-- The last item of a queue is what its last cell says, where the queue's bytes are canonical. Assumes nothing.
use mathlib.Core.Path.{◌≡◌, refl, sym, ap, ◌∙◌, subst}
use mathlib.Core.Bool.{Bool, true, false}
use mathlib.Core.Option.{Option, none, some}
use mathlib.Core.List.{List, [], ◌∷◌}
use Prim.Native.Nat.{ℕ, zero, suc, ◌+◌, ◌-◌, ◌*◌, ◌/◌, ◌%◌, ◌≤◌, ◌<◌}
use native.Mathlib.Nat.{suc_inj}
use native.Mathlib.Omega.{arith}
use lib.ListN.{length, get_or, take}
use lib.Seq.{length-take-le, get_or-take}
use lib.Dec.{eqb, ltb}
use borrow.Author.Tests.{eqb-true, leb-true, ltb-true}
use Rattle.rules.specs.Limits.{record_count, end_count, queue_depth}
use Rattle.rules.specs.Bytes.{number_at}
use Rattle.rules.specs.State.{Last, split_item, close_item, wait_item, end_at, last_of}
use Rattle.rules.specs.EndStep.{only_if}
use Rattle.rules.specs.SoundTest.{last_within}
use Rattle.rules.specs.Layout.{cell_size, queue_size, partners_at, counts_at, queues_at, queue, cell_kind, view_cell, view_cells}
use Rattle.rules.specs.Layout.{view_queue, view}
use Rattle.rules.proofs.TestLaws.{true_is_not_false, left_of, right_of, all_true_read}
use Rattle.words.proofs.Numbers.{number_in}
use Rattle.canonical.specs.Canonical.{either, free_in, queue_part, cells_in, datum_fits, last_fits, is_datum, is_last, canonical_cells}
use Rattle.canonical.specs.Canonical.{canonical_queue, canonical_end, end_test}
use Rattle.canonical.proofs.EndBytes.{length_cells}
use Rattle.canonical.proofs.Cells.{datum_kind, cell_at}
use Rattle.soundness.specs.Lasts.{is_item, last_in}
use Rattle.soundness.proofs.Partners.{free_shown, used_shown}

-- ---- the cells in use

-- a datum in front changes nothing at the end
behind_datum : (c : ℕ) (cs : List ℕ) → is_datum c ≡ true → (view_cells (c ∷ cs)).final ≡ (view_cells cs).final
unfolding view_cells view_cell
behind_datum c cs h = go (c % 256) refl
  where
    shown : {k : ℕ} → c % 256 ≡ k → (view_cell (cell_kind k) (c / 256) (view_cells cs)).final ≡ (view_cells cs).final
        → (view_cell (cell_kind (c % 256)) (c / 256) (view_cells cs)).final ≡ (view_cells cs).final
    shown q e = ap (λ (k : ℕ). (view_cell (cell_kind k) (c / 256) (view_cells cs)).final) q ∙ e

    other : {k : ℕ} {A : Type 0} → c % 256 ≡ k → datum_fits (cell_kind k) (c / 256) ≡ false → A
    other q e = true_is_not_false h (sym (datum_kind c q) ∙ e)

    go : (k : ℕ) → c % 256 ≡ k → (view_cell (cell_kind (c % 256)) (c / 256) (view_cells cs)).final ≡ (view_cells cs).final
    go zero q = other q refl
    go (suc zero) q = shown q refl
    go (suc (suc zero)) q = shown q refl
    go (suc (suc (suc zero))) q = other q refl
    go (suc (suc (suc (suc zero)))) q = other q refl
    go (suc (suc (suc (suc (suc zero))))) q = other q refl
    go (suc (suc (suc (suc (suc (suc k)))))) q = other q refl

-- the first of two or more cells in use is a datum
first_datum : (c d : ℕ) (cs : List ℕ) → canonical_cells (c ∷ d ∷ cs) ≡ true → (is_datum c ≡ true) × (canonical_cells (d ∷ cs) ≡ true)
unfolding canonical_cells
first_datum c d cs h = go (is_datum c) refl h
  where
    go : (b : Bool) → is_datum c ≡ b → either b (canonical_cells (d ∷ cs)) (only_if (is_last c) (eqb (length (d ∷ cs)) 0)) ≡ true
        → (is_datum c ≡ true) × (canonical_cells (d ∷ cs) ≡ true)
    go true q t = (q, t)
    go false q t =
        let none = eqb-true (length (d ∷ cs)) 0 (right_of (is_last c) (eqb (length (d ∷ cs)) 0) t) in
        absurd (omega arith)

one_item : (c : ℕ) → canonical_cells (c ∷ []) ≡ true → is_item c ≡ true
unfolding canonical_cells is_item
one_item c h = go (is_datum c) h
  where
    go : (b : Bool) → either b true (only_if (is_last c) true) ≡ true → either b true (is_last c) ≡ true
    go true t = refl
    go false t = left_of (is_last c) true t

final_is : (cs : List ℕ) (k : ℕ) → canonical_cells cs ≡ true → length cs ≡ suc k
    → ((view_cells cs).final ≡ last_in (get_or cs k 0)) × (is_item (get_or cs k 0) ≡ true)
unfolding last_in
final_is [] k h l = absurd (omega arith)
final_is (c ∷ []) zero h l = (refl, one_item c h)
final_is (c ∷ []) (suc k) h l = absurd (omega arith)
final_is (c ∷ d ∷ cs) zero h l = absurd (omega arith)
final_is (c ∷ d ∷ cs) (suc k) h l =
    let t = first_datum c d cs h in
    let rest = final_is (d ∷ cs) k t.1 (suc_inj l) in
    (behind_datum c (d ∷ cs) t.0 ∙ rest.0, rest.1)

-- ---- the last cell, by its kind

module _ (c : ℕ) (item : is_item c ≡ true) where
  says : {k : ℕ} → c % 256 ≡ k → (view_cell (cell_kind k) (c / 256) (queue [] none)).final ≡ last_in c
  unfolding last_in view_cells
  says q = sym (ap (λ (k : ℕ). (view_cell (cell_kind k) (c / 256) (queue [] none)).final) q)

  fits : {k : ℕ} → c % 256 ≡ k → either (datum_fits (cell_kind k) (c / 256)) true (last_fits (cell_kind k) (c / 256)) ≡ true
  unfolding is_item is_datum is_last
  fits q = subst (λ (k : ℕ). either (datum_fits (cell_kind k) (c / 256)) true (last_fits (cell_kind k) (c / 256)) ≡ true) q item

  -- the answer means what the cell says, and is within the limits
  abbrev pub Says : Option Last → Type 0
  Says l = (l ≡ last_in c) × (last_within l ≡ true)

  pub split_ends_is : c % 256 ≡ 3 → (c / 256 % 256 < end_count) × (c / 256 / 256 < end_count)
  split_ends_is q =
      let p = ltb (c / 256 % 256) end_count in
      let r = ltb (c / 256 / 256) end_count in
      (ltb-true (c / 256 % 256) end_count (left_of p r (fits q)), ltb-true (c / 256 / 256) end_count (right_of p r (fits q)))

  pub says_split : c % 256 ≡ 3 → {p q : ℕ} → p ≡ c / 256 % 256 → q ≡ c / 256 / 256 → Says (some (split_item p q))
  unfolding view_cell last_within
  says_split k e f =
      let l : some (split_item _ _) ≡ some (split_item (c / 256 % 256) (c / 256 / 256)) = λ i. some (split_item (e i) (f i)) in
      (l ∙ says k, ap last_within l ∙ fits k)

  pub says_close : c % 256 ≡ 4 → Says (some close_item)
  unfolding view_cell last_within
  says_close k = (says k, refl)

  pub wait_record : c % 256 ≡ 5 → c / 256 < record_count
  wait_record k = ltb-true (c / 256) record_count (fits k)

  pub says_wait : c % 256 ≡ 5 → {r : ℕ} → r ≡ c / 256 → Says (some (wait_item r))
  unfolding view_cell last_within
  says_wait k e =
      let l : some (wait_item _) ≡ some (wait_item (c / 256)) = λ i. some (wait_item (e i)) in
      (l ∙ says k, ap last_within l ∙ fits k)

  pub says_nothing : (c % 256 ≡ 3 → ⊥) → (c % 256 ≡ 4 → ⊥) → (c % 256 ≡ 5 → ⊥) → Says none
  unfolding view_cell last_within
  says_nothing three four five = go (c % 256) refl
    where
      go : (k : ℕ) → c % 256 ≡ k → Says none
      go zero q = (says q, refl)
      go (suc zero) q = (says q, refl)
      go (suc (suc zero)) q = (says q, refl)
      go (suc (suc (suc zero))) q = absurd (three q)
      go (suc (suc (suc (suc zero)))) q = absurd (four q)
      go (suc (suc (suc (suc (suc zero))))) q = absurd (five q)
      go (suc (suc (suc (suc (suc (suc k)))))) q = (says q, refl)

-- ---- an end of the memory

module _ (m : List ℕ) (e : ℕ) (h : e < end_count) (t : end_test m e ≡ true) where
  abbrev count : ℕ
  count = get_or m (counts_at + e) 0

  abbrev partner : ℕ
  partner = get_or m (partners_at + e) 0

  -- the test of an end that is free, and of one in use
  free_test : free_in m e ≡ true → count ≡ 0
  unfolding end_test canonical_end
  free_test f =
      let k = subst (λ (b : Bool). canonical_end b partner count (queue_part m e) ≡ true) f t in
      eqb-true count 0 (all_true_read _ k).1.0

  used_test : free_in m e ≡ false → (count ≤ queue_depth) × (canonical_cells (take count (cells_in (queue_part m e))) ≡ true)
  unfolding end_test canonical_end canonical_queue
  used_test f =
      let k = all_true_read _ (subst (λ (b : Bool). canonical_end b partner count (queue_part m e) ≡ true) f t) in
      (leb-true count queue_depth k.0, k.1.0)

  pub count_few : count ≤ queue_depth
  count_few = go (free_in m e) refl
    where
      go : (b : Bool) → free_in m e ≡ b → count ≤ queue_depth
      go true f = omega (arith, free_test f)
      go false f = (used_test f).0

  -- nothing is queued
  pub last_none : count ≡ 0 → none ≡ last_of (end_at (view m) e)
  unfolding view_queue view_cells
  last_none z = go (free_in m e) refl
    where
      go : (b : Bool) → free_in m e ≡ b → none ≡ last_of (end_at (view m) e)
      go true f = sym (ap last_of (free_shown m e h f))
      go false f = sym (ap last_of (used_shown m e h f) ∙ rw z)

  -- something is: the end is in use, and its last cell holds an item
  pub last_some : (count ≡ 0 → ⊥) → {cell : ℕ} → cell ≡ number_at cell_size m (queues_at + queue_size * e + cell_size * (count - 1))
      → (last_in cell ≡ last_of (end_at (view m) e)) × (is_item cell ≡ true)
  unfolding view_queue cells_in
  last_some z {cell} r = go (free_in m e) refl
    where
      at : ℕ
      at = queues_at + queue_size * e

      go : (b : Bool) → free_in m e ≡ b → (last_in cell ≡ last_of (end_at (view m) e)) × (is_item cell ≡ true)
      go true f = absurd (z (free_test f))
      go false f =
          let bytes = queue_part m e in
          let u = used_test f in
          let few = u.0 in
          let cs = take count (cells_in bytes) in
          let long : length cs ≡ suc (count - 1) = length-take-le count (cells_in bytes) (omega (arith, length_cells bytes))
          ∙ omega arith in
          let i : count - 1 < count = omega arith in
          let same : get_or cs (count - 1) 0 ≡ cell =
          get_or-take count (cells_in bytes) (count - 1) 0 i ∙ cell_at bytes (count - 1) (omega arith)
          ∙ sym (number_in cell_size m at queue_size (cell_size * (count - 1)) (omega arith)) ∙ sym r in
          let k = final_is cs (count - 1) u.1 long in (
            ap last_in (sym same) ∙ sym k.0 ∙ sym (ap last_of (used_shown m e h f)),
            subst (λ (c : ℕ). is_item c ≡ true) same k.1,
          )
