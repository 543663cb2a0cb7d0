-- A record's bytes: they pass `canonical_record` exactly if they are what the record that they show is written to, and that record is within
-- the limits (`record_from`, `record_to`). Assumes nothing.
use mathlib.Core.Path.{◌≡◌, refl, sym, ap, ◌∙◌, subst}
use mathlib.Core.Bool.{true}
use mathlib.Core.Option.{none}
use mathlib.Core.List.{List, [], ◌∷◌, ◌++◌, map}
use Prim.Native.Nat.{ℕ, zero, suc, ◌+◌, ◌-◌, ◌*◌, ◌≤◌}
use native.Mathlib.Omega.{arith}
use lib.ListN.{length, get_or, take, drop, length-drop, length-map}
use lib.Seq.{length-take-le, take_all, take_at, drop_at, drop-cons, drop-drop}
use lib.Dec.{eqb, leb}
use lib.IntN.{pos}
use lib.Signed.{mag}
use mir.Syntax.{w32}
use mir.Val.{Fits}
use mir.Facts.{of_z-to_z, sfits_to_z}
use borrow.Author.Tests.{lt-ltb, le-leb, lt-leb, leb-true, eq-eqb, ne_eqb}
use Rattle.rules.specs.Limits.{end_count, slot_count, stack_depth, environment_depth, place_count, value_bound}
use Rattle.rules.specs.Bytes.{bytes_of, number_at, flat, pad, pieces}
use Rattle.rules.specs.State.{Value, Registers, free_record}
use Rattle.rules.specs.EndStep.{only_if}
use Rattle.rules.specs.SoundTest.{all, value_within, slot_within, registers_within, record_within}
use Rattle.rules.specs.Layout.{value_size, record_size, optional, value_bytes, registers_bytes, no_registers, record_bytes, view_optional}
use Rattle.rules.specs.Layout.{view_value, view_values, view_registers, view_status, view_record}
use Rattle.rules.proofs.TestLaws.{both, all_true_read, all_true_write, true_is_not_false}
use Rattle.words.specs.Parts.{Bytes}
use Rattle.words.proofs.Numbers.{bytes_number}
use Rattle.words.proofs.Pads.{length_pad, pad_same}
use Rattle.words.proofs.Pieces.{length_flat, length_pieces}
use Rattle.keeping.proofs.LayoutLaws.{length_value}
use Rattle.canonical.specs.Canonical.{part, all_zero, either, slots_from, stack_from, environment_from, slot_fits, canonical_registers}
use Rattle.canonical.specs.Canonical.{canonical_record}
use Rattle.canonical.proofs.Bytes.{bytes_take, bytes_drop, number_fits, length_part, cut_at}
use Rattle.canonical.proofs.Padding.{all_zero_read, all_zero_write, cells_from, cells_to}

-- ---- values

value_fits : (p : List ℕ) → Bytes p → Fits w32 (number_at value_size p 0)
value_fits p b = record { fits = number_fits value_size p 0 b }

value_bytes_lem : (p : List ℕ) → Bytes p → length p ≡ value_size → value_bytes (view_value p) ≡ p
unfolding value_bytes view_value
value_bytes_lem p b l =
    ap (bytes_of value_size) (of_z-to_z {w = w32} {n = number_at value_size p 0} (value_fits p b))
    ∙ bytes_number value_size p 0 b (omega arith)
    ∙ take_all value_size p (omega arith)

zero_value : value_bytes (pos 0) ≡ pad value_size 0 []
unfolding value_bytes pad
zero_value = refl

values_within : (n k : ℕ) (m : List ℕ) → Bytes m → all value_within (view_values n k m) ≡ true
unfolding view_values all pieces value_within view_value
values_within zero zero m b = refl
values_within zero (suc k) m b = refl
values_within (suc n) zero m b = refl
values_within (suc n) (suc k) m b =
    let within = (sfits_to_z {w = w32} {n = number_at value_size (take value_size m) 0}
    (value_fits (take value_size m) (bytes_take value_size m b))).sfits in
    both (lt-ltb (mag (view_value (take value_size m))) value_bound within)
    (values_within n k (drop value_size m) (bytes_drop value_size m b))

length_view : (n k : ℕ) (m : List ℕ) → k ≤ n → length (view_values n k m) ≡ k
unfolding view_values
length_view n k m h =
    let cells = map view_value (pieces n value_size m) in
    length-take-le k cells (omega (arith, length-map (pieces n value_size m) view_value, length_pieces n value_size m))

-- n cells of values from a place of the record on, of which k are in use
module _ (from n to : ℕ) (e : from + value_size * n ≡ to) (p : List ℕ) (b : Bytes p) (fits : to ≤ length p) (k : ℕ) (h : k ≤ n) where
  behind_is : take (value_size * (n - k)) (drop (value_size * k) (drop from p)) ≡ part (from + value_size * k) to p
  behind_is =
      let l : value_size * (n - k) ≡ to - (from + value_size * k) = omega arith in
      ap (take (value_size * (n - k))) (drop-drop (value_size * k) from p) ∙ ap (λ (i : ℕ). take i (drop (from + value_size * k) p)) l

  fits_behind : value_size * n ≤ length (drop from p)
  fits_behind = rw (length-drop from p) (omega arith)

  values_from : all_zero (part (from + value_size * k) to p) ≡ true
      → flat value_bytes (pad n (pos 0) (view_values n k (drop from p))) ≡ take (value_size * n) (drop from p)
  unfolding view_values
  values_from z = cells_from value_bytes value_size (pos 0) zero_value view_value value_bytes_lem k (n - k) n (omega arith) (drop from p)
      (bytes_drop from p b) fits_behind (rw behind_is z)

  values_to : flat value_bytes (pad n (pos 0) (view_values n k (drop from p))) ≡ take (value_size * n) (drop from p)
      → all_zero (part (from + value_size * k) to p) ≡ true
  unfolding view_values
  values_to q =
      subst (λ (r : List ℕ). all_zero r ≡ true) behind_is
      (cells_to value_bytes value_size (pos 0) zero_value view_value value_bytes_lem k (n - k) n (omega arith) (drop from p)
      (bytes_drop from p b) fits_behind q)

-- ---- slots

slots_within : (l : List ℕ) → all slot_within (map view_optional l) ≡ all slot_fits l
unfolding all slot_within view_optional
slots_within [] = refl
slots_within (zero ∷ l) = slots_within l
slots_within (suc b ∷ l) = ap (only_if (leb (suc b) end_count)) (slots_within l)

slots_back : (l : List ℕ) → map optional (map view_optional l) ≡ l
unfolding view_optional
slots_back [] = refl
slots_back (zero ∷ l) = ap (λ (r : List ℕ). zero ∷ r) (slots_back l)
slots_back (suc b ∷ l) = ap (λ (r : List ℕ). suc b ∷ r) (slots_back l)

slots_bytes : (l : List ℕ) → length l ≡ slot_count → map optional (pad slot_count none (map view_optional l)) ≡ l
slots_bytes l h = ap (map optional) (pad_same slot_count none (map view_optional l) (length-map l view_optional ∙ h)) ∙ slots_back l

-- ---- a record in use

-- the record's bytes by their parts
record_parts : (p : List ℕ) → length p ≡ record_size
    → p ≡ get_or p 0 0 ∷ (take 2 (drop 1 p) ++ (get_or p 3 0 ∷ get_or p 4 0 ∷ (take slot_count (drop slots_from p)
    ++ (take (value_size * stack_depth) (drop stack_from p) ++ take (value_size * environment_depth) (drop environment_from p)))))
record_parts p l =
    let a : p ≡ get_or p 0 0 ∷ drop 1 p = drop-cons p 0 0 (omega arith) in
    let b : drop 1 p ≡ take 2 (drop 1 p) ++ drop 3 p = cut_at 1 2 p in
    let c : drop 3 p ≡ get_or p 3 0 ∷ drop 4 p = drop-cons p 3 0 (omega arith) in
    let d : drop 4 p ≡ get_or p 4 0 ∷ drop 5 p = drop-cons p 4 0 (omega arith) in
    let f : drop slots_from p ≡ take slot_count (drop slots_from p) ++ drop stack_from p = cut_at slots_from slot_count p in
    let g : drop stack_from p ≡ take (value_size * stack_depth) (drop stack_from p) ++ drop environment_from p =
    cut_at stack_from (value_size * stack_depth) p in
    let h : drop environment_from p ≡ take (value_size * environment_depth) (drop environment_from p) =
    sym (take_all (value_size * environment_depth) (drop environment_from p) (rw (length-drop environment_from p) (omega arith))) in
    let rest = g ∙ ap (λ (r : List ℕ). take (value_size * stack_depth) (drop stack_from p) ++ r) h in
    let slots = f ∙ ap (λ (r : List ℕ). take slot_count (drop slots_from p) ++ r) rest in
    let counts = c ∙ ap (λ (r : List ℕ). get_or p 3 0 ∷ r) (d ∙ ap (λ (r : List ℕ). get_or p 4 0 ∷ r) slots) in
    a ∙ ap (λ (r : List ℕ). get_or p 0 0 ∷ r) (b ∙ ap (λ (r : List ℕ). take 2 (drop 1 p) ++ r) counts)

-- the stack and the environment of a record that was written
module _ (s : ℕ) (g : Registers) where
  slots_long : length (map optional (pad slot_count none g.slots)) ≡ slot_count
  slots_long = length-map (pad slot_count none g.slots) optional ∙ length_pad slot_count none g.slots

  cells_long : (n : ℕ) (vs : List Value) → length (flat value_bytes (pad n (pos 0) vs)) ≡ value_size * n
  cells_long n vs = length_flat value_bytes value_size length_value (pad n (pos 0) vs)
      ∙ ap (λ (k : ℕ). value_size * k) (length_pad n (pos 0) vs)

  stack_part : take (value_size * stack_depth) (drop stack_from (s ∷ registers_bytes g)) ≡ flat value_bytes
      (pad stack_depth (pos 0) g.stack)
  unfolding registers_bytes
  stack_part =
      let slots = map optional (pad slot_count none g.slots) in
      let stack = flat value_bytes (pad stack_depth (pos 0) g.stack) in
      let environment = flat value_bytes (pad environment_depth (pos 0) g.environment) in
      ap (take (value_size * stack_depth)) (drop_at slots (stack ++ environment) slot_count slots_long)
      ∙ take_at stack environment (value_size * stack_depth) (cells_long stack_depth g.stack)

  environment_part : take (value_size * environment_depth) (drop environment_from (s ∷ registers_bytes g))
      ≡ flat value_bytes (pad environment_depth (pos 0) g.environment)
  unfolding registers_bytes
  environment_part =
      let slots = map optional (pad slot_count none g.slots) in
      let stack = flat value_bytes (pad stack_depth (pos 0) g.stack) in
      let environment = flat value_bytes (pad environment_depth (pos 0) g.environment) in
      ap (take (value_size * environment_depth)) (sym (drop-drop (value_size * stack_depth) slot_count (slots ++ (stack ++ environment)))
      ∙ ap (drop (value_size * stack_depth)) (drop_at slots (stack ++ environment) slot_count slots_long)
      ∙ drop_at stack environment (value_size * stack_depth) (cells_long stack_depth g.stack))
      ∙ take_all (value_size * environment_depth) environment (omega (arith, cells_long environment_depth g.environment))

module _ (p : List ℕ) (b : Bytes p) (l : length p ≡ record_size) where
  registers_from : canonical_registers p ≡ true → get_or p 0 0 ∷ registers_bytes (view_registers p) ≡ p
  unfolding canonical_registers registers_bytes view_registers
  registers_from h =
      let t = all_true_read _ h in
      let few = leb-true (get_or p 3 0) stack_depth t.0 in
      let few_bound = leb-true (get_or p 4 0) environment_depth t.1.0 in
      let stack = values_from stack_from stack_depth environment_from refl p b (omega arith) (get_or p 3 0) few t.1.1.1.0 in
      let environment = values_from environment_from environment_depth record_size refl p b (omega arith) (get_or p 4 0) few_bound
      t.1.1.1.1.0 in
      let slots = slots_bytes (take slot_count (drop slots_from p)) (length_part slots_from slot_count p (omega arith)) in
      let place = bytes_number 2 p 1 b (omega arith) in
      let stacked = length_view stack_depth (get_or p 3 0) (drop stack_from p) few in
      let bound = length_view environment_depth (get_or p 4 0) (drop environment_from p) few_bound in
      (λ i. get_or p 0 0 ∷ (place i ++ (stacked i ∷ bound i ∷ (slots i ++ (stack i ++ environment i))))) ∙ sym (record_parts p l)

  registers_within_lem : canonical_registers p ≡ true → registers_within (view_registers p) ≡ true
  unfolding canonical_registers registers_within view_registers
  registers_within_lem h =
      let t = all_true_read _ h in
      let few = leb-true (get_or p 3 0) stack_depth t.0 in
      let few_bound = leb-true (get_or p 4 0) environment_depth t.1.0 in
      let slots = take slot_count (drop slots_from p) in
      let g = view_registers p in
      all_true_write _ (
        lt-ltb g.place place_count (number_fits 2 p 1 b),
        (
          le-leb (length g.stack) stack_depth (omega (arith, length_view stack_depth (get_or p 3 0) (drop stack_from p) few)),
          (
            le-leb (length g.environment) environment_depth
                (omega (arith, length_view environment_depth (get_or p 4 0) (drop environment_from p) few_bound)),
            (
              values_within stack_depth (get_or p 3 0) (drop stack_from p) (bytes_drop stack_from p b),
              (
                values_within environment_depth (get_or p 4 0) (drop environment_from p) (bytes_drop environment_from p b),
                (
                  eq-eqb (length g.slots) slot_count (length-map slots view_optional ∙ length_part slots_from slot_count p (omega arith)),
                  (slots_within slots ∙ t.1.1.0, tt),
                ),
              ),
            ),
          ),
        ),
      )

  registers_to : (s : ℕ) → s ∷ registers_bytes (view_registers p) ≡ p → registers_within (view_registers p) ≡ true
      → canonical_registers p ≡ true
  unfolding canonical_registers registers_within registers_bytes view_registers
  registers_to s e h =
      let t = all_true_read _ h in
      let g = view_registers p in
      let stacked : length g.stack ≡ get_or p 3 0 = ap (λ (r : List ℕ). get_or r 3 0) e in
      let bound : length g.environment ≡ get_or p 4 0 = ap (λ (r : List ℕ). get_or r 4 0) e in
      let few : get_or p 3 0 ≤ stack_depth = omega (arith, leb-true (length g.stack) stack_depth t.1.0) in
      let few_bound : get_or p 4 0 ≤ environment_depth = omega (arith, leb-true (length g.environment) environment_depth t.1.1.0) in
      let stack = sym (stack_part s g) ∙ ap (λ (r : List ℕ). take (value_size * stack_depth) (drop stack_from r)) e in
      let environment = sym (environment_part s g)
      ∙ ap (λ (r : List ℕ). take (value_size * environment_depth) (drop environment_from r)) e in
      all_true_write _ (
        le-leb (get_or p 3 0) stack_depth few,
        (
          le-leb (get_or p 4 0) environment_depth few_bound,
          (
            sym (slots_within (take slot_count (drop slots_from p))) ∙ t.1.1.1.1.1.1.0,
            (
              values_to stack_from stack_depth environment_from refl p b (omega arith) (get_or p 3 0) few stack,
              (
                values_to environment_from environment_depth record_size refl p b (omega arith) (get_or p 4 0) few_bound environment,
                tt,
              ),
            ),
          ),
        ),
      )

  -- ---- any record, by its status

  shows : {s : ℕ} → get_or p 0 0 ≡ s → view_record p ≡ view_status s (view_registers p)
  unfolding view_record
  shows q = ap (λ (k : ℕ). view_status k (view_registers p)) q

  tests : {s : ℕ} → get_or p 0 0 ≡ s → canonical_record p ≡ either (eqb s 0) (all_zero p) (only_if (leb s 2) (canonical_registers p))
  unfolding canonical_record
  tests q = ap (λ (k : ℕ). either (eqb k 0) (all_zero p) (only_if (leb k 2) (canonical_registers p))) q

  all_zero_lem : record_bytes free_record ≡ pad record_size 0 []
  unfolding record_bytes registers_bytes no_registers pad flat value_bytes
  all_zero_lem = refl

  -- written again, the record that the bytes show is these bytes, and it is within the limits
  abbrev pub RecordSame : Type 0
  RecordSame = (record_bytes (view_record p) ≡ p) × (record_within (view_record p) ≡ true)

  pub record_from : canonical_record p ≡ true → RecordSame
  unfolding view_status record_bytes record_within
  record_from h = go (get_or p 0 0) refl
    where
      go : (s : ℕ) → get_or p 0 0 ≡ s → RecordSame
      go zero q =
          let free = all_zero_read p (sym (tests q) ∙ h) ∙ ap (λ (k : ℕ). pad k 0 []) l in
          rw (shows q) (all_zero_lem ∙ sym free, refl)
      go (suc zero) q =
          let t = sym (tests q) ∙ h in
          rw (shows q) (ap (λ (k : ℕ). k ∷ registers_bytes (view_registers p)) (sym q) ∙ registers_from t, registers_within_lem t)
      go (suc (suc zero)) q =
          let t = sym (tests q) ∙ h in
          rw (shows q) (ap (λ (k : ℕ). k ∷ registers_bytes (view_registers p)) (sym q) ∙ registers_from t, registers_within_lem t)
      go (suc (suc (suc n))) q =
          let s : ℕ = suc (suc (suc n)) in
          let used = ne_eqb s 0 (λ z. absurd (omega arith)) in
          let over = lt-leb s 2 (omega arith) in
          true_is_not_false (sym (tests q) ∙ h) (rw (used, over))

  pub record_to : RecordSame → canonical_record p ≡ true
  unfolding view_status record_bytes record_within
  record_to h = go (get_or p 0 0) refl
    where
      written : {s : ℕ} → get_or p 0 0 ≡ s → record_bytes (view_status s (view_registers p)) ≡ p
      written q = ap record_bytes (sym (shows q)) ∙ h.0

      within : {s : ℕ} → get_or p 0 0 ≡ s → record_within (view_status s (view_registers p)) ≡ true
      within q = ap record_within (sym (shows q)) ∙ h.1

      go : (s : ℕ) → get_or p 0 0 ≡ s → canonical_record p ≡ true
      go zero q = tests q ∙ subst (λ (r : List ℕ). all_zero r ≡ true) (sym all_zero_lem ∙ written q) (all_zero_write record_size)
      go (suc zero) q = tests q ∙ registers_to 1 (written q) (within q)
      go (suc (suc zero)) q = tests q ∙ registers_to 2 (written q) (within q)
      go (suc (suc (suc n))) q = absurd (let e = ap (λ (r : List ℕ). get_or r 0 0) (written q) ∙ q in omega arith)
