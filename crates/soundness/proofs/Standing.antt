-- S3 on bytes: what a slot, a record and a last item add to the count of each end. Assumes nothing.
use mathlib.Core.Path.{◌≡◌, refl, sym, ap, ◌∙◌}
use mathlib.Core.Bool.{Bool, true, false}
use mathlib.Core.Option.{Option, none, some}
use mathlib.Core.List.{List, map}
use Prim.Native.Nat.{ℕ, zero, suc, ◌+◌, ◌-◌, ◌≤◌, ◌<◌}
use native.Mathlib.Omega.{arith}
use native.Mathlib.Nat.{min-le_left}
use native.Mathlib.Decide.{ℕ_discrete}
use lib.ListN.{length, get_or, take, drop, length-map, length-take}
use lib.Seq.{length-take-le, take_all}
use lib.Dec.{eqb, leb, ltb}
use borrow.Author.Tests.{ne_eqb, ltb-true}
use Rattle.rules.specs.Limits.{record_count, end_count, slot_count}
use Rattle.rules.specs.Count.{δ, total}
use Rattle.rules.specs.Sound.{in_slot, held_in, in_last, carried_by, gives_up, given_up, in_use, places_of}
use Rattle.rules.specs.State as rules
use Rattle.rules.specs.State.{Registers, RecordState, free_record, EndState, free_end, split_item, close_item, wait_item, end_at, last_of}
use Rattle.rules.specs.Numbers.{end_number}
use Rattle.rules.specs.declared.End.{End}
use Rattle.rules.specs.SoundTest.{all, last_within, places_test}
use Rattle.rules.specs.Layout.{view_optional, view_registers, view_status, view_record, view}
use Rattle.rules.proofs.TestLaws.{every_at, left_of, right_of, all_true_read}
use Rattle.canonical.specs.Canonical.{part, free_in, slots_from, stack_from, slot_fits, canonical_registers, canonical_record, record_part}
use Rattle.canonical.specs.Canonical.{record_test, end_test, canonical_bytes}
use Rattle.canonical.proofs.Shown.{records_shown, record_shown, ends_shown}
use Rattle.std.specs.Prelude.{Option as Maybe, Some}
use Rattle.soundness.specs.declared.lasts.Last.{Last}
use Rattle.soundness.specs.declared.lasts.Last.TheVariants.{Split}
use Rattle.soundness.specs.Lasts.{last_meaning}
use Rattle.soundness.specs.Counts.{standing}
use Rattle.soundness.proofs.Partners.{free_shown, used_shown}
use Rattle.soundness.proofs.Counting.{total_nil, total_more, total_few, total_map, slot_few}

-- ---- slots

pub slot_empty : (s : ℕ) → s ≡ 0 → (e : ℕ) → in_slot e (view_optional s) ≡ 0
unfolding view_optional
slot_empty s z e = ap (λ (k : ℕ). in_slot e (view_optional k)) z

pub slot_held : (s : ℕ) {k : ℕ} → (s ≡ 0 → ⊥) → k ≡ s - 1 → (e : ℕ) → δ e k ≡ in_slot e (view_optional s)
unfolding view_optional
slot_held zero z q e = absurd (z refl)
slot_held (suc s) z q e = let p : suc s - 1 ≡ s = omega arith in ap (δ e) (q ∙ p)

-- in how many of the first c slots end e is
abbrev pub in_first : (slots : List ℕ) (c e : ℕ) → ℕ
in_first slots c e = total (in_slot e) (map view_optional (take c slots))

pub first_none : (slots : List ℕ) (e : ℕ) → in_first slots 0 e ≡ 0
unfolding total
first_none slots e = refl

pub first_more : (slots : List ℕ) (c : ℕ) → c < length slots → (e : ℕ)
    → in_first slots c e + in_slot e (view_optional (get_or slots c 0)) ≡ in_first slots (c + 1) e
first_more slots c h e =
    let f : ℕ → ℕ = λ (b : ℕ). in_slot e (view_optional b) in
    ap (λ (k : ℕ). k + f (get_or slots c 0)) (total_map (in_slot e) view_optional (take c slots))
    ∙ sym (total_more f slots c 0 h)
    ∙ sym (total_map (in_slot e) view_optional (take (c + 1) slots))

pub first_few : (slots : List ℕ) (c : ℕ) → c ≤ length slots → (e : ℕ) → in_first slots c e ≤ c
first_few slots c h e = omega (
  arith,
  total_few (in_slot e) 1 (slot_few e) (map view_optional (take c slots)),
  length-map (take c slots) view_optional,
  length-take-le c slots h,
)

-- ---- a record

held_status : (e s : ℕ) (g : Registers) → (s ≡ 0 → ⊥) → total (in_slot e) g.slots ≡ held_in e (view_status s g)
unfolding view_status
held_status e zero g z = absurd (z refl)
held_status e (suc zero) g z = refl
held_status e (suc (suc s)) g z = refl

module _ (p : List ℕ) where
  pub held_free : get_or p 0 0 ≡ 0 → (e : ℕ) → held_in e (view_record p) ≡ 0
  unfolding view_record view_status
  held_free z e = ap (λ (s : ℕ). held_in e (view_status s (view_registers p))) z

  pub held_used : (get_or p 0 0 ≡ 0 → ⊥) → (e : ℕ)
      → total (in_slot e) (map view_optional (part slots_from stack_from p)) ≡ held_in e (view_record p)
  unfolding view_record view_registers
  held_used z e = held_status e (get_or p 0 0) (view_registers p) z

  -- each slot of a record in use is empty or holds an end
  pub used_fits : (get_or p 0 0 ≡ 0 → ⊥) → canonical_record p ≡ true → all slot_fits (part slots_from stack_from p) ≡ true
  unfolding canonical_record canonical_registers
  used_fits z h =
      let s = get_or p 0 0 in
      let t = rw (ne_eqb s 0 z) at h in
      (all_true_read _ (right_of (leb s 2) (canonical_registers p) t)).1.1.0

  pub held_few : (e : ℕ) → held_in e (view_record p) ≤ slot_count
  held_few e = go (ℕ_discrete (get_or p 0 0) 0)
    where
      slots : List ℕ
      slots = part slots_from stack_from p

      go : Dec (get_or p 0 0 ≡ 0) → held_in e (view_record p) ≤ slot_count
      go (yes z) = omega (arith, held_free z e)
      go (no z) = omega (
        arith,
        held_used z e,
        total_few (in_slot e) 1 (slot_few e) (map view_optional slots),
        length-map slots view_optional,
        length-take slot_count (drop slots_from p),
        min-le_left slot_count (length (drop slots_from p)),
      )

-- ---- a memory

-- in how many slots of the first i records end e is
abbrev pub held_first : (m : List ℕ) (i e : ℕ) → ℕ
held_first m i e = total (held_in e) (take i (view m).records)

module _ (m : List ℕ) where
  pub held_none : (e : ℕ) → held_first m 0 e ≡ 0
  held_none e = total_nil (held_in e)

  pub held_more : (i : ℕ) → i < record_count → (e : ℕ)
      → held_first m i e + held_in e (view_record (record_part m i)) ≡ held_first m (i + 1) e
  held_more i h e =
      ap (λ (x : RecordState). held_first m i e + held_in e x) (sym (record_shown m i h))
      ∙ sym (total_more (held_in e) (view m).records i free_record (omega (arith, records_shown m)))

  pub held_all : (i : ℕ) → record_count ≤ i → (e : ℕ) → held_first m i e ≡ total (held_in e) (view m).records
  held_all i h e = ap (total (held_in e)) (take_all i (view m).records (omega (arith, records_shown m)))

  -- what the last items of the first e ends count, each f of it
  pub lasts_more : (f : Option rules.Last → ℕ) (e : ℕ) → e < end_count
      → total (λ (x : EndState). f (last_of x)) (take e (view m).ends) + f (last_of (end_at (view m) e))
      ≡ total (λ (x : EndState). f (last_of x)) (take (e + 1) (view m).ends)
  lasts_more f e h =
      sym (total_more (λ (x : EndState). f (last_of x)) (view m).ends e free_end (omega (arith, ends_shown m)))

  pub lasts_all : (f : Option rules.Last → ℕ) (e : ℕ) → end_count ≤ e
      → total (λ (x : EndState). f (last_of x)) (take e (view m).ends) ≡ total (λ (x : EndState). f (last_of x)) (view m).ends
  lasts_all f e h = ap (total (λ (x : EndState). f (last_of x))) (take_all e (view m).ends (omega (arith, ends_shown m)))

-- in how many slots, and in how many split items of the first e queues, end k is
abbrev pub standing_first : (m : List ℕ) (e k : ℕ) → ℕ
standing_first m e k = total (held_in k) (view m).records + total (carried_by k) (take e (view m).ends)

module _ (m : List ℕ) where
  pub standing_none : (k : ℕ) → total (held_in k) (view m).records ≡ standing_first m 0 k
  standing_none k = omega (arith, total_nil (carried_by k))

  pub standing_more : (e : ℕ) → e < end_count → (k : ℕ)
      → standing_first m e k + in_last k (last_of (end_at (view m) e)) ≡ standing_first m (e + 1) k
  standing_more e h k = omega (arith, lasts_more m (in_last k) e h)

  pub standing_all : (e : ℕ) → end_count ≤ e → (k : ℕ) → standing_first m e k ≡ standing (view m) k
  unfolding standing
  standing_all e h k = omega (arith, lasts_all m (in_last k) e h)

-- an end, with what its own queue's last item adds
module _ (m : List ℕ) (e : ℕ) (h : e < end_count) {given : ℕ} (g : given ≡ given_up (end_at (view m) e)) (n : ℕ) where
  pub once_free : free_in m e ≡ true → eqb (n + given) 0 ≡ eqb (n + given_up (end_at (view m) e)) (in_use (end_at (view m) e))
  once_free f =
      ap (λ (k : ℕ). eqb (n + k) 0) g ∙ ap (eqb (n + given_up (end_at (view m) e))) (sym (ap in_use (free_shown m e h f)))

  pub once_used : free_in m e ≡ false → eqb (n + given) 1 ≡ eqb (n + given_up (end_at (view m) e)) (in_use (end_at (view m) e))
  once_used f =
      ap (λ (k : ℕ). eqb (n + k) 1) g ∙ ap (eqb (n + given_up (end_at (view m) e))) (sym (ap in_use (used_shown m e h f)))

-- the test of an end, from its count
pub places_test_lem : (m : List ℕ) (e : ℕ) {n : ℕ} {b : Bool} → b ≡ eqb (n + given_up (end_at (view m) e)) (in_use (end_at (view m) e))
    → n ≡ standing (view m) e → b ≡ places_test (view m) e
unfolding places_test places_of standing
places_test_lem m e t q = t ∙ ap (λ (k : ℕ). eqb (k + given_up (end_at (view m) e)) (in_use (end_at (view m) e))) q

pub gives_few : (l : Option rules.Last) → gives_up l ≤ 1
gives_few none = omega arith
gives_few (some (split_item p q)) = omega arith
gives_few (some close_item) = omega arith
gives_few (some (wait_item r)) = omega arith

-- the pieces of canonical bytes
pub record_canonical : (m : List ℕ) → canonical_bytes m ≡ true → (i : ℕ) → i < record_count → canonical_record (record_part m i) ≡ true
unfolding canonical_bytes record_test
record_canonical m t i h = every_at (record_test m) record_count (all_true_read _ t).1.0 i h

pub end_canonical : (m : List ℕ) → canonical_bytes m ≡ true → (e : ℕ) → e < end_count → end_test m e ≡ true
unfolding canonical_bytes
end_canonical m t e h = every_at (end_test m) end_count (all_true_read _ t).1.1.0 e h

-- ---- a last item, as the code has it

module _ {l : Maybe Last} {p q : End} (is : l ≡ Some (Split p q)) where
  pub split_within : last_within (last_meaning l) ≡ true → (end_number p < end_count) × (end_number q < end_count)
  unfolding last_within
  split_within w =
      let t = ap (λ (x : Maybe Last). last_within (last_meaning x)) (sym is) ∙ w in
      let a = ltb (end_number p) end_count in
      let b = ltb (end_number q) end_count in
      (ltb-true (end_number p) end_count (left_of a b t), ltb-true (end_number q) end_count (right_of a b t))

  pub split_counts : {a b : ℕ} → a ≡ end_number p → b ≡ end_number q → (e : ℕ) → δ e a + δ e b ≡ in_last e (last_meaning l)
  split_counts c d e = (λ i. δ e (c i) + δ e (d i)) ∙ sym (ap (λ (x : Maybe Last). in_last e (last_meaning x)) is)
