-- S4 on bytes: what a last item adds to the count of each record, and the test of a record from its count. Assumes nothing.
use mathlib.Core.Path.{◌≡◌, sym, ap, ◌∙◌}
use mathlib.Core.Bool.{true}
use mathlib.Core.List.{List}
use lib.ListN.{take}
use Prim.Native.Nat.{ℕ, ◌+◌, ◌≤◌, ◌<◌}
use lib.Dec.{eqb}
use borrow.Author.Tests.{ltb-true}
use Rattle.rules.specs.Limits.{record_count, end_count}
use Rattle.rules.specs.Count.{δ, total}
use Rattle.rules.specs.State.{State, end_at, last_of, record_at}
use Rattle.rules.specs.Sound.{named_by_last, named_by, waits_naming, is_waiting}
use Rattle.rules.specs.Numbers.{record_number}
use Rattle.rules.specs.declared.Record.{Record}
use Rattle.rules.specs.SoundTest.{last_within, waits_test}
use Rattle.rules.specs.Layout.{view}
use Rattle.std.specs.Prelude.{Option as Maybe, Some}
use Rattle.soundness.specs.declared.lasts.Last.{Last}
use Rattle.soundness.specs.declared.lasts.Last.TheVariants.{Wait}
use Rattle.soundness.specs.Lasts.{last_meaning}
use Rattle.soundness.proofs.Counting.{total_nil}
use Rattle.soundness.proofs.Standing.{lasts_more, lasts_all}

-- ---- a last item, as the code has it

module _ {l : Maybe Last} {r : Record} (is : l ≡ Some (Wait r)) where
  pub wait_within : last_within (last_meaning l) ≡ true → record_number r < record_count
  unfolding last_within
  wait_within w = ltb-true (record_number r) record_count (ap (λ (x : Maybe Last). last_within (last_meaning x)) (sym is) ∙ w)

  pub wait_names : {a : ℕ} → a ≡ record_number r → (k : ℕ) → δ k a ≡ named_by_last k (last_meaning l)
  wait_names c k = ap (δ k) c ∙ sym (ap (λ (x : Maybe Last). named_by_last k (last_meaning x)) is)

-- ---- a memory

-- how many waits of the first e queues name record r
abbrev pub named_first : (m : List ℕ) (e r : ℕ) → ℕ
named_first m e r = total (named_by r) (take e (view m).ends)

module _ (m : List ℕ) where
  pub named_none : (r : ℕ) → named_first m 0 r ≡ 0
  named_none r = total_nil (named_by r)

  pub named_more : (e : ℕ) → e < end_count → (r : ℕ)
      → named_first m e r + named_by_last r (last_of (end_at (view m) e)) ≡ named_first m (e + 1) r
  named_more e h r = lasts_more m (named_by_last r) e h

  pub named_all : (e : ℕ) → end_count ≤ e → (r : ℕ) → named_first m e r ≡ waits_naming (view m) r
  unfolding waits_naming
  named_all e h r = lasts_all m (named_by_last r) e h

-- the test of a record, from its count
pub waits_test_lem : (st : State) (r : ℕ) {n : ℕ} → n ≡ waits_naming st r → eqb n (is_waiting (record_at st r)) ≡ waits_test st r
unfolding waits_test
waits_test_lem st r q = ap (λ (k : ℕ). eqb k (is_waiting (record_at st r))) q
