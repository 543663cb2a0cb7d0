-- S2 on bytes: what the test of an end's partner reads, for any bytes. Assumes nothing.
use mathlib.Core.Path.{◌≡◌, sym, ap, ◌∙◌}
use mathlib.Core.Bool.{Bool, true, false, not}
use mathlib.Core.List.{List}
use Prim.Native.Nat.{ℕ, ◌+◌, ◌≤◌, ◌<◌}
use native.Mathlib.Omega.{arith}
use lib.ListN.{length, get_or, get_or-eq_default}
use lib.Dec.{eqb}
use borrow.Author.Tests.{eq-eqb, ne_eqb}
use Rattle.rules.specs.Limits.{end_count}
use Rattle.rules.specs.Bytes.{number_at}
use Rattle.rules.specs.State.{EndState, free_end, used, end_at, partner_of}
use Rattle.rules.specs.Slots.{in_set}
use Rattle.rules.specs.Causes.{names}
use Rattle.rules.specs.EndStep.{only_if}
use Rattle.rules.specs.SoundTest.{paired_in, paired_test}
use Rattle.rules.specs.Layout.{free_size, free_at, partners_at, counts_at, view_queue, view_end, view}
use Rattle.canonical.specs.Canonical.{free_in, queue_part}
use Rattle.canonical.proofs.Shown.{ends_shown, end_shown}

-- the bit that was read is the end's
pub free_is : (m : List ℕ) (e : ℕ) {word : ℕ} {b : Bool} → word ≡ number_at free_size m free_at → b ≡ in_set word e → b ≡ free_in m e
free_is m e w f = f ∙ ap (λ (k : ℕ). in_set k e) w

module _ (m : List ℕ) (e : ℕ) (h : e < end_count) where
  pub free_shown : free_in m e ≡ true → end_at (view m) e ≡ free_end
  unfolding view_end
  free_shown f = end_shown m e h ∙ rw f

  pub used_shown : free_in m e ≡ false
      → end_at (view m) e
      ≡ used (get_or m (partners_at + e) 0) (view_queue (get_or m (counts_at + e) 0) (queue_part m e)).queued
      (view_queue (get_or m (counts_at + e) 0) (queue_part m e)).final
  unfolding view_end
  used_shown f = end_shown m e h ∙ rw f

  pub paired_free : free_in m e ≡ true → true ≡ paired_test (view m) e
  unfolding paired_test paired_in
  paired_free f = sym (ap (paired_in (view m) e) (free_shown f))

-- an end in use, with the partner that was read
module _ (m : List ℕ) (e : ℕ) (h : e < end_count) (f : free_in m e ≡ false) {p : ℕ} (q : p ≡ get_or m (partners_at + e) 0) where
  paired_used : paired_test (view m) e ≡ only_if (not (eqb p e)) (names (partner_of (end_at (view m) p)) e)
  unfolding paired_test paired_in
  paired_used =
      ap (paired_in (view m) e) (used_shown m e h f)
      ∙ ap (λ (k : ℕ). only_if (not (eqb k e)) (names (partner_of (end_at (view m) k)) e)) (sym q)

  pub paired_itself : p ≡ e → false ≡ paired_test (view m) e
  paired_itself s = sym (paired_used ∙ rw (eq-eqb p e s))

  module _ (s : p ≡ e → ⊥) where
    paired_with : (x : EndState) → end_at (view m) p ≡ x → names (partner_of x) e ≡ paired_test (view m) e
    paired_with x g = sym (paired_used ∙ rw (ne_eqb p e s, g))

    pub paired_over : end_count ≤ p → false ≡ paired_test (view m) e
    paired_over l =
        let past : length (view m).ends ≤ p = omega (arith, ends_shown m) in
        paired_with free_end (get_or-eq_default (view m).ends free_end past)

    pub paired_to_free : p < end_count → free_in m p ≡ true → false ≡ paired_test (view m) e
    paired_to_free k g = paired_with free_end (free_shown m p k g)

    pub paired_back : p < end_count → free_in m p ≡ false → eqb (get_or m (partners_at + p) 0) e ≡ paired_test (view m) e
    paired_back k g = paired_with _ (used_shown m p k g)
