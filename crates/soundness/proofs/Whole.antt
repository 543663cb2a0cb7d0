-- S1 to S5 together: bytes that fail S1 are not those of a sound state, and of bytes that pass it S2 to S5 decide. Assumes nothing.
use mathlib.Core.Path.{◌≡◌, refl, sym, ◌∙◌}
use mathlib.Core.Bool.{Bool, true, false, ◌&&◌}
use mathlib.Core.List.{List, [], ◌∷◌}
use Prim.Native.Nat.{ℕ}
use lib.ListN.{length}
use Rattle.rules.specs.Limits.{record_count, end_count}
use Rattle.rules.specs.SoundTest.{every, all_true, within, paired_test, places_test, waits_test, stands_test, sound_test}
use Rattle.rules.specs.Layout.{state_size, view}
use Rattle.rules.specs.Calls.{sound_bytes}
use Rattle.rules.proofs.TestLaws.{true_is_not_false, both, left_of, right_of}
use Rattle.rules.proofs.SoundLaws.{sound_of_test, test_of_sound}
use Rattle.words.specs.Parts.{Bytes}
use Rattle.keeping.proofs.Memories.{memory_of_test, test_of_memory}
use Rattle.canonical.specs.Canonical.{canonical_bytes}
use Rattle.canonical.proofs.Memory.{canonical_from, canonical_to}
use Rattle.canonical.proofs.Tests.{same_test, fails}

-- S2 to S5 of the state that a memory shows
abbrev pub beyond : List ℕ → List Bool
beyond m =
    every (paired_test (view m)) end_count
    ∷ every (places_test (view m)) end_count
    ∷ every (waits_test (view m)) record_count
    ∷ every (stands_test (view m)) end_count
    ∷ []

-- a test of the state that it shows
abbrev Shown : List ℕ → Type 0
Shown m = (within (view m) ≡ true) × (all_true (beyond m) ≡ true)

shown_from : (m : List ℕ) → sound_test (view m) ≡ true → Shown m
unfolding sound_test all_true
shown_from m h =
    let rest = all_true (beyond m) in
    (left_of (within (view m)) rest h, right_of (within (view m)) rest h)

shown_to : (m : List ℕ) → Shown m → sound_test (view m) ≡ true
unfolding sound_test all_true
shown_to m h = both h.0 h.1

joined : (a b c d : Bool) → (a && (b && (c && d))) ≡ all_true (a ∷ b ∷ c ∷ d ∷ [])
unfolding all_true
joined true true true true = refl
joined true true true false = refl
joined true true false d = refl
joined true false c d = refl
joined false b c d = refl

module _ (m : List ℕ) (b : Bytes m) (l : length m ≡ state_size) where
  pub not_sound : canonical_bytes m ≡ false → false ≡ sound_bytes m
  not_sound f = sym (fails (sound_bytes m) (λ h. true_is_not_false (passes h) f))
    where
      passes : sound_bytes m ≡ true → canonical_bytes m ≡ true
      passes h =
          let s = memory_of_test m h in
          canonical_to m b l (sym s.laid_out, (shown_from m (test_of_sound (view m) s.state_sound)).0)

  pub beyond_decides : canonical_bytes m ≡ true → all_true (beyond m) ≡ sound_bytes m
  beyond_decides t = same_test (all_true (beyond m)) (sound_bytes m) to from
    where
      to : all_true (beyond m) ≡ true → sound_bytes m ≡ true
      to h =
          let c = canonical_from m b l t in
          test_of_memory m (record { state_sound = sound_of_test (view m) (shown_to m (c.1, h)); laid_out = sym c.0 })

      from : sound_bytes m ≡ true → all_true (beyond m) ≡ true
      from h = (shown_from m (test_of_sound (view m) (memory_of_test m h).state_sound)).1

  -- the five tests, one behind the other
  pub sound_is : (canonical_bytes m
      && (every (paired_test (view m)) end_count
      && (every (places_test (view m)) end_count
      && (every (waits_test (view m)) record_count && every (stands_test (view m)) end_count))))
      ≡ sound_bytes m
  sound_is = go (canonical_bytes m) refl
    where
      go : (t : Bool) → canonical_bytes m ≡ t
          → (t
          && (every (paired_test (view m)) end_count
          && (every (places_test (view m)) end_count
          && (every (waits_test (view m)) record_count && every (stands_test (view m)) end_count))))
          ≡ sound_bytes m
      go true e = joined _ _ _ _ ∙ beyond_decides e
      go false e = not_sound e
