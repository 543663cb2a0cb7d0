-- Memories: the test on bytes passes exactly if the bytes are the layout of a sound state (`memory_of_test`, `test_of_memory`), and the
-- layout of a sound state shows that state (`sound_layout`). Assumes nothing.
use mathlib.Core.Path.{◌≡◌, refl, sym, ap, ◌∙◌, subst}
use mathlib.Core.Bool.{Bool, true, false}
use mathlib.Core.Option.{Option, none, some}
use mathlib.Core.List.{List, [], ◌∷◌}
use Prim.Native.Nat.{ℕ}
use native.Mathlib.Omega.{arith}
use lib.ListN.{length}
use lib.Dec.{eqb}
use borrow.Author.Tests.{eqb-true, eq-eqb}
use Rattle.rules.specs.State.{State, Last, split_item, close_item, wait_item, end_at, last_of}
use Rattle.rules.specs.Sound.{in_last, named_by_last, Sound}
use Rattle.rules.specs.SoundTest.{sound_test}
use Rattle.rules.specs.Layout.{state_size, layout, view}
use Rattle.rules.specs.Calls.{same_bytes, sound_bytes}
use Rattle.rules.proofs.CountLaws.{δ-same}
use Rattle.rules.proofs.TestLaws.{true_is_not_false, both, left_of, right_of}
use Rattle.rules.proofs.SoundLaws.{sound_of_test, test_of_sound, carried_within, named_within}
use Rattle.keeping.specs.Demand3.{SoundMemory}
use Rattle.keeping.proofs.LayoutLaws.{Sized, length_layout}
use Rattle.keeping.proofs.ViewLaws.{LastFits, view_layout}

-- ---- bytes

same_bytes_lem : (xs ys : List ℕ) → same_bytes xs ys ≡ true → xs ≡ ys
unfolding same_bytes
same_bytes_lem [] [] h = refl
same_bytes_lem [] (y ∷ ys) h = true_is_not_false h refl
same_bytes_lem (x ∷ xs) [] h = true_is_not_false h refl
same_bytes_lem (x ∷ xs) (y ∷ ys) h = go (eqb x y) refl h (same_bytes_lem xs ys)
  where
    go : (b : Bool) → eqb x y ≡ b → elim b [ true ↦ same_bytes xs ys | false ↦ false ] ≡ true → (same_bytes xs ys ≡ true → xs ≡ ys) → x ∷ xs
        ≡ y ∷ ys
    go true q h f = λ i. eqb-true x y q i ∷ f h i
    go false q h f = true_is_not_false h refl

bytes_same : (xs : List ℕ) → same_bytes xs xs ≡ true
unfolding same_bytes
bytes_same [] = refl
bytes_same (x ∷ xs) = rw (eq-eqb x x refl, same_bytes) (bytes_same xs)

-- ---- the layout of a sound state

sound_sized : (st : State) → Sound st → Sized st
sound_sized st s = record { records_sized = s.S1.record_count_is; ends_sized = s.S1.end_count_is }

last_fits : (st : State) → Sound st → (e : ℕ) → LastFits (last_of (end_at st e))
last_fits st s e = go (last_of (end_at st e)) refl
  where
    go : (l : Option Last) → last_of (end_at st e) ≡ l → LastFits l
    go none q = tt
    go (some (split_item a b)) q = (
      omega (arith, carried_within st s e a (omega (arith, ap (in_last a) q, δ-same a))),
      omega (arith, carried_within st s e b (omega (arith, ap (in_last b) q, δ-same b))),
    )
    go (some close_item) q = tt
    go (some (wait_item r)) q = omega (arith, named_within st s e r (omega (arith, ap (named_by_last r) q, δ-same r)))

pub sound_view : (st : State) → Sound st → view (layout st) ≡ st
sound_view st s = view_layout st s.S1 (last_fits st s)

pub sound_length : (st : State) → Sound st → length (layout st) ≡ state_size
sound_length st s = length_layout st (sound_sized st s)

pub sound_layout : (st : State) → Sound st → SoundMemory (layout st)
sound_layout st s = record { state_sound = subst Sound (sym (sound_view st s)) s; laid_out = ap layout (sym (sound_view st s)) }

-- ---- the test on bytes

pub memory_of_test : (m : List ℕ) → sound_bytes m ≡ true → SoundMemory m
unfolding sound_bytes
memory_of_test m h =
    let same = left_of (same_bytes (layout (view m)) m) (sound_test (view m)) h in
    let sound = right_of (same_bytes (layout (view m)) m) (sound_test (view m)) h in
    record { state_sound = sound_of_test (view m) sound; laid_out = sym (same_bytes_lem (layout (view m)) m same) }

pub test_of_memory : (m : List ℕ) → SoundMemory m → sound_bytes m ≡ true
unfolding sound_bytes
test_of_memory m h =
    both (subst (λ (x : List ℕ). same_bytes x m ≡ true) h.laid_out (bytes_same m)) (test_of_sound (view m) h.state_sound)

pub memory_length : (m : List ℕ) → SoundMemory m → length m ≡ state_size
memory_length m h = ap length h.laid_out ∙ sound_length (view m) h.state_sound
