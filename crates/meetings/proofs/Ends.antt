-- What a sound state says of the ends that a step at an end is about. Assumes nothing.
use mathlib.Core.Path.{◌≡◌, refl, sym, ap, ◌∙◌, subst}
use mathlib.Core.Logic.{◌≢◌}
use mathlib.Core.Bool.{false}
use mathlib.Core.Option.{none, some}
use mathlib.Core.List.{[], ◌∷◌}
use Prim.Native.Nat.{ℕ, ◌<◌}
use native.Mathlib.Omega.{arith}
use Rattle.rules.specs.Limits.{end_count}
use Rattle.rules.specs.State.{State, Datum, Last, split_item, Item, datum, last, EndState, free_end, used}
use Rattle.rules.specs.State.{end_at, end_or, head_of, last_of, partner_of, is_free_end}
use Rattle.rules.specs.RecordStep.{partner_in}
use Rattle.rules.specs.Sound.{in_last, Sound}
use Rattle.rules.proofs.CountLaws.{δ-same}
use Rattle.rules.proofs.SoundLaws.{carried_within}
use Rattle.rules.proofs.TestLaws.{true_is_not_false}
use Rattle.keeping.proofs.Running.{used_in_list}
use Rattle.keeping.proofs.Joining.{partner_of_lem}

-- the head that is a last item is the last item
pub last_is : (x : EndState) {l : Last} → head_of x ≡ some (last l) → last_of x ≡ some l
last_is free_end h = absurd cc
last_is (used m [] none) h = absurd cc
last_is (used m [] (some k)) {l} h = let z : k ≡ l = cc in ap (λ (y : Last). some y) z
last_is (used m (d ∷ ds) k) h = absurd cc

-- an end with a head is one of the state's
pub head_in_list : (st : State) → Sound st → (e : ℕ) {x : Item} → head_of (end_at st e) ≡ some x → e < end_count
head_in_list st s e h = go (end_at st e) refl
  where
    go : (y : EndState) → end_at st e ≡ y → e < end_count
    go free_end q = let z = sym (ap head_of q) ∙ h in absurd cc
    go (used m ds l) q = omega (arith, used_in_list st e m ds l q, s.S1.end_count_is)

-- a datum and a last item head two ends
pub heads_differ : (st : State) (from to : ℕ) {d : Datum} {l : Last} → head_of (end_at st from) ≡ some (datum d)
    → head_of (end_at st to) ≡ some (last l) → from ≢ to
heads_differ st from to h k z =
    let q = sym h ∙ ap (λ (e : ℕ). head_of (end_at st e)) z ∙ k in absurd cc

-- the ends that a split carries are two of the state's
pub split_within : (st : State) → Sound st → (from p q : ℕ) → head_of (end_at st from) ≡ some (last (split_item p q))
    → (p < end_count) × (q < end_count)
split_within st s from p q h =
    let l = last_is (end_at st from) h in (
      carried_within st s from p (omega (arith, ap (in_last p) l, δ-same p)),
      carried_within st s from q (omega (arith, ap (in_last q) l, δ-same q)),
    )

-- the partner of an end in use: as the memory shows it, one of the state's
pub partner_shown : (st : State) → Sound st → (e : ℕ) → is_free_end (end_at st e) ≡ false → {f : ℕ}
    → f ≡ end_or 0 (partner_of (end_at st e))
    → (f ≡ partner_in st e) × (f < end_count)
partner_shown st s e h {f} q = go (end_at st e) refl
  where
    go : (y : EndState) → end_at st e ≡ y → (f ≡ partner_in st e) × (f < end_count)
    go free_end was = true_is_not_false refl (subst (λ (y : EndState). is_free_end y ≡ false) was h)
    go (used m ds l) was =
        let here : f ≡ m = q ∙ ap (λ (y : EndState). end_or 0 (partner_of y)) was in
        let there = partner_of_lem st s e m ds l was in
        let in_List = used_in_list st m e there.queued there.final there.was in
        (here ∙ sym (ap (λ (y : EndState). end_or end_count (partner_of y)) was), omega (arith, here, in_List, s.S1.end_count_is))
