-- A test on every number below n is what `all` says of it over the range. Assumes nothing.
use mathlib.Core.Path.{◌≡◌, refl, ap, ◌∙◌}
use mathlib.Core.Bool.{Bool, true, false, ◌&&◌}
use mathlib.Core.List.{[], ◌∷◌, ◌++◌}
use Prim.Native.Nat.{ℕ, zero, suc, ◌+◌, ◌<◌}
use native.Mathlib.Omega.{arith}
use Rattle.std.specs.List.{list_all, range_with_len}
use Rattle.std.proofs.lemmas.List.Folds.{list_all-append}
use Rattle.rules.specs.SoundTest.{every}
use Rattle.rules.specs.EndStep.{only_if}

module _ (f test : ℕ → Bool) where
  last_first : (a b c : Bool) → a ≡ c → (a && (b && true)) ≡ only_if b c
  last_first true true c e = e
  last_first true false c e = refl
  last_first false true c e = e
  last_first false false c e = refl

  more : (a n : ℕ) → range_with_len a (suc n) ≡ range_with_len a n ++ ((a + n) ∷ [])
  more a zero = ap (λ (k : ℕ). k ∷ []) (omega arith)
  more a (suc n) = ap (λ r. a ∷ r) (more (a + 1) n ∙ ap (λ (k : ℕ). range_with_len (a + 1) n ++ (k ∷ [])) (omega arith))

  pub every_all : (n : ℕ) → ((k : ℕ) → k < n → f k ≡ test k) → list_all f (range_with_len 0 n) ≡ every test n
  unfolding every
  every_all zero h = refl
  every_all (suc n) h =
      ap (list_all f) (more 0 n)
      ∙ list_all-append f (range_with_len 0 n) ((0 + n) ∷ [])
      ∙ last_first (list_all f (range_with_len 0 n)) (f (0 + n)) (every test n) (every_all n (λ k l. h k (omega arith)))
      ∙ ap (λ b. only_if b (every test n)) (ap f (omega arith) ∙ h n (omega arith))
