-- Laws of tests that a loop makes one by one: over the numbers below n and over a list, one that fails decides, and all that pass decide.
-- Assumes nothing.
use mathlib.Core.Path.{◌≡◌, refl, sym, ap, ◌∙◌}
use mathlib.Core.Bool.{Bool, true, false, not, ◌&&◌}
use Rattle.std.specs.List.{list_all}
use mathlib.Core.List.{List, [], ◌∷◌, ◌++◌}
use Prim.Native.Nat.{ℕ, zero, suc, ◌+◌, ◌≤◌, ◌<◌}
use native.Mathlib.Nat.{le_of_suc-le-suc}
use native.Mathlib.Numerals.{add-one}
use native.Mathlib.Omega.{arith}
use lib.ListN.{length, get_or, take}
use borrow.Author.Tests.{not-true, not-false}
use Rattle.rules.specs.EndStep.{only_if}
use Rattle.rules.specs.SoundTest.{all, every, all_true}
use Rattle.rules.proofs.TestLaws.{AllTrue, both, right_of, true_is_not_false, every_at}

-- two tests of which each passes if the other does are the same
pub same_test : (a b : Bool) → (a ≡ true → b ≡ true) → (b ≡ true → a ≡ true) → a ≡ b
same_test true b f g = sym (f refl)
same_test false true f g = g refl
same_test false false f g = refl

-- a test that cannot pass fails
pub fails : (b : Bool) → (b ≡ true → ⊥) → b ≡ false
fails true f = absurd (f refl)
fails false f = refl

-- ---- a list of tests

-- one that fails decides
pub false_at : (bs : List Bool) (i : ℕ) → get_or bs i true ≡ false → all_true bs ≡ false
unfolding all_true
false_at [] i h = h
false_at (b ∷ bs) zero h = rw h
false_at (b ∷ bs) (suc i) h =
    let rest = false_at bs i h in
    fails (only_if b (all_true bs)) (λ t. true_is_not_false (right_of b (all_true bs) t) rest)

-- where all others pass, the last decides
pub last_decides : (bs : List Bool) (b : Bool) → AllTrue bs → all_true (bs ++ b ∷ []) ≡ b
unfolding all_true
last_decides [] true h = refl
last_decides [] false h = refl
last_decides (c ∷ bs) b h = rw h.0 (last_decides bs b h.1)

-- ---- over the numbers below n

module _ (test : ℕ → Bool) where
  pub every_below : (n : ℕ) → ((k : ℕ) → k < n → test k ≡ true) → every test n ≡ true
  unfolding every
  every_below zero h = refl
  every_below (suc n) h = both (h n (omega arith)) (every_below n (λ k l. h k (omega arith)))

  -- before the loop, after a turn of it, and where a turn ends it
  pub every_none : every test 0 ≡ true
  unfolding every
  every_none = refl

  every_more : (i : ℕ) → every test i ≡ true → test i ≡ true → every test (i + 1) ≡ true
  unfolding every
  every_more i h t = rw (add-one i) (both t h)

  pub reached : (n : ℕ) {i : ℕ} → i ≤ n → n ≤ i → every test i ≡ true → true ≡ every test n
  reached n {i} l k h = let e : i ≡ n = omega arith in sym h ∙ ap (every test) e

  every_fails : (n k : ℕ) → k < n → test k ≡ false → every test n ≡ false
  every_fails n k l f = fails (every test n) (λ h. true_is_not_false (every_at test n h k l) f)

  -- the turn of k was told b: where that is no, the answer is no, and else one more number passes
  module _ (k : ℕ) {b : Bool} (told : b ≡ test k) where
    pub turn_fails : (n : ℕ) → k < n → not b ≡ true → false ≡ every test n
    turn_fails n h t = sym (every_fails n k h (sym told ∙ not-true b t))

    pub turn_passes : every test k ≡ true → not b ≡ false → every test (k + 1) ≡ true
    turn_passes before f = every_more k before (sym told ∙ not-false b f)

-- ---- over a list

module _ {A : Type 0} (test : A → Bool) where
  -- the test of all is std's
  pub all_is : (l : List A) → all test l ≡ list_all test l
  unfolding all
  all_is [] = refl
  all_is (x ∷ l) = rw (all_is l) (joined (test x) (list_all test l))
    where
      joined : (a b : Bool) → only_if a b ≡ (a && b)
      joined true b = refl
      joined false b = refl

  pub all_more : (l : List A) (i : ℕ) (d : A) → i < length l
      → all test (take (i + 1) l) ≡ only_if (all test (take i l)) (test (get_or l i d))
  unfolding all
  all_more l i d h = rw (add-one i) (go l i h)
    where
      ends_true : (b : Bool) → only_if b true ≡ b
      ends_true true = refl
      ends_true false = refl

      join : (a b c : Bool) → only_if a (only_if b c) ≡ only_if (only_if a b) c
      join true b c = refl
      join false b c = refl

      go : (l : List A) (i : ℕ) → i < length l → all test (take (suc i) l) ≡ only_if (all test (take i l)) (test (get_or l i d))
      go [] i h = absurd (omega arith)
      go (x ∷ l) zero h = ends_true (test x)
      go (x ∷ l) (suc i) h =
          ap (only_if (test x)) (go l i (le_of_suc-le-suc h)) ∙ join (test x) (all test (take i l)) (test (get_or l i d))
