-- Whether as many ends are free as are asked for, by the count of those that the word of free ends names. Assumes nothing.
use mathlib.Core.Path.{◌≡◌, ◌∙◌}
use mathlib.Core.Bool.{true, false}
use Prim.Native.Nat.{ℕ, ◌≤◌, ◌<◌}
use native.Mathlib.Omega.{arith}
use lib.ListN.{length}
use borrow.Author.Tests.{lt-ltb, le-ltb}
use Rattle.rules.specs.State.{State, free_ends}
use Rattle.rules.specs.Causes.{few_free_ends}
use Rattle.rules.specs.Layout.{free_word}
use Rattle.keeping.proofs.LayoutLaws.{Sized}
use Rattle.ends.specs.Words.{ends_in}
use Rattle.ends.proofs.Words.{agrees}

module _ (st : State) (z : Sized st) (word : ℕ) (is : word ≡ free_word st.ends) {k : ℕ} (count : k ≡ length (ends_in word)) where
  counted : k ≡ length (free_ends st)
  counted = count ∙ (agrees st z word is).count

  pub few_ends : (n : ℕ) → k < n → few_free_ends n st ≡ true
  few_ends n h = lt-ltb (length (free_ends st)) n (omega (arith, counted, h))

  pub enough_ends : (n : ℕ) → n ≤ k → few_free_ends n st ≡ false
  enough_ends n h = le-ltb (length (free_ends st)) n (omega (arith, counted, h))
