-- What is free for a plug: two ends, and a record. Assumes nothing.
use Rattle.std.specs.Prelude.{◌≡◌, false, ℕ}
use Rattle.rules.specs.State.{State, lowest_free_record}
use Rattle.rules.specs.Causes.{few_free_ends, no_free_record}
use Rattle.rules.specs.Layout.{free_word}

-- in state st, whose free ends a word names, at least two ends are free, and `new` is the lowest free record
pub record Spare (st : State) (word new : ℕ) : Type 0 where
  pub word_is : word ≡ free_word st.ends
  pub two_ends : few_free_ends 2 st ≡ false
  pub new_is : new ≡ lowest_free_record st
  pub a_record : no_free_record st ≡ false
