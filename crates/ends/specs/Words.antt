-- The ends that a word names, bit e for end e, and what it means that they are the free ends of a state. Assumes nothing.
use Rattle.std.specs.Prelude.{ℕ, zero, suc, ◌/◌, ◌≡◌, List, [], length, get_or}
use Rattle.rules.specs.Limits.{end_count}
use Rattle.rules.specs.Numbers.{end_number}
use Rattle.rules.specs.State.{State, prepend_if, free_ends, lowest_free_end}
use Rattle.rules.specs.Slots.{low_bit}
use Rattle.rules.specs.RecordStep.{lowest_free}
use Rattle.ends.specs.declared.word.FourEnds.{FourEnds}

-- the places of the ones among the n lowest bits of a word, lowest first, counted from k
unfoldable pub ones_from : (n k word : ℕ) → List ℕ
ones_from zero k word = []
ones_from (suc n) k word = prepend_if (low_bit word) k (ones_from n (suc k) (word / 2))

-- the ends that a word names, lowest first
unfoldable pub ends_in : (word : ℕ) → List ℕ
ends_in word = ones_from end_count 0 word

-- the four first of a list of ends; where there are fewer, the number of ends
pub record FourLowest (ends : List ℕ) (r : FourEnds) : Type 0 where
  pub first : end_number r.p ≡ get_or ends 0 end_count
  pub second : end_number r.q ≡ get_or ends 1 end_count
  pub third : end_number r.s ≡ get_or ends 2 end_count
  pub fourth : end_number r.t ≡ get_or ends 3 end_count

-- what a word says of the free ends is what the list of ends says: how many there are, the lowest, and the four lowest
pub record Agrees (st : State) (word : ℕ) : Type 0 where
  pub count : length (ends_in word) ≡ length (free_ends st)
  pub lowest : get_or (ends_in word) 0 end_count ≡ lowest_free_end st
  pub first : get_or (ends_in word) 0 end_count ≡ (lowest_free st).p
  pub second : get_or (ends_in word) 1 end_count ≡ (lowest_free st).q
  pub third : get_or (ends_in word) 2 end_count ≡ (lowest_free st).s
  pub fourth : get_or (ends_in word) 3 end_count ≡ (lowest_free st).t
