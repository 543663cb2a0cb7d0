-- Counts that the code keeps, one for each end or each record: what a call adds to them, and what they are. Assumes nothing.
use Rattle.std.specs.Prelude.{◌≡◌, List, ℕ, ◌+◌, ◌*◌, ◌≤◌, ◌<◌, length, get_or}
use Rattle.rules.specs.Limits.{record_count, end_count, slot_count}
use Rattle.rules.specs.State.{State}
use Rattle.rules.specs.Count.{total}
use Rattle.rules.specs.Sound.{held_in, carried_by}

-- what a counter of two bytes reaches
abbrev pub counter_limit : ℕ
counter_limit = 65535

-- slots of all records
abbrev pub slots_in_all : ℕ
slots_in_all = slot_count * record_count

-- slots of all records, and two ends in the last item of each queue: bytes that are no sound state may name one end in all of them
abbrev pub places_in_all : ℕ
places_in_all = slots_in_all + 2 * end_count

-- no count is over a limit, so that more can be added
abbrev pub Below : (limit : ℕ) → List ℕ → Type 0
Below limit counts = (k : ℕ) → get_or counts k 0 ≤ limit

-- to each count what is asked for was added
pub record Added (n : ℕ) (more : ℕ → ℕ) (before after : List ℕ) : Type 0 where
  pub added : (k : ℕ) → k < n → get_or after k 0 ≡ get_or before k 0 + more k

-- the counts are these numbers, and none is over a limit
pub record Counted (n limit : ℕ) (number : ℕ → ℕ) (counts : List ℕ) : Type 0 where
  pub size : length counts ≡ n
  pub small : Below limit counts
  pub counted : (k : ℕ) → k < n → get_or counts k 0 ≡ number k

-- in how many slots of records in use and in how many split items end e is: its places but for being given up
unfoldable pub standing : State → (e : ℕ) → ℕ
standing st e = total (held_in e) st.records + total (carried_by e) st.ends
