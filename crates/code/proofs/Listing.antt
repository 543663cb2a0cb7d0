-- The places of an hcase and the slots of a run, as `case_place` and `listed_slot` read them: how many there are, and each by its number.
-- Assumes nothing.
use mathlib.Core.Path.{◌≡◌}
use mathlib.Core.List.{List}
use Prim.Native.Nat.{ℕ, ◌+◌, ◌*◌, ◌<◌}
use lib.ListN.{length, get_or}
use Rattle.rules.specs.Instruction.{byte_at, place_at, places_at, slots_at}
use Rattle.code.proofs.Tables.{length_table, get_d_table}

module _ (code : List ℕ) (place k n : ℕ) where
  pub length_places : length (places_at code place k n) ≡ n
  unfolding places_at
  length_places = length_table n (λ (i : ℕ). place_at code place (k + 2 * i))

  pub length_slots : length (slots_at code place k n) ≡ n
  unfolding slots_at
  length_slots = length_table n (λ (i : ℕ). byte_at code place (k + i))

  -- place i of n
  pub listed_place : (i : ℕ) → i < n → get_or (places_at code place k n) i 0 ≡ place_at code place (k + 2 * i)
  unfolding places_at
  listed_place i h = get_d_table n (λ (j : ℕ). place_at code place (k + 2 * j)) i 0 h
