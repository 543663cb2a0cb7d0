-- Whether a record is free, by the number of the lowest one. Assumes nothing.
use mathlib.Core.Path.{◌≡◌, refl, ap}
use mathlib.Core.Bool.{Bool, true, false}
use mathlib.Core.List.{List, [], ◌∷◌}
use Prim.Native.Nat.{ℕ, ◌≤◌, ◌<◌}
use native.Mathlib.Omega.{arith}
use lib.ListN.{length, get_or}
use borrow.Author.Tests.{ne_eqb}
use Rattle.rules.specs.Limits.{record_count}
use Rattle.rules.specs.State.{State, free_records, lowest_free_record}
use Rattle.rules.specs.Causes.{no_free_record}
use Rattle.rules.specs.Sound.{Sound}
use Rattle.keeping.proofs.FreeLaws.{record_free}

pub no_record : (st : State) → Sound st → record_count ≤ lowest_free_record st → no_free_record st ≡ true
no_record st s h = go (no_free_record st) refl
  where
    go : (b : Bool) → no_free_record st ≡ b → no_free_record st ≡ true
    go true q = q
    go false q = absurd (omega (arith, h, (record_free st q).in_list, s.S1.record_count_is))

pub some_record : (st : State) → lowest_free_record st < record_count → no_free_record st ≡ false
some_record st h = go (free_records st) refl
  where
    go : (l : List ℕ) → free_records st ≡ l → no_free_record st ≡ false
    go [] q = absurd (omega (arith, h, ap (λ (l : List ℕ). get_or l 0 record_count) q))
    go (r ∷ l) q = ne_eqb (length (free_records st)) 0 (λ z. omega (arith, ap length q, z))
