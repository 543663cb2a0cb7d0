-- The ends of a sound state fit their cells: what the contracts on one end ask is met by every sound state. Assumes nothing.
use mathlib.Core.Path.{◌≡◌, refl, ap}
use mathlib.Core.Option.{Option, none, some}
use Prim.Native.Nat.{ℕ}
use native.Mathlib.Omega.{arith}
use Rattle.rules.specs.State.{State, Last, split_item, close_item, wait_item, end_at, last_of}
use Rattle.rules.specs.Sound.{in_last, named_by_last, Sound}
use Rattle.rules.proofs.CountLaws.{δ-same}
use Rattle.rules.proofs.SoundLaws.{carried_within, named_within}
use Rattle.keeping.proofs.ViewLaws.{LastFits}
use Rattle.ends.specs.Ends.{EndFits}

pub sound_fits : (st : State) → Sound st → (e : ℕ) → EndFits (end_at st e)
sound_fits st s e = record { within = s.S1.ends_within e; last_fits = go (last_of (end_at st e)) refl }
  where
    -- ends and records that an item names are those of the state
    go : (l : Option Last) → last_of (end_at st e) ≡ l → LastFits l
    go none q = tt
    go (some (split_item a b)) q = (
      omega (arith, carried_within st s e a (omega (arith, ap (in_last a) q, δ-same a))),
      omega (arith, carried_within st s e b (omega (arith, ap (in_last b) q, δ-same b))),
    )
    go (some close_item) q = tt
    go (some (wait_item r)) q = omega (arith, named_within st s e r (omega (arith, ap (named_by_last r) q, δ-same r)))
