-- What the contracts on one end ask of it, and say of its queue. Assumes nothing.
use Rattle.std.specs.Prelude.{ℕ, zero, suc}
use Rattle.std.proofs.Math.Option.{Option}
use Rattle.rules.specs.State.{EndState, Item, head_of, behind_head, last_of}
use Rattle.rules.specs.Sound.{EndWithin}
use Rattle.keeping.proofs.ViewLaws.{LastFits}

-- an end within the limits, so that each item fits its cell
pub record EndFits (x : EndState) : Type 0 where
  pub within : EndWithin x
  pub last_fits : LastFits (last_of x)

-- the item at an index of the queue: the head, once so many heads are removed
unfoldable pub item_at : (index : ℕ) → EndState → Option Item
item_at zero x = head_of x
item_at (suc i) x = item_at i (behind_head x)
