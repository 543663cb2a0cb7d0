-- What the code's answer to "the last item of a queue" means. `Maybe` is the name here for the Option of the code. Assumes nothing.
use Rattle.std.specs.Prelude.{ℕ, Bool, true, [], ◌∷◌, Option as Maybe, Some, None}
use Rattle.std.proofs.Math.Option.{Option, none, some}
use Rattle.rules.specs.State as rules
use Rattle.rules.specs.State.{split_item, close_item, wait_item}
use Rattle.rules.specs.Numbers.{end_number, record_number}
use Rattle.rules.specs.Layout.{view_cells}
use Rattle.canonical.specs.Canonical.{either, is_datum, is_last}
use Rattle.soundness.specs.declared.lasts.Last.{Last}
use Rattle.soundness.specs.declared.lasts.Last.TheVariants.{Split, Close, Wait}

-- the last item that stands only last, if there is one
abbrev pub last_meaning : Maybe Last → Option rules.Last
last_meaning None = none
last_meaning (Some (Split p q)) = some (split_item (end_number p) (end_number q))
last_meaning (Some Close) = some close_item
last_meaning (Some (Wait r)) = some (wait_item (record_number r))

-- a cell holds an item
unfoldable pub is_item : (cell : ℕ) → Bool
is_item cell = either (is_datum cell) true (is_last cell)

-- what a queue's last cell says of that
unfoldable pub last_in : (cell : ℕ) → Option rules.Last
last_in cell = (view_cells (cell ∷ [])).final
