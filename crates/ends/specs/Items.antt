-- Which item of `rules` an item of the code stands for, and which cell of the state memory holds it. `Maybe` is the
-- name here for the Option of the code. Assumes nothing.
use Rattle.std.specs.Prelude.{ℕ, ◌/◌, ◌%◌, Option as Maybe, Some, None}
use Rattle.std.proofs.Math.Option.{Option, none, some}
use Rattle.std.specs.Int.{w32}
use Rattle.std.proofs.Common.{to_z}
use Rattle.rules.specs.Numbers.{end_number, record_number}
use Rattle.rules.specs.State as rules
use Rattle.rules.specs.Layout.{datum_cell, last_cell, CellKind, no_cell, value_cell, handle_cell, split_cell, close_cell, wait_cell}
use Rattle.rules.specs.Layout.{cell_kind}
use Rattle.rules.specs.Sound.{DatumWithin}
use Rattle.keeping.proofs.ViewLaws.{LastFits}
use Rattle.ends.specs.declared.item.Item.{Item}
use Rattle.ends.specs.declared.item.Item.TheVariants.{Value, Handle, Split, Close, Wait}

-- the item that an item of the code stands for
abbrev pub item_of : Item → rules.Item
item_of (Value v) = rules.datum (rules.value v)
item_of (Handle n) = rules.datum (rules.handle n)
item_of (Split p q) = rules.last (rules.split_item (end_number p) (end_number q))
item_of Close = rules.last rules.close_item
item_of (Wait r) = rules.last (rules.wait_item (record_number r))

-- the head of a queue, or none, that an answer of the code stands for
abbrev pub head_in : Maybe Item → Option rules.Item
head_in None = none
head_in (Some x) = some (item_of x)

-- the cell of an item
abbrev pub item_cell : rules.Item → ℕ
item_cell (rules.datum d) = datum_cell d
item_cell (rules.last l) = last_cell l

-- the numbers of an item fit its cell
abbrev pub ItemFits : rules.Item → Type 0
ItemFits (rules.datum d) = DatumWithin d
ItemFits (rules.last l) = LastFits (some l)

-- what a cell of a kind and a payload holds
abbrev pub kind_item : CellKind → (payload : ℕ) → Option rules.Item
kind_item no_cell n = none
kind_item value_cell n = some (rules.datum (rules.value (to_z w32 (n % 4294967296))))
kind_item handle_cell n = some (rules.datum (rules.handle (n % 256)))
kind_item split_cell n = some (rules.last (rules.split_item (n % 256) (n / 256 % 256)))
kind_item close_cell n = some (rules.last rules.close_item)
kind_item wait_cell n = some (rules.last (rules.wait_item (n % 256)))

-- the item that a cell holds
unfoldable pub cell_item : ℕ → Option rules.Item
cell_item cell = kind_item (cell_kind (cell % 256)) (cell / 256)
