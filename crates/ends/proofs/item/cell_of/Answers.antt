-- `cell_of` goes by the variant of an item. Assumes nothing.
use Rattle.std.proofs.Common.{ap, ◌∙◌, ℕ, ◌+◌, ◌*◌, w32, of_z, to_z-of_z, rules}
use Rattle.rules.specs.Layout.{datum_cell, last_cell}
use Rattle.ends.proofs.item.cell_of.Goals as goal

pub returns-in-Value : goal.returns-in-Value
unfolding datum_cell
returns-in-Value c =
    let moved = to_z-of_z {w = w32} {z = c.in-Value.v} (search rules) in
    rw c.in-Value.is (ap (λ (b : ℕ). 1 + 256 * b) (c.from.ensures ∙ c.cast_unsigned.ensures ∙ ap (of_z w32) moved))

pub returns-in-Handle : goal.returns-in-Handle
unfolding datum_cell
returns-in-Handle c = rw c.in-Handle.is

pub returns-in-Split : goal.returns-in-Split
unfolding last_cell
returns-in-Split c = rw c.in-Split.is

pub returns-in-Close : goal.returns-in-Close
unfolding last_cell
returns-in-Close c = rw c.in-Close.is

pub returns-in-Wait : goal.returns-in-Wait
unfolding last_cell
returns-in-Wait c = rw c.in-Wait.is
