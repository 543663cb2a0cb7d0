-- `item_in` goes by the kind of a cell. Assumes nothing.
use Rattle.std.proofs.Common.{sym, ap, ◌∙◌, ℤ, w32, to_z-of_z, rules}
use mathlib.Core.Option.{some}
use Rattle.rules.specs.State.{datum, value}
use Rattle.ends.proofs.Items.{cell_of_kind, cell_of_no_kind}
use Rattle.ends.proofs.item.item_in.Goals as goal

pub returns-in-1 : goal.returns-in-1
returns-in-1 c =
    let cell = c.args.cell in
    ap (λ (v : ℤ). some (datum (value v))) (to_z-of_z {w = w32} {z = c.cast_signed.result} (search rules) ∙ c.cast_signed.ensures)
    ∙ sym (cell_of_kind cell 1 c.in-1.is)

pub returns-in-2 : goal.returns-in-2
returns-in-2 c = sym (cell_of_kind c.args.cell 2 c.in-2.is)

pub returns-in-3 : goal.returns-in-3
returns-in-3 c = sym (cell_of_kind c.args.cell 3 c.in-3.is)

pub returns-in-4 : goal.returns-in-4
returns-in-4 c = sym (cell_of_kind c.args.cell 4 c.in-4.is)

pub returns-in-5 : goal.returns-in-5
returns-in-5 c = sym (cell_of_kind c.args.cell 5 c.in-5.is)

pub returns-in_default : goal.returns-in_default
returns-in_default c =
    let not_one_to_five = c.in_default.in_default-own.rest in
    let not_one_to_four = not_one_to_five.0 in
    let not_one_to_three = not_one_to_four.0 in
    let not_one_to_two = not_one_to_three.0 in
    sym (cell_of_no_kind c.args.cell not_one_to_two.0.1 not_one_to_two.1 not_one_to_three.1 not_one_to_four.1
    not_one_to_five.1)
