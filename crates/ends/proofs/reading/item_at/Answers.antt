-- `item_at` is the item in the cell of that index. Assumes nothing.
use Rattle.std.proofs.Common.{ap, ◌∙◌}
use Rattle.rules.specs.State.{end_at}
use Rattle.ends.specs.Items.{cell_item}
use Rattle.ends.proofs.Queues.{item_cell_lem}
use Rattle.ends.proofs.Shown.{cell_is}
use Rattle.ends.proofs.reading.item_at.Goals as goal

pub returns : goal.returns
returns c st z e f =
    let a = c.args in
    let cell = c.get_cell.ensures ∙ cell_is st z a.m.now e a.end.0 c.requires.1 f a.index c.requires.2 in
    c.item_in.ensures ∙ ap cell_item cell ∙ item_cell_lem (end_at st a.end.0) f a.index c.requires.2
