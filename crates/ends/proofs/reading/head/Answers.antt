-- `head` is the item in the first cell. Assumes nothing.
use Rattle.std.proofs.Common.{ap, ◌∙◌, arith}
use Rattle.rules.specs.State.{end_at}
use Rattle.ends.specs.Items.{cell_item}
use Rattle.ends.proofs.Queues.{head_cell}
use Rattle.ends.proofs.Shown.{cell_is}
use Rattle.ends.proofs.reading.head.Goals as goal

pub returns : goal.returns
returns c st z e f =
    let a = c.args in
    let cell = c.get_cell.ensures ∙ cell_is st z a.m.now e a.end.0 c.requires.1 f 0 (omega arith) in
    c.item_in.ensures ∙ ap cell_item cell ∙ head_cell (end_at st a.end.0) f
