-- `take_head` moves the cells up by one and writes the count. Assumes nothing.
use Rattle.std.proofs.Common.{◌∙◌}
use Rattle.ends.proofs.Shown.{count_is, cells_are}
use Rattle.ends.proofs.Changes.{take_written}
use Rattle.ends.proofs.change.take_head.Goals as goal

pub returns : goal.returns
returns c st z laid fits =
    let a = c.args in
    let e = a.end.0 in
    let inside = c.requires.1 in
    let count = c.queued-count.ensures.counted ∙ count_is st z a.m.now laid e inside in
    let cells = c.get_cells-c.ensures ∙ cells_are st z a.m.now laid e inside fits in
    take_written st z e inside laid fits c.queued-count.result c.get_cells-c.result count cells
    c.put_cells.ensures c.put_count.ensures
