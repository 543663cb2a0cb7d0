-- `append` writes the item's cell behind those in use, and the count. Assumes nothing.
use Rattle.std.proofs.Common.{◌≡◌, ◌∙◌, ◌<◌}
use Rattle.rules.specs.Limits.{queue_depth}
use Rattle.rules.specs.State.{end_at, queue_length}
use Rattle.ends.specs.Items.{item_of}
use Rattle.ends.proofs.Shown.{count_is}
use Rattle.ends.proofs.Changes.{append_written}
use Rattle.ends.proofs.change.append.Goals as goal

pub returns : goal.returns
returns c st z laid used no_last =
    let a = c.args in
    let k = c.queued-count.result in
    let e = a.end.0 in
    let inside = c.requires.1 in
    let count : k ≡ queue_length (end_at st e) = c.queued-count.ensures.counted ∙ count_is st z a.m.now laid e inside in
    let room : k < queue_depth = rw c.queued-count.ensures.counted c.requires.2 in
    append_written st z e inside laid used no_last (item_of a.item) k c.cell_of.result count room c.cell_of.ensures
    c.put_cell.ensures c.put_count.ensures
