-- `put_cells` stores the cells one after the other. The invariant: the first k are written. Assumes nothing.
use Rattle.std.proofs.Common.{◌≡◌, length, take}
use Rattle.rules.specs.Bytes.{bytes_of, flat}
use Rattle.rules.specs.Layout.{cell_size, queues_at}
use Rattle.words.specs.Parts.{put_at}
use Rattle.memory.proofs.put_cells.Given as goal

abbrev pub invariant-loop-k : goal.invariant-loop-k
invariant-loop-k l = (length l.m ≡ length l.initial.m)
    × (l.m ≡ put_at l.initial.m queues_at (flat (bytes_of cell_size) (take l.k l.cells)))
