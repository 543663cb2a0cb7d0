-- `start` is four writes: zeros in front, the cells, record 0's status and the word of free ends. Assumes nothing.
use Rattle.std.proofs.Common.{refl}
use Rattle.memory.proofs.StartLaws.{start_written}
use Rattle.memory.proofs.start.Goals as goal

pub returns : goal.returns
returns c = start_written c.args.m.now c.requires c.clear.ensures c.put_cells.ensures refl c.put64.ensures
