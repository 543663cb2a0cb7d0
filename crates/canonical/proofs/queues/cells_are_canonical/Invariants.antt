-- `cells_are_canonical` goes on behind a datum, and ends at anything else. The invariant: the cells from i on decide. Assumes nothing.
use Rattle.std.proofs.Common.{◌≡◌, take}
use Rattle.canonical.specs.Canonical.{cells_in, canonical_cells}
use Rattle.canonical.proofs.Cells.{cells_from}
use Rattle.canonical.proofs.queues.cells_are_canonical.Given as goal

abbrev pub invariant-loop-i : goal.invariant-loop-i
invariant-loop-i l = canonical_cells (take l.count (cells_in l.queue)) ≡ canonical_cells (cells_from l.queue l.count l.i)
