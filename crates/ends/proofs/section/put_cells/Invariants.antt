-- `put_cells` writes the cells one after the other. The invariant: the first ones are written. Assumes nothing.
use Rattle.std.proofs.Common.{◌≡◌, length, take}
use Rattle.ends.specs.Sections.{with_cells}
use Rattle.ends.proofs.section.put_cells.Given as goal

abbrev pub invariant-loop-index : goal.invariant-loop-index
invariant-loop-index l = (length l.m ≡ length l.initial.m)
    × (l.m ≡ with_cells l.initial.m l.end.0 (take l.index l.cells))
