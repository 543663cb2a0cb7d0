-- `put_cells` writes the cells one after the other. The invariant: the first ones are written. Assumes nothing.
use Rattle.std.proofs.Common.{◌≡◌, refl, ◌<◌, arith, length, rules}
use Rattle.rules.specs.Limits.{queue_depth}
use Rattle.ends.proofs.Cells.{cells_none, cells_more}
use Rattle.ends.proofs.section.put_cells.Goals as goal
use Rattle.ends.proofs.section.put_cells.Goals.{Start}

eight : (c : Start) → length c.args.cells ≡ queue_depth
eight c = search rules

pub loop-index-init : goal.loop-index-init
loop-index-init c = let a = c.args in (refl, cells_none a.m.now a.end.0 a.cells)

pub loop-index-preserved : goal.loop-index-preserved
loop-index-preserved c =
    let l = c.loop-index in
    let a = c.args in
    let inside : l.index < length a.cells = omega (arith, eight (goal.at.loop-index-preserved c).Start) in
    (omega arith, cells_more a.m.now a.end.0 a.cells l.index inside l.invariant.1 c.put_cell.ensures)
