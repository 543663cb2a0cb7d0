-- Cell by cell. Assumes nothing.
use Rattle.std.proofs.Common.{arith, rules}
use Rattle.words.proofs.Tables.{filled_from_fn, filled_all}
use Rattle.ends.specs.Sections.{cell_in, cells_in}
use Rattle.ends.proofs.section.get_cells.Goals as goal

pub returns : goal.returns
unfolding cells_in
returns c =
    let cell = cell_in c.args.m.now c.args.end.0 in
    filled_all (filled_from_fn 0 cell c.from_fn.ensures.items (λ i x q h k. search rules)) (omega arith)
