-- `get_cell` reads eight bytes where the cell stands. Assumes nothing.
use Rattle.std.proofs.Common.{ap, ◌∙◌}
use Rattle.rules.specs.Bytes.{number_at}
use Rattle.rules.specs.Layout.{cell_size}
use Rattle.ends.specs.Sections.{cell_in}
use Rattle.ends.proofs.section.get_cell.Goals as goal

pub returns : goal.returns
unfolding cell_in
returns c =
    let a = c.args in
    c.get64.ensures ∙ ap (number_at cell_size a.m.now) c.cell_at.ensures
