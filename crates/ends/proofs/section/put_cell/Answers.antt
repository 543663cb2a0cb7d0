-- `put_cell` writes eight bytes where the cell stands. Assumes nothing.
use Rattle.std.proofs.Common.{ap, ◌∙◌, ℕ}
use Rattle.rules.specs.Bytes.{bytes_of}
use Rattle.rules.specs.Layout.{cell_size}
use Rattle.words.specs.Parts.{put_at}
use Rattle.ends.specs.Sections.{with_cell}
use Rattle.ends.proofs.section.put_cell.Goals as goal

pub returns : goal.returns
unfolding with_cell
returns c =
    let a = c.args in
    c.put64.ensures ∙ ap (λ (at : ℕ). put_at a.m.now at (bytes_of cell_size a.cell)) c.cell_at.ensures
