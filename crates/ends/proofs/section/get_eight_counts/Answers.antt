-- `get_eight_counts` reads eight bytes. Assumes nothing.
use Rattle.ends.specs.Sections.{eight_counts_in}
use Rattle.ends.proofs.section.get_eight_counts.Goals as goal

pub returns : goal.returns
unfolding eight_counts_in
returns c = c.get64.ensures
