-- `put_word` writes eight bytes. Assumes nothing.
use Rattle.ends.specs.Sections.{with_word}
use Rattle.ends.proofs.section.put_word.Goals as goal

pub returns : goal.returns
unfolding with_word
returns c = c.put64.ensures
