-- `free_word` is the word that the bytes show. Assumes nothing.
use Rattle.std.proofs.Common.{◌∙◌}
use Rattle.ends.specs.Sections.{word_in}
use Rattle.ends.proofs.Shown.{word_is}
use Rattle.ends.proofs.reading.free_word.Goals as goal

pub returns : goal.returns
unfolding word_in
returns c st z e = c.get64.ensures ∙ word_is st z c.args.m.now e
