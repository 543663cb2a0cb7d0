-- The words of the table are those of the definition, computed once. Assumes nothing.
use Rattle.std.proofs.Common.{refl}
use Rattle.rules.specs.Text.{text}
use Rattle.rules.specs.Printed.{name_text}
use Rattle.printed.specs.Words.{line_words}
use Rattle.printed.proofs.line_words.words.Goals as goal

pub returns : goal.returns
unfolding line_words name_text text
returns c = refl
