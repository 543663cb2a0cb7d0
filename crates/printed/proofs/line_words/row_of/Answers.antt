-- The two groups of first bytes. Assumes nothing.
use Rattle.std.proofs.Common.{lt-ltb, le-ltb}
use Rattle.printed.specs.Meaning.{row_of}
use Rattle.printed.proofs.line_words.row_of.Goals as goal

pub returns-then-first-lt16 : goal.returns-then-first-lt16
unfolding row_of
returns-then-first-lt16 c = rw (lt-ltb c.args.first 16 c.if-first-lt16.true)

pub returns : goal.returns
unfolding row_of
returns c = rw (le-ltb c.args.first 16 c.if-first-lt16.false)
