-- `hex_digit` is the digit. Assumes nothing.
use Rattle.std.proofs.Common.{lt-ltb, le-ltb}
use Rattle.text.specs.Written.{hex_digit}
use Rattle.text.proofs.printing.hex_digit.Goals as goal

pub returns-then-d-lt10 : goal.returns-then-d-lt10
unfolding hex_digit
returns-then-d-lt10 c = rw (lt-ltb c.args.d 10 c.if-d-lt10.true)

pub returns : goal.returns
unfolding hex_digit
returns c = rw (le-ltb c.args.d 10 c.if-d-lt10.false)
