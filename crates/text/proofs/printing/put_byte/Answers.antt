-- `put_byte` puts the two digits. Assumes nothing.
use Rattle.std.proofs.Common.{refl}
use Rattle.text.specs.Written.{hex_byte}
use Rattle.text.proofs.printing.put_byte.Goals as goal

pub returns : goal.returns
unfolding hex_byte
returns c = rw (c.hex_digit-2.ensures, c.hex_digit.ensures) refl
