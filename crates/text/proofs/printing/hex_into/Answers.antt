-- `hex_into` puts one byte after the other. The invariant: the first i are put. Assumes nothing.
use Rattle.std.proofs.Common.{refl, arith}
use Rattle.text.proofs.Hex.{hex_filling, hex_filled}
use Rattle.rules.specs.Bytes.{flat}
use Rattle.text.proofs.printing.hex_into.Goals as goal

pub loop-i-init : goal.loop-i-init
unfolding flat
loop-i-init c = (refl, refl)

pub loop-i-preserved : goal.loop-i-preserved
loop-i-preserved c =
    let a = c.args in
    let l = c.loop-i in (
      omega arith,
      hex_filling a.out.now a.bytes.now l.i (omega arith) l.invariant.1 c.put_byte.ensures,
    )

pub returns : goal.returns
returns c =
    let l = c.loop-i in
    let a = c.args in
    hex_filled a.out.now a.bytes.now l.i c.requires (omega arith) l.invariant.1
