-- `read_hex` joins two digits after the other. The invariant: the first i bytes are put. Assumes nothing.
use Rattle.std.proofs.Common.{refl, ◌+◌, ◌*◌, arith, length-set}
use Rattle.text.proofs.Hex.{digit_below, hex_digits, bytes_more, bytes_written}
use Rattle.text.proofs.reading.read_hex.Goals as goal

pub join_digits-requires : goal.join_digits-requires
join_digits-requires c =
    let w = c.args.word.now in
    let i = c.loop-i.i in
    let digits = hex_digits w c.requires.hex in
    (digit_below 16 w (2 * i) digits (omega arith), digit_below 16 w (2 * i + 1) digits (omega arith))

pub loop-i-preserved : goal.loop-i-preserved
loop-i-preserved c =
    let a = c.args in
    let l = c.loop-i in
    let b = c.join_digits in (
      simp length-set l.invariant.0,
      bytes_more a.out.now a.at a.word.now l.i b.result (omega arith) l.invariant.1 b.ensures refl,
    )

pub returns : goal.returns
returns c =
    let l = c.loop-i in
    let a = c.args in
    bytes_written a.at a.word.now l.i (omega arith) l.invariant.1
