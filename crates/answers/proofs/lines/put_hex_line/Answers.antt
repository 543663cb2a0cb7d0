-- Hex is twice as long as the bytes. Assumes nothing.
use Rattle.std.proofs.Common.{arith}
use Rattle.rules.specs.Text.{text}
use Rattle.text.proofs.Hex.{length_text}
use Rattle.text.proofs.Texts.{written_more, printed_length}
use Rattle.answers.proofs.Texts.{hex_length}
use Rattle.answers.proofs.lines.put_hex_line.Goals as goal

pub put_hex-requires : goal.put_hex-requires
put_hex-requires c =
    let bytes = c.args.bytes.now in
    omega (arith, hex_length bytes, length_text bytes, c.requires)

pub put_bytes-requires : goal.put_bytes-requires
put_bytes-requires c =
    let bytes = c.args.bytes.now in
    omega (arith, hex_length bytes, length_text bytes, c.requires, c.put_hex.ensures.place, printed_length c.put_hex.ensures)

pub returns : goal.returns
unfolding text
returns c = written_more c.put_hex.ensures c.put_bytes.ensures
