-- `with_bytes` reads a hex word to the front of the buffer. Assumes nothing.
use Rattle.std.proofs.Common.{sym, ◌∙◌, arith}
use Rattle.commands.specs.Meaning.{asks}
use Rattle.commands.proofs.Parsing.{not_bytes, bytes_are, bytes_front}
use Rattle.commands.proofs.with_bytes.Goals as goal

pub returns-then-not-is_hex-clause-is : goal.returns-then-not-is_hex-clause-is
returns-then-not-is_hex-clause-is c =
    let a = c.args in
    not_bytes a.word.now (asks a.name a.first 0) (sym c.is_hex.ensures ∙ c.if-not-is_hex.true)

pub returns-clause-is : goal.returns-clause-is
returns-clause-is c =
    let a = c.args in
    let hex = sym c.is_hex.ensures ∙ c.if-not-is_hex.false in
    c.named.ensures.is _ ∙ bytes_are a.word.now (asks a.name a.first 0) hex c.requires.1 c.read_hex-count.ensures

pub returns-clause-within : goal.returns-clause-within
returns-clause-within c =
    let within = (bytes_front c.args.word.now c.requires.1 c.read_hex-count.ensures).1 in
    omega (arith, c.named.ensures.within)
