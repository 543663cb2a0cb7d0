-- The part of the memory, or that there is none. Assumes nothing.
use Rattle.std.proofs.Common.{ap, arith, length}
use Rattle.rules.specs.Text.{text}
use Rattle.text.proofs.Texts.{written_as}
use Rattle.answers.proofs.Cases.{peek_outside, peek_inside}
use Rattle.answers.proofs.bench.peek.Goals as goal

pub put_bytes-requires : goal.put_bytes-requires
unfolding text
put_bytes-requires c =
    let a = c.args in
    let e = ap length (peek_outside a.state.now a.at a.count (omega arith)) in
    omega (arith, e, c.requires.room)

pub returns-then-to-gt-STATE_SIZE : goal.returns-then-to-gt-STATE_SIZE
unfolding text
returns-then-to-gt-STATE_SIZE c =
    let a = c.args in
    written_as (peek_outside a.state.now a.at a.count (omega arith)) c.put_bytes.ensures

pub put_hex_line-requires : goal.put_hex_line-requires
put_hex_line-requires c =
    let a = c.args in
    let e = ap length (peek_inside a.state.now a.at a.count (omega arith)) in
    omega (arith, e, c.requires.room)

pub returns : goal.returns
returns c =
    let a = c.args in
    written_as (peek_inside a.state.now a.at a.count (omega arith)) c.put_hex_line.ensures
