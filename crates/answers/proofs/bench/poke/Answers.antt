-- The bytes written where they lie within the memory. Assumes nothing.
use Rattle.std.proofs.Common.{ap, ◌∙◌, arith, length}
use Rattle.rules.specs.Text.{text}
use Rattle.text.proofs.Texts.{written_as}
use Rattle.answers.proofs.Cases.{poke_outside, poke_inside}
use Rattle.answers.proofs.bench.poke.Goals as goal

pub put_bytes-requires : goal.put_bytes-requires
unfolding text
put_bytes-requires c =
    let a = c.args in
    let e = ap length (poke_outside a.state.now a.at a.bytes.now (omega arith)).0 in
    omega (arith, e, c.requires.room)

pub returns-then-from-bytes-gt-STATE_SIZE : goal.returns-then-from-bytes-gt-STATE_SIZE
unfolding text
returns-then-from-bytes-gt-STATE_SIZE c =
    let a = c.args in
    let outside = poke_outside a.state.now a.at a.bytes.now (omega arith) in
    record {
      says = written_as outside.0 c.put_bytes.ensures;
      leaves = outside.1;
    }

pub put_bytes-requires-2 : goal.put_bytes-requires-2
unfolding text
put_bytes-requires-2 c =
    let a = c.args in
    let e = ap length (poke_inside a.state.now a.at a.bytes.now (omega arith)).0 in
    omega (arith, e, c.requires.room)

pub returns : goal.returns
unfolding text
returns c =
    let a = c.args in
    let inside = poke_inside a.state.now a.at a.bytes.now (omega arith) in
    record {
      says = written_as inside.0 c.put_bytes-2.ensures;
      leaves = c.copy.ensures ∙ inside.1;
    }
