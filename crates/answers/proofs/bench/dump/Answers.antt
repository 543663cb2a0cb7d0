-- A sound memory is shown, another is refused. Assumes nothing.
use Rattle.std.proofs.Common.{sym, ap, ◌∙◌, arith, length}
use Rattle.rules.specs.Text.{text}
use Rattle.keeping.proofs.Memories.{memory_of_test}
use Rattle.text.proofs.Texts.{written_as}
use Rattle.answers.proofs.Cases.{dump_unsound, dump_sound}
use Rattle.answers.proofs.bench.dump.Goals as goal

pub put_refusal_line-requires : goal.put_refusal_line-requires
unfolding text
put_refusal_line-requires c =
    let test = c.is_sound in
    let unsound = sym test.ensures ∙ c.if-not-is_sound.true in
    let e = ap length (dump_unsound c.args.state.now c.requires.state_len unsound) in
    omega (arith, e, c.requires.room)

pub returns-then-not-is_sound : goal.returns-then-not-is_sound
unfolding text
returns-then-not-is_sound c =
    let test = c.is_sound in
    let unsound = sym test.ensures ∙ c.if-not-is_sound.true in
    written_as (dump_unsound c.args.state.now c.requires.state_len unsound) c.put_refusal_line.ensures

pub put_state-requires : goal.put_state-requires
put_state-requires c =
    let state = c.args.state.now in
    let test = c.is_sound in
    let sound = sym test.ensures ∙ c.if-not-is_sound.false in
    let e = ap length (dump_sound state c.requires.state_len sound) in
    record {
      sound_memory = memory_of_test state sound;
      room = omega (arith, e, c.requires.room);
    }

pub returns : goal.returns
returns c =
    let test = c.is_sound in
    let sound = sym test.ensures ∙ c.if-not-is_sound.false in
    written_as (dump_sound c.args.state.now c.requires.state_len sound) c.put_state.ensures
