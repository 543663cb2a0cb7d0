-- 24, 1, or neither. Assumes nothing.
use Rattle.std.proofs.Common.{sym, ◌∙◌, arith}
use Rattle.machine.proofs.FirstRows.{another_length, not_sound, is_right}
use Rattle.machine.proofs.tested.Goals as goal

pub returns-then-state-ne-STATE_SIZE : goal.returns-then-state-ne-STATE_SIZE
returns-then-state-ne-STATE_SIZE c = another_length c.args.state.now (λ e. absurd (omega (arith, e, c.if-state-ne-STATE_SIZE.true)))

pub returns-then-not-is_sound : goal.returns-then-not-is_sound
returns-then-not-is_sound c =
    not_sound c.args.state.now c.if-state-ne-STATE_SIZE.false
    (sym c.is_sound.ensures ∙ c.if-not-is_sound.true)

pub returns : goal.returns
returns c =
    is_right c.args.state.now c.if-state-ne-STATE_SIZE.false
    (sym c.is_sound.ensures ∙ c.if-not-is_sound.false)
