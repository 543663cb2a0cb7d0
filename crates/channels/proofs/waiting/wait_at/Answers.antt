-- wait_at: 13, or a wait on the queue and the record waiting as it stands. Assumes nothing.
use Rattle.std.proofs.Common.{refl}
use Rattle.channels.proofs.Answers.{full_step, sent}
use Rattle.channels.proofs.waiting.wait_at.Goals as goal

pub returns-in_err-append : goal.returns-in_err-append
returns-in_err-append c g h = record { waited = full_step _ _ c.from_residual.ensures.1 (c.in_err-append.ensures _ g h) _ refl }

pub returns : goal.returns
returns c g h =
    let s = c.requires.holds_end.sound in
    record {
      waited = sent (c.in_ok-append.ensures _ g h) s refl _ _
          (λ st l q. c.save_waiting.ensures st _ l q h.is_held) refl;
    }
