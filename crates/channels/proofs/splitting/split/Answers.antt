-- split: 8, 11, 13, 15, or two new pairs and the split on the queue. Assumes nothing.
use Rattle.rules.specs.Instruction.{split}
use Rattle.stepping.proofs.Begun.{Begun, own_refuses, shared_left}
use Rattle.channels.proofs.Answers.{holds_end, runs_here, shared_step}
use Rattle.channels.proofs.Named.{split_named}
use Rattle.channels.proofs.splitting.split.Goals as goal
use Rattle.channels.proofs.splitting.split.Goals.{In_ok-split}
use Rattle.rules.specs.Refusal.{done}

-- no row 5 to 11 holds
passed : (c : In_ok-split) → let a = c.args in
    Begun a.m.now a.r.0 (split a.c.0 a.a.0 a.b.0) c.load-held.result (done tt)
passed c = record { sound = c.requires.0; load_is = c.load-held.ensures; reply_is = c.in_ok-split.ensures }

pub returns-in_err-split : goal.returns-in_err-split
returns-in_err-split c g is =
    own_refuses _ _ c.from_residual.ensures.1
    (record { sound = c.requires.0; load_is = c.load-held.ensures; reply_is = c.in_err-split.ensures }) _ g is

pub split_at-requires-clause-holds_end : goal.split_at-requires-clause-holds_end
split_at-requires-clause-holds_end c =
    holds_end (passed (goal.at.split_at-requires-clause-holds_end c).In_ok-split) _ (λ g. split_named _ g _ _)

pub returns : goal.returns
returns c g is =
    let b = passed (goal.at.returns c).In_ok-split in
    shared_step (c.split_at.ensures g (runs_here b _ (λ g. split_named _ g _ _) g is)) (shared_left b g is _)
