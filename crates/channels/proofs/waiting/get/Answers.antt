-- get: 6, 8, 13, or a wait. Assumes nothing.
use Rattle.rules.specs.Instruction.{get}
use Rattle.rules.specs.Causes.{shared_causes}
use Rattle.rules.specs.RecordStep.{after}
use Rattle.stepping.proofs.Begun.{Begun, own_refuses, shared_left}
use Rattle.channels.proofs.Answers.{holds_end, runs_here, waited_step}
use Rattle.channels.proofs.Named.{get_named}
use Rattle.channels.proofs.waiting.get.Goals as goal
use Rattle.channels.proofs.waiting.get.Goals.{In_ok-get}
use Rattle.rules.specs.Refusal.{done}

-- no row 5 to 11 holds
passed : (c : In_ok-get) → let a = c.args in
    Begun a.m.now a.r.0 (get a.c.0) c.load-held.result (done tt)
passed c = record { sound = c.requires.0; load_is = c.load-held.ensures; reply_is = c.in_ok-get.ensures }

pub returns-in_err-get : goal.returns-in_err-get
returns-in_err-get c next g is =
    own_refuses _ _ c.from_residual.ensures.1
    (record { sound = c.requires.0; load_is = c.load-held.ensures; reply_is = c.in_err-get.ensures }) _ g is

pub wait_at-requires-clause-holds_end : goal.wait_at-requires-clause-holds_end
wait_at-requires-clause-holds_end c =
    holds_end (passed (goal.at.wait_at-requires-clause-holds_end c).In_ok-get) _ (get_named _)

pub returns : goal.returns
unfolding shared_causes after
returns c next g is =
    let b = passed (goal.at.returns c).In_ok-get in
    waited_step (c.wait_at.ensures g (runs_here b _ (get_named _) g is)) (shared_left b g is next)
