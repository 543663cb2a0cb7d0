-- fork: 8, 10, 11, 13, or a wait. Assumes nothing.
use Rattle.rules.specs.Instruction.{fork}
use Rattle.rules.specs.Causes.{shared_causes}
use Rattle.rules.specs.RecordStep.{after}
use Rattle.stepping.proofs.Begun.{Begun, own_refuses, shared_left}
use Rattle.channels.proofs.Answers.{holds_end, runs_here, waited_step}
use Rattle.channels.proofs.Named.{fork_named}
use Rattle.channels.proofs.waiting.fork.Goals as goal
use Rattle.channels.proofs.waiting.fork.Goals.{In_ok-fork}
use Rattle.rules.specs.Refusal.{done}

-- no row 5 to 11 holds
passed : (c : In_ok-fork) → let a = c.args in
    Begun a.m.now a.r.0 (fork a.c.0 a.a.0 a.first.set a.first.place a.b.0 a.second.set a.second.place) c.load-held.result (done tt)
passed c = record { sound = c.requires.0; load_is = c.load-held.ensures; reply_is = c.in_ok-fork.ensures }

pub returns-in_err-fork : goal.returns-in_err-fork
returns-in_err-fork c next g is =
    own_refuses _ _ c.from_residual.ensures.1
    (record { sound = c.requires.0; load_is = c.load-held.ensures; reply_is = c.in_err-fork.ensures }) _ g is

pub wait_at-requires-clause-holds_end : goal.wait_at-requires-clause-holds_end
wait_at-requires-clause-holds_end c =
    holds_end (passed (goal.at.wait_at-requires-clause-holds_end c).In_ok-fork) _ (λ g. fork_named _ g _ _ _ _ _ _)

pub returns : goal.returns
unfolding shared_causes after
returns c next g is =
    let b = passed (goal.at.returns c).In_ok-fork in
    waited_step (c.wait_at.ensures g (runs_here b _ (λ g. fork_named _ g _ _ _ _ _ _) g is)) (shared_left b g is next)
