-- hcase: 8, 13, or a wait. Assumes nothing.
use Rattle.std.proofs.Common.{List, [], ℕ}
use Rattle.rules.specs.Instruction.{hcase}
use Rattle.rules.specs.Causes.{shared_causes}
use Rattle.rules.specs.RecordStep.{after}
use Rattle.stepping.proofs.Begun.{Begun, own_refuses, shared_left}
use Rattle.channels.proofs.Answers.{holds_end, runs_here, waited_step}
use Rattle.channels.proofs.Named.{hcase_named}
use Rattle.channels.proofs.waiting.hcase.Goals as goal
use Rattle.channels.proofs.waiting.hcase.Goals.{In_ok-hcase}
use Rattle.rules.specs.Refusal.{done}

-- no row 5 to 11 holds
passed : (c : In_ok-hcase) (places : List ℕ) → let a = c.args in
    Begun a.m.now a.r.0 (hcase a.c.0 places) c.load-held.result (done tt)
passed c places = record { sound = c.requires.0; load_is = c.load-held.ensures; reply_is = λ g w e. c.in_ok-hcase.ensures g places w e }

pub returns-in_err-hcase : goal.returns-in_err-hcase
returns-in_err-hcase c next places g is =
    own_refuses _ _ c.from_residual.ensures.1
    (record { sound = c.requires.0; load_is = c.load-held.ensures; reply_is = λ g w e. c.in_err-hcase.ensures g places w e }) _ g is

pub wait_at-requires-clause-holds_end : goal.wait_at-requires-clause-holds_end
wait_at-requires-clause-holds_end c =
    holds_end (passed (goal.at.wait_at-requires-clause-holds_end c).In_ok-hcase []) _ (λ g. hcase_named _ g _)

pub returns : goal.returns
unfolding shared_causes after
returns c next places g is =
    let b = passed (goal.at.returns c).In_ok-hcase places in
    waited_step (c.wait_at.ensures g (runs_here b _ (λ g. hcase_named _ g _) g is)) (shared_left b g is next)
