-- hput: 8, 13, or the handle on the queue. Assumes nothing.
use Rattle.std.proofs.Common.{refl}
use Rattle.rules.specs.Instruction.{hput}
use Rattle.rules.specs.Causes.{shared_causes}
use Rattle.rules.specs.RecordStep.{after}
use Rattle.stepping.proofs.Begun.{Begun, own_refuses, shared_left}
use Rattle.channels.proofs.Answers.{holds_end, runs_here, full_step, sent}
use Rattle.channels.proofs.Named.{hput_named}
use Rattle.channels.proofs.sending.hput.Goals as goal
use Rattle.channels.proofs.sending.hput.Goals.{In_ok-hput}
use Rattle.rules.specs.Refusal.{done}

-- no row 5 to 11 holds
passed : (c : In_ok-hput) → let a = c.args in
    Begun a.m.now a.r.0 (hput a.c.0 a.n) c.load-held.result (done tt)
passed c = record { sound = c.requires.0; load_is = c.load-held.ensures; reply_is = λ g w e. c.in_ok-hput.ensures g c.args.n w e }

pub returns-in_err-hput : goal.returns-in_err-hput
returns-in_err-hput c g is =
    own_refuses _ _ c.from_residual.ensures.1
    (record { sound = c.requires.0; load_is = c.load-held.ensures; reply_is = λ g w e. c.in_err-hput.ensures g c.args.n w e }) _ g is

pub append-requires : goal.append-requires
append-requires c = holds_end (passed (goal.at.append-requires c).In_ok-hput) _ (λ g. hput_named _ g _)

pub returns-in_err-append : goal.returns-in_err-append
unfolding shared_causes
returns-in_err-append c g is =
    let b = passed (goal.at.returns-in_err-append c).In_ok-hput in
    let runs = runs_here b _ (λ g. hput_named _ g _) g is in
    full_step _ _ c.from_residual-in_err-append.ensures.1 (c.in_err-append.ensures _ g runs) _ (shared_left b g is _)

pub returns : goal.returns
unfolding shared_causes after
returns c g is =
    let b = passed (goal.at.returns c).In_ok-hput in
    let runs = runs_here b _ (λ g. hput_named _ g _) g is in
    let moved = c.at.ensures g runs.is_held in
    sent (c.in_ok-append.ensures _ g runs) b.sound refl _ _
    (λ st l q. c.save_running.ensures st _ l q moved) (shared_left b g is _)
