-- run: what its rows say, or the callee. Assumes nothing.
use Rattle.std.proofs.Common.{arith}
use Rattle.rules.specs.Instruction.{slots_at, run}
use Rattle.rules.specs.Layout.{view}
use Rattle.keeping.proofs.Memories.{memory_length}
use Rattle.registers.proofs.Fields.{by_fields}
use Rattle.stepping.proofs.Steps.{done_step, memory_sized, in_range}
use Rattle.stepping.proofs.Begun.{Begun, own_refuses, within, held, passes}
use Rattle.processes.proofs.CallCases.{enough, run_done}
use Rattle.processes.proofs.calling.run.Goals as goal
use Rattle.processes.proofs.calling.run.Goals.{In_ok-refusal}
use Rattle.rules.specs.Refusal.{done}

pub load-held-requires : goal.load-held-requires
load-held-requires c = let p = c.requires in (memory_length _ p.0, in_range _ p.0 _ p.1)

-- no row holds
passed : (c : In_ok-refusal) → let a = c.args in
    Begun a.m.now a.r.0 (run a.place a.n (slots_at (view a.m.now).code a.at 5 a.j)) c.load-held.result (done tt)
passed c =
    record { sound = c.requires.0; load_is = c.load-held.ensures; reply_is = λ g w e. c.in_ok-refusal.ensures g c.args.place w e }

pub returns-in_err-refusal : goal.returns-in_err-refusal
returns-in_err-refusal c next g is =
    own_refuses _ _ c.from_residual.ensures.1
    (record { sound = c.requires.0; load_is = c.load-held.ensures; reply_is = λ g w e. c.in_err-refusal.ensures g c.args.place w e })
    next g is

pub callee-after-requires-clause-n_bound : goal.callee-after-requires-clause-n_bound
callee-after-requires-clause-n_bound c =
    let b = passed c in
    let g = c.requires.1.process in
    let is = c.requires.1.runs in
    let some = enough g c.args.place _ _ (passes b g is) in
    let count = (by_fields g (held b g is)).stack_count_is in
    (omega (arith, some, count), omega (arith, some, (within b g is).stack_within))

pub save_running-requires : goal.save_running-requires
save_running-requires c = let p = c.requires in (memory_length _ p.0, in_range _ p.0 _ p.1)

pub returns : goal.returns
returns c next g is =
    let m = c.args.m.now in
    let s = c.requires.0 in
    let b = passed (goal.at.returns c).In_ok-refusal in
    let after = c.callee-after.ensures g (within b g is) (held b g is) in
    done_step m _ (run_done g c.args.place _ _ (passes b g is) (view m) _ next)
    (c.save_running.ensures (view m) _ (memory_sized m s) s.laid_out after)
