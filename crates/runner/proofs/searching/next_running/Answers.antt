-- The records are looked at one after the other. Assumes nothing.
use Rattle.std.proofs.Common.{sym, ◌∙◌}
use Rattle.rules.specs.Layout.{view}
use Rattle.stepping.proofs.Steps.{memory_sized}
use Rattle.runner.proofs.Search.{record_idle, passed_one}
use Rattle.runner.proofs.searching.next_running.Goals as goal

pub loop-p-preserved : goal.loop-p-preserved
loop-p-preserved c =
    let l = c.loop-p in
    let m = c.args.m.now in
    let s = c.requires.2 in
    let below = c.loop-p-test.true in
    let status = c.status_of.ensures (view m) (memory_sized m s) s.laid_out in
    passed_one l.invariant below (record_idle (view m) l.p below status (sym c.eq.ensures ∙ c.if-eq.false))
