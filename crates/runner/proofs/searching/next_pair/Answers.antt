-- The ends are passed over as many at a time as one look shows. Assumes nothing.
use Rattle.std.proofs.Common.{◌+◌, ◌-◌, arith}
use Rattle.rules.specs.Limits.{record_count}
use Rattle.rules.specs.Layout.{view}
use Rattle.runner.proofs.Search.{not_at, passed_more}
use Rattle.runner.proofs.searching.next_pair.Goals as goal

pub loop-p-preserved : goal.loop-p-preserved
loop-p-preserved c =
    let l = c.loop-p in
    let st = view c.args.m.now in
    let from = l.invariant.0 in
    let look = c.passed_from-passed in
    let most = look.ensures.within in (
      omega (arith, from),
      passed_more l.invariant.1 (omega (arith, from, most)) (omega arith)
          (λ i up below.
          not_at st i (l.p - record_count + (i - l.p)) (omega (arith, from, up)) (omega (arith, from, up))
          (look.ensures.passed (i - l.p) (omega (arith, up, below)))),
    )
