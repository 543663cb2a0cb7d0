-- `wait_counts` counts the waits of one queue after the other. The invariant: those of the first e are counted. Assumes nothing.
use Rattle.std.proofs.Common.{ap, ℕ, ◌+◌, arith}
use Rattle.rules.specs.Limits.{record_count, end_count}
use Rattle.rules.specs.State.{end_at, last_of}
use Rattle.rules.specs.Sound.{named_by_last, waits_naming}
use Rattle.rules.specs.Layout.{view}
use Rattle.soundness.proofs.Counting.{name_few, added_as, counted_none, counted_more, counted_as}
use Rattle.soundness.proofs.Standing.{end_canonical}
use Rattle.soundness.proofs.Waiting.{named_first, named_none, named_more, named_all}
use Rattle.soundness.proofs.waits.wait_counts.Goals as goal

pub loop-e-init : goal.loop-e-init
loop-e-init c =
    let m = c.args.m.now in
    counted_none record_count (named_first m 0) (named_none m)

pub last_of-requires : goal.last_of-requires
last_of-requires c = (c.requires.0, omega arith, end_canonical c.args.m.now c.requires.1 c.loop-e.e (omega arith))

pub loop-e-preserved : goal.loop-e-preserved
loop-e-preserved c =
    let m = c.args.m.now in
    let e = c.loop-e.e in
    let last = last_of (end_at (view m) e) in
    let one = added_as (λ (r : ℕ). named_by_last r last) c.count_wait.ensures
    (λ r. ap (named_by_last r) c.last_of.ensures.is) in
    counted_more e 1 (e + 1) (named_first m (e + 1)) c.loop-e.invariant one (omega arith) (λ r. name_few r last) (omega arith)
    (named_more m e (omega arith))

pub returns : goal.returns
returns c =
    let m = c.args.m.now in
    let l = c.loop-e in
    counted_as end_count (waits_naming (view m)) l.invariant (omega arith) (named_all m l.e (omega arith))
