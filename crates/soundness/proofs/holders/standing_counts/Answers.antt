-- `standing_counts` counts the ends that the last items carry, one queue after the other, on top of the slots. The invariant: those of the
-- first e are counted. Assumes nothing.
use Rattle.std.proofs.Common.{ap, ℕ, ◌+◌, ◌*◌, arith}
use Rattle.rules.specs.State.{end_at, last_of}
use Rattle.rules.specs.Sound.{in_last}
use Rattle.rules.specs.Layout.{view}
use Rattle.soundness.specs.Counts.{slots_in_all, places_in_all, standing}
use Rattle.soundness.proofs.Counting.{last_few, added_as, counted_more, counted_as}
use Rattle.soundness.proofs.Standing.{standing_first, standing_none, standing_more, standing_all, end_canonical}
use Rattle.soundness.proofs.holders.standing_counts.Goals as goal

pub loop-e-init : goal.loop-e-init
loop-e-init c =
    let m = c.args.m.now in
    counted_as (slots_in_all + 2 * 0) (standing_first m 0) c.held_counts-counts.ensures (omega arith) (standing_none m)

pub last_of-requires : goal.last_of-requires
last_of-requires c = (c.requires.0, omega arith, end_canonical c.args.m.now c.requires.1 c.loop-e.e (omega arith))

pub loop-e-preserved : goal.loop-e-preserved
loop-e-preserved c =
    let m = c.args.m.now in
    let e = c.loop-e.e in
    let last = last_of (end_at (view m) e) in
    let one = added_as (λ (k : ℕ). in_last k last) c.count_carried.ensures
    (λ k. ap (in_last k) c.last_of.ensures.is) in
    counted_more (slots_in_all + 2 * e) 2 (slots_in_all + 2 * (e + 1)) (standing_first m (e + 1)) c.loop-e.invariant one (omega arith)
    (λ k. last_few k last) (omega arith) (standing_more m e (omega arith))

pub returns : goal.returns
returns c =
    let m = c.args.m.now in
    let l = c.loop-e in
    counted_as places_in_all (standing (view m)) l.invariant (omega arith) (standing_all m l.e (omega arith))
