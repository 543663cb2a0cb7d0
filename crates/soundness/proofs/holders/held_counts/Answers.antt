-- `held_counts` counts the slots of one record after the other. The invariant: those of the first i are counted. Assumes nothing.
use Rattle.std.proofs.Common.{ap, ◌∙◌, List, ℕ, ◌+◌, ◌*◌, arith, length}
use Rattle.rules.specs.Limits.{end_count, slot_count}
use Rattle.rules.specs.Count.{total}
use Rattle.rules.specs.Sound.{held_in}
use Rattle.rules.specs.Layout.{records_at, record_size, view_record, view}
use Rattle.canonical.specs.Canonical.{canonical_record, record_part}
use Rattle.canonical.proofs.Bytes.{part_is, length_part}
use Rattle.soundness.specs.Counts.{slots_in_all}
use Rattle.soundness.proofs.Counting.{added_as, counted_none, counted_more, counted_as}
use Rattle.soundness.proofs.Standing.{held_few, held_first, held_none, held_more, held_all, record_canonical}
use Rattle.soundness.proofs.holders.held_counts.Goals as goal

pub loop-i-init : goal.loop-i-init
loop-i-init c = counted_none end_count (held_first c.args.m.now 0) (held_none c.args.m.now)

pub count_record-requires : goal.count_record-requires
count_record-requires c =
    let m = c.args.m.now in
    let i = c.loop-i.i in
    let l = c.loop-i.invariant in
    let same = part_is (records_at + record_size * i) record_size m in
    let right = ap canonical_record same ∙ record_canonical m c.requires.1 i (omega arith) in
    (l.size, ap length same ∙ length_part (records_at + record_size * i) record_size m (omega arith), right, λ k. omega (arith, l.small k))

pub loop-i-preserved : goal.loop-i-preserved
loop-i-preserved c =
    let m = c.args.m.now in
    let i = c.loop-i.i in
    let p = record_part m i in
    let same = part_is (records_at + record_size * i) record_size m in
    let one = added_as (λ (e : ℕ). held_in e (view_record p)) c.count_record.ensures
    (λ e. ap (λ (r : List ℕ). held_in e (view_record r)) same) in
    counted_more (slot_count * i) slot_count (slot_count * (i + 1)) (held_first m (i + 1)) c.loop-i.invariant one (omega arith)
    (held_few p) (omega arith) (held_more m i (omega arith))

pub returns : goal.returns
returns c =
    let m = c.args.m.now in
    let l = c.loop-i in
    counted_as slots_in_all (λ (e : ℕ). total (held_in e) (view m).records) l.invariant (omega arith) (held_all m l.i (omega arith))
