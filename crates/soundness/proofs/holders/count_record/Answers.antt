-- `count_record` counts the slots of a record in use. Assumes nothing.
use Rattle.std.proofs.Common.{ℕ, arith}
use Rattle.rules.specs.Limits.{end_count, slot_count}
use Rattle.rules.specs.Sound.{held_in}
use Rattle.rules.specs.Layout.{view_record}
use Rattle.canonical.specs.Canonical.{slots_from}
use Rattle.canonical.proofs.Bytes.{length_part}
use Rattle.soundness.proofs.Counting.{added_none, added_as}
use Rattle.soundness.proofs.Standing.{held_free, held_used, used_fits}
use Rattle.soundness.proofs.holders.count_record.Goals as goal

pub returns-then-bytes-eq0 : goal.returns-then-bytes-eq0
returns-then-bytes-eq0 c =
    let a = c.args in
    let p = a.bytes.now in
    added_none end_count (λ (e : ℕ). held_in e (view_record p)) a.counts.now (held_free p c.if-bytes-eq0.true)

pub count_slots-requires : goal.count_slots-requires
count_slots-requires c =
    let p = c.args.bytes.now in
    let fits = used_fits p c.if-bytes-eq0.false c.requires.2 in
    (c.requires.0, length_part slots_from slot_count p (omega arith), fits, c.requires.3)

pub returns : goal.returns
returns c =
    let p = c.args.bytes.now in
    added_as (λ (e : ℕ). held_in e (view_record p)) c.count_slots.ensures (held_used p c.if-bytes-eq0.false)
