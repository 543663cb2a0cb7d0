-- `records_are_canonical` looks at one record after the other. The invariant: the first i pass. Assumes nothing.
use Rattle.std.proofs.Common.{◌≡◌, ap, ◌∙◌, Bool, List, ℕ, ◌+◌, ◌*◌, arith, not}
use Rattle.rules.specs.Limits.{record_count}
use Rattle.rules.specs.Layout.{records_at, record_size}
use Rattle.canonical.specs.Canonical.{part, canonical_record, record_test}
use Rattle.canonical.proofs.Tests.{every_none, turn_fails, turn_passes}
use Rattle.canonical.proofs.Bytes.{part_is}
use Rattle.canonical.proofs.records_are_canonical.Goals as goal

-- the part that is lent is the record's
tested : (m : List ℕ) (i : ℕ) {b : Bool}
    → b ≡ canonical_record (part (records_at + record_size * i) (records_at + record_size * i + record_size) m) → b ≡ record_test m i
unfolding record_test
tested m i e = e ∙ ap canonical_record (part_is (records_at + record_size * i) record_size m)

pub loop-i-init : goal.loop-i-init
loop-i-init c = every_none (record_test c.args.m.now)

pub returns-then-not-record_is_canonical : goal.returns-then-not-record_is_canonical
returns-then-not-record_is_canonical c =
    let m = c.args.m.now in
    let i = c.loop-i.i in
    turn_fails (record_test m) i (tested m i c.record_is_canonical.ensures) record_count (omega arith)
    (ap not c.if-not-record_is_canonical.true)

pub loop-i-preserved : goal.loop-i-preserved
loop-i-preserved c =
    let m = c.args.m.now in
    let i = c.loop-i.i in
    let answer = tested m i c.record_is_canonical.ensures in
    turn_passes (record_test m) i answer c.loop-i.invariant (ap not c.if-not-record_is_canonical.false)
