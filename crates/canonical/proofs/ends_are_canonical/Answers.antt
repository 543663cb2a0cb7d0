-- `ends_are_canonical` looks at one end after the other. The invariant: the first e pass. Assumes nothing.
use Rattle.std.proofs.Common.{◌≡◌, ap, ◌∙◌, Bool, List, ℕ, ◌+◌, ◌*◌, arith, get_or, not}
use Rattle.rules.specs.Limits.{end_count}
use Rattle.rules.specs.Bytes.{number_at}
use Rattle.rules.specs.Slots.{in_set}
use Rattle.rules.specs.Layout.{free_size, queue_size, free_at, partners_at, counts_at, queues_at}
use Rattle.canonical.specs.Canonical.{part, canonical_end, end_test}
use Rattle.canonical.proofs.Tests.{every_none, turn_fails, turn_passes}
use Rattle.canonical.proofs.Bytes.{part_is}
use Rattle.canonical.proofs.ends_are_canonical.Goals as goal

-- the end's bit, partner, count and bytes, as they are lent
tested : (m : List ℕ) (e : ℕ) {word : ℕ} {free b : Bool} → word ≡ number_at free_size m free_at → free ≡ in_set word e
    → b ≡ canonical_end free (get_or m (partners_at + e) 0) (get_or m (counts_at + e) 0)
    (part (queues_at + queue_size * e) (queues_at + queue_size * e + queue_size) m)
    → b ≡ end_test m e
unfolding end_test
tested m e w f t =
    let bit = f ∙ ap (λ (k : ℕ). in_set k e) w in
    let bytes = part_is (queues_at + queue_size * e) queue_size m in
    t ∙ (λ i. canonical_end (bit i) (get_or m (partners_at + e) 0) (get_or m (counts_at + e) 0) (bytes i))

pub loop-e-init : goal.loop-e-init
loop-e-init c = every_none (end_test c.args.m.now)

pub returns-then-not-end_is_canonical : goal.returns-then-not-end_is_canonical
returns-then-not-end_is_canonical c =
    let m = c.args.m.now in
    let e = c.loop-e.e in
    let answer = tested m e c.get64-word.ensures c.is_free.ensures c.end_is_canonical.ensures in
    turn_fails (end_test m) e answer end_count (omega arith) (ap not c.if-not-end_is_canonical.true)

pub loop-e-preserved : goal.loop-e-preserved
loop-e-preserved c =
    let m = c.args.m.now in
    let e = c.loop-e.e in
    let answer = tested m e c.get64-word.ensures c.is_free.ensures c.end_is_canonical.ensures in
    turn_passes (end_test m) e answer c.loop-e.invariant (ap not c.if-not-end_is_canonical.false)
