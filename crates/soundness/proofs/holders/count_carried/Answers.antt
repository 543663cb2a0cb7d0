-- `count_carried` adds one for each of a split's two ends, and nothing else. Assumes nothing.
use Rattle.std.proofs.Common.{ap, ◌∙◌, ℕ, ◌+◌, Some, arith}
use Rattle.soundness.specs.declared.lasts.Last.{Last}
use Rattle.rules.specs.Limits.{end_count}
use Rattle.rules.specs.Count.{δ}
use Rattle.rules.specs.Sound.{in_last}
use Rattle.soundness.specs.Lasts.{last_meaning}
use Rattle.soundness.specs.Counts.{places_in_all, Added}
use Rattle.soundness.proofs.Counting.{added_one, added_both, added_as, added_below, one_few}
use Rattle.soundness.proofs.Standing.{split_within, split_counts}
use Rattle.soundness.proofs.holders.count_carried.Goals as goal
use Rattle.soundness.proofs.holders.count_carried.Goals.{After-add_one}

-- the first end is counted
first : (c : After-add_one)
    → Added end_count (λ (e : ℕ). δ e c.from.result)
    c.args.counts.now c.add_one.new.counts
first c =
    let within = split_within (c.in-Some-Split.is ∙ ap (λ (x : Last). Some x) (rw c.in-Some-Split.is at c.in-Some-Split.field-0-is))
    c.requires.1 in
    added_one end_count c.from.result c.args.counts.now c.requires.0 (omega (arith, c.from.ensures, within.0))
    c.add_one.ensures

pub add_one-requires : goal.add_one-requires
add_one-requires c =
    let within = split_within (c.in-Some-Split.is ∙ ap (λ (x : Last). Some x) (rw c.in-Some-Split.is at c.in-Some-Split.field-0-is))
    c.requires.1 in
    (omega (arith, c.from.ensures, within.0), omega (arith, c.requires.2 c.from.result))

pub add_one-requires-in-Some-Split : goal.add_one-requires-in-Some-Split
add_one-requires-in-Some-Split c =
    let within = split_within (c.in-Some-Split.is ∙ ap (λ (x : Last). Some x) (rw c.in-Some-Split.is at c.in-Some-Split.field-0-is))
    c.requires.1 in
    let small = added_below places_in_all 1 (places_in_all + 1) (first (goal.at.add_one-requires-in-Some-Split c).After-add_one)
    (omega arith)
    c.requires.2
    (one_few c.from.result) (omega arith) in
    (omega (arith, c.from-in-Some-Split.ensures, within.1), omega (arith, small c.from-in-Some-Split.result))

pub returns-in-Some-Split : goal.returns-in-Some-Split
returns-in-Some-Split c =
    let is = c.in-Some-Split.is ∙ ap (λ (x : Last). Some x) (rw c.in-Some-Split.is at c.in-Some-Split.field-0-is) in
    let within = split_within is c.requires.1 in
    let second = added_one end_count c.from-in-Some-Split.result c.add_one.new.counts (omega arith)
    (omega (arith, c.from-in-Some-Split.ensures, within.1)) c.add_one-in-Some-Split.ensures in
    added_as (λ (e : ℕ). in_last e (last_meaning c.args.last)) (added_both (first (goal.at.returns-in-Some-Split c).After-add_one) second)
    (split_counts is c.from.ensures c.from-in-Some-Split.ensures)
