-- `count_wait` adds one for the record that a wait names, and nothing else. Assumes nothing.
use Rattle.std.proofs.Common.{ap, ◌∙◌, ℕ, Some, arith}
use Rattle.soundness.specs.declared.lasts.Last.{Last}
use Rattle.rules.specs.Limits.{record_count}
use Rattle.rules.specs.Sound.{named_by_last}
use Rattle.soundness.specs.Lasts.{last_meaning}
use Rattle.soundness.proofs.Counting.{added_one, added_as}
use Rattle.soundness.proofs.Waiting.{wait_within, wait_names}
use Rattle.soundness.proofs.waits.count_wait.Goals as goal

pub add_one-requires : goal.add_one-requires
add_one-requires c =
    let within = wait_within (c.in-Some-Wait.is ∙ ap (λ (x : Last). Some x) (rw c.in-Some-Wait.is at c.in-Some-Wait.field-0-is))
    c.requires.1 in
    (omega (arith, c.from.ensures, within), omega (arith, c.requires.2 c.from.result))

pub returns-in-Some-Wait : goal.returns-in-Some-Wait
returns-in-Some-Wait c =
    let is = c.in-Some-Wait.is ∙ ap (λ (x : Last). Some x) (rw c.in-Some-Wait.is at c.in-Some-Wait.field-0-is) in
    let within = wait_within is c.requires.1 in
    let one = added_one record_count c.from.result c.args.counts.now c.requires.0
    (omega (arith, c.from.ensures, within)) c.add_one.ensures in
    added_as (λ (r : ℕ). named_by_last r (last_meaning c.args.last)) one (wait_names is c.from.ensures)
