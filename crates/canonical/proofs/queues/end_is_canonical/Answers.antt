-- `end_is_canonical` goes by whether the end is free. Assumes nothing.
use Rattle.std.proofs.Common.{sym, ◌∙◌, [], ◌∷◌, eqb, eq-eqb, ne_eqb}
use Rattle.canonical.specs.Canonical.{all_zero, canonical_end}
use Rattle.canonical.proofs.Tests.{false_at, last_decides}
use Rattle.canonical.proofs.queues.end_is_canonical.Goals as goal

pub returns-then-not-free : goal.returns-then-not-free
unfolding canonical_end
returns-then-not-free c =
    let free = c.if-not-free.true in
    c.queue_is_canonical.ensures ∙ sym (rw free)

pub returns-then-partner-ne0 : goal.returns-then-partner-ne0
unfolding canonical_end
returns-then-partner-ne0 c =
    let a = c.args in
    let free = c.if-not-free.false in
    sym (rw free (false_at _ 0 (ne_eqb a.partner 0 c.if-partner-ne0.true)))

pub returns-then-count-ne0 : goal.returns-then-count-ne0
unfolding canonical_end
returns-then-count-ne0 c =
    let a = c.args in
    let free = c.if-not-free.false in
    sym (rw free (false_at _ 1 (ne_eqb a.count 0 c.if-count-ne0.true)))

pub returns : goal.returns
unfolding canonical_end
returns c =
    let a = c.args in
    let free = c.if-not-free.false in
    let partner = eq-eqb a.partner 0 c.if-partner-ne0.false in
    let count = eq-eqb a.count 0 c.if-count-ne0.false in
    c.all_zero.ensures
    ∙ sym (rw free (last_decides (eqb a.partner 0 ∷ eqb a.count 0 ∷ []) (all_zero a.queue.now) (partner, (count, tt))))
