-- `queue_is_canonical` tests in the order of the definition. Assumes nothing.
use Rattle.std.proofs.Common.{◌≡◌, sym, ap, ◌∙◌, List, [], ◌∷◌, ℕ, ◌*◌, take, leb, le-leb}
use borrow.Author.Tests.{lt-leb}
use Rattle.rules.specs.Limits.{queue_depth}
use Rattle.rules.specs.Layout.{cell_size, queue_size}
use Rattle.canonical.specs.Canonical.{part, all_zero, cells_in, canonical_cells, canonical_queue}
use Rattle.canonical.proofs.Tests.{false_at, last_decides}
use Rattle.canonical.proofs.queues.queue_is_canonical.Goals as goal

-- the count that was widened is the count
counted : (bytes : List ℕ) {n k : ℕ} → n ≡ k → canonical_cells (take n (cells_in bytes)) ≡ canonical_cells (take k (cells_in bytes))
counted bytes e = ap (λ (k : ℕ). canonical_cells (take k (cells_in bytes))) e

pub returns-then-items-gt-QUEUE_DEPTH : goal.returns-then-items-gt-QUEUE_DEPTH
unfolding canonical_queue
returns-then-items-gt-QUEUE_DEPTH c =
    let k = c.args.count in
    sym (false_at _ 0 (lt-leb k queue_depth (rw c.from-items.ensures at c.if-items-gt-QUEUE_DEPTH.true)))

pub returns-then-not-cells_are_canonical : goal.returns-then-not-cells_are_canonical
unfolding canonical_queue
returns-then-not-cells_are_canonical c =
    let bytes = c.args.queue.now in
    let tested = c.cells_are_canonical.ensures ∙ counted bytes c.from-items.ensures in
    sym (false_at _ 1 (sym tested ∙ c.if-not-cells_are_canonical.true))

pub returns : goal.returns
unfolding canonical_queue
returns c =
    let a = c.args in
    let bytes = a.queue.now in
    let n = c.from-items.ensures in
    let few = le-leb a.count queue_depth (rw n at c.if-items-gt-QUEUE_DEPTH.false) in
    let cells = sym (c.cells_are_canonical.ensures ∙ counted bytes n)
    ∙ c.if-not-cells_are_canonical.false in
    c.all_zero.ensures
    ∙ ap (λ (k : ℕ). all_zero (part (cell_size * k) queue_size bytes)) n
    ∙ sym (last_decides (leb a.count queue_depth ∷ canonical_cells (take a.count (cells_in bytes)) ∷ [])
    (all_zero (part (cell_size * a.count) queue_size bytes)) (few, (cells, tt)))
