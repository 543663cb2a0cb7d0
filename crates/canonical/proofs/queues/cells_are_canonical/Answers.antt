-- `cells_are_canonical` goes on behind a datum, and ends at anything else. The invariant: the cells from i on decide. Assumes nothing.
use Rattle.std.proofs.Common.{sym, ◌∙◌, arith}
use Rattle.canonical.proofs.Cells.{turn_go, turn_end, turn_stop, cells_all}
use Rattle.canonical.proofs.queues.cells_are_canonical.Goals as goal

pub returns-then-i-count : goal.returns-then-i-count
returns-then-i-count c =
    let a = c.args in
    let i = c.loop-i.i in
    let other = sym c.is_datum.ensures ∙ c.if-not-is_datum.true in
    sym (c.loop-i.invariant
    ∙ turn_stop a.queue.now a.count c.requires.1 i (omega arith) c.get64-cell.ensures
    other c.if-i-count.true)

pub returns-then-not-is_datum : goal.returns-then-not-is_datum
returns-then-not-is_datum c =
    let a = c.args in
    let i = c.loop-i.i in
    let other = sym c.is_datum.ensures ∙ c.if-not-is_datum.true in
    c.is_last.ensures
    ∙ sym (c.loop-i.invariant
    ∙ turn_end a.queue.now a.count c.requires.1 i (omega arith) c.get64-cell.ensures
    other c.if-i-count.false)

pub loop-i-preserved : goal.loop-i-preserved
loop-i-preserved c =
    let a = c.args in
    let i = c.loop-i.i in
    let datum = sym c.is_datum.ensures ∙ c.if-not-is_datum.false in
    c.loop-i.invariant ∙ turn_go a.queue.now a.count c.requires.1 i (omega arith) c.get64-cell.ensures datum

pub returns : goal.returns
returns c =
    let a = c.args in
    sym (c.loop-i.invariant ∙ cells_all a.queue.now a.count c.requires.1 c.loop-i.i (omega arith))
