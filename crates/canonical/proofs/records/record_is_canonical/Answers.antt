-- `record_is_canonical` goes by the status. Assumes nothing.
use Rattle.std.proofs.Common.{sym, ◌∙◌, get_or, eq-eqb, ne_eqb, le-leb}
use borrow.Author.Tests.{lt-leb}
use Rattle.canonical.specs.Canonical.{canonical_record}
use Rattle.canonical.proofs.records.record_is_canonical.Goals as goal

pub returns-then-status-eq0 : goal.returns-then-status-eq0
unfolding canonical_record
returns-then-status-eq0 c =
    let p = c.args.bytes.now in
    c.all_zero.ensures ∙ sym (rw (eq-eqb (get_or p 0 0) 0 c.if-status-eq0.true))

pub returns-then-status-gt2 : goal.returns-then-status-gt2
unfolding canonical_record
returns-then-status-gt2 c =
    let p = c.args.bytes.now in
    sym (rw (ne_eqb (get_or p 0 0) 0 c.if-status-eq0.false, lt-leb (get_or p 0 0) 2 c.if-status-gt2.true))

pub returns : goal.returns
unfolding canonical_record
returns c =
    let p = c.args.bytes.now in
    c.registers_are_canonical.ensures
    ∙ sym (rw (ne_eqb (get_or p 0 0) 0 c.if-status-eq0.false, le-leb (get_or p 0 0) 2 c.if-status-gt2.false))
