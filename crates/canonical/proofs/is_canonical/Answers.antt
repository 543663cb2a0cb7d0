-- `is_canonical` tests in the order of the definition. Assumes nothing.
use Rattle.std.proofs.Common.{sym, ◌∙◌, [], ◌∷◌}
use Rattle.rules.specs.Limits.{record_count, end_count}
use Rattle.rules.specs.SoundTest.{every}
use Rattle.canonical.specs.Canonical.{canonical_code, record_test, end_test, canonical_bytes}
use Rattle.canonical.proofs.Tests.{false_at, last_decides}
use Rattle.canonical.proofs.is_canonical.Goals as goal

pub returns-then-not-code_is_canonical : goal.returns-then-not-code_is_canonical
unfolding canonical_bytes
returns-then-not-code_is_canonical c = sym (false_at _ 0 (sym c.code_is_canonical.ensures ∙ c.if-not-code_is_canonical.true))

pub returns-then-not-records_are_canonical : goal.returns-then-not-records_are_canonical
unfolding canonical_bytes
returns-then-not-records_are_canonical c =
    sym (false_at _ 1
    (sym c.records_are_canonical.ensures ∙ c.if-not-records_are_canonical.true))

pub returns : goal.returns
unfolding canonical_bytes
returns c =
    let m = c.args.m.now in
    let code = sym c.code_is_canonical.ensures ∙ c.if-not-code_is_canonical.false in
    let records = sym c.records_are_canonical.ensures
    ∙ c.if-not-records_are_canonical.false in
    c.ends_are_canonical.ensures
    ∙ sym (last_decides (canonical_code m ∷ every (record_test m) record_count ∷ []) (every (end_test m) end_count) (code, (records, tt)))
