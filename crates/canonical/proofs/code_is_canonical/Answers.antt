-- `code_is_canonical` tests the length, then what stands behind the code. Assumes nothing.
use Rattle.std.proofs.Common.{sym, ap, ◌∙◌, ℕ, ◌+◌, le-leb}
use borrow.Author.Tests.{lt-leb}
use Rattle.rules.specs.Limits.{code_limit}
use Rattle.rules.specs.Layout.{records_at}
use Rattle.canonical.specs.Canonical.{part, all_zero, code_length, canonical_code}
use Rattle.canonical.proofs.code_is_canonical.Goals as goal

pub returns-then-n-gt-CODE_LIMIT : goal.returns-then-n-gt-CODE_LIMIT
unfolding canonical_code
returns-then-n-gt-CODE_LIMIT c =
    let m = c.args.m.now in
    sym (rw (lt-leb (code_length m) code_limit (rw (c.from-n.ensures ∙ c.get16.ensures) at c.if-n-gt-CODE_LIMIT.true)))

pub returns : goal.returns
unfolding canonical_code
returns c =
    let m = c.args.m.now in
    let n = c.from-n.ensures ∙ c.get16.ensures in
    c.all_zero.ensures ∙ ap (λ (k : ℕ). all_zero (part (2 + k) records_at m)) n
    ∙ sym (rw (le-leb (code_length m) code_limit (rw n at c.if-n-gt-CODE_LIMIT.false)))
