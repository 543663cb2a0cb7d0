-- `parse` cuts a line that is no remark at its first space. Assumes nothing.
use Rattle.std.proofs.Common.{sym, ap, ◌∙◌, ◌≤◌, arith, length, Option as Named}
use Rattle.commands.specs.declared.Name.{Name}
use Rattle.commands.specs.Asked.{named_asked}
use Rattle.commands.specs.Meaning.{meaning}
use Rattle.commands.proofs.Parsing.{line_long, line_remark, line_bare, line_full, rest_length}
use Rattle.commands.proofs.parse.Goals as goal

pub returns-then-line-gt-LINE_LIMIT-clause-is : goal.returns-then-line-gt-LINE_LIMIT-clause-is
returns-then-line-gt-LINE_LIMIT-clause-is c = line_long c.args.line.now c.if-line-gt-LINE_LIMIT.true

pub returns-then-is_remark-clause-is : goal.returns-then-is_remark-clause-is
returns-then-is_remark-clause-is c =
    line_remark c.args.line.now c.if-line-gt-LINE_LIMIT.false (sym c.is_remark.ensures ∙ c.if-is_remark.true)

pub returns-in_default-clause-is : goal.returns-in_default-clause-is
returns-in_default-clause-is c =
    let other = sym c.is_remark.ensures ∙ c.if-is_remark.false in
    c.bare.ensures.is c.args.bytes.now ∙ line_bare c.args.line.now c.if-line-gt-LINE_LIMIT.false other c.in_default.ensures

pub returns-in_err-name-clause-is : goal.returns-in_err-name-clause-is
returns-in_err-name-clause-is c =
    let line = c.args.line.now in
    let parts = c.in-Some.ensures in
    let other = sym c.is_remark.ensures ∙ c.if-is_remark.false in
    let none = sym c.in_err-name.was ∙ c.name_in.ensures in
    ap (meaning c.args.bytes.now) c.from_residual.ensures
    ∙ ap (λ (n : Named Name). named_asked n c.in-Some.behind.now) none
    ∙ line_full line c.if-line-gt-LINE_LIMIT.false other parts.0 parts.1 parts.2

pub full-requires : goal.full-requires
full-requires c =
    let line = c.args.line.now in
    let parts = c.in-Some.ensures in
    let short : length c.in-Some.behind.now ≤ length line = rw parts.2 (rest_length line) in
    omega arith

pub returns-clause-is : goal.returns-clause-is
returns-clause-is c =
    let line = c.args.line.now in
    let parts = c.in-Some.ensures in
    let other = sym c.is_remark.ensures ∙ c.if-is_remark.false in
    let some = sym c.in_ok-name.was ∙ c.name_in.ensures in
    c.full.ensures.is ∙ ap (λ (n : Named Name). named_asked n c.in-Some.behind.now) some
    ∙ line_full line c.if-line-gt-LINE_LIMIT.false other parts.0 parts.1 parts.2
