-- `with_numbers` reads the first word, then what stands behind the space. Assumes nothing.
use Rattle.std.proofs.Common.{sym, ap, ◌∙◌, List, [], ℕ, arith}
use Rattle.text.specs.Digits.{number_in}
use Rattle.text.specs.Read.{number_read}
use Rattle.commands.specs.declared.Name.{Name}
use Rattle.commands.specs.Asked.{Asked, number_limit, with_number}
use Rattle.commands.specs.Meaning.{asks, meaning}
use Rattle.commands.proofs.Parsing.{two_none, two_number, two_bad, number_within}
use Rattle.commands.proofs.with_numbers.Goals as goal

-- what is asked with the first number and the word behind it
abbrev with_second : Name → ℕ → List ℕ → Asked
with_second name first word = with_number (number_in number_limit word) (λ second. asks name first second [])

pub returns-in_err-word-clause-is : goal.returns-in_err-word-clause-is
returns-in_err-word-clause-is c =
    let a = c.args in
    λ bytes. ap (meaning bytes) c.from_residual.ensures ∙ two_none a.limit a.words.now (with_second a.name) c.in_err-word.ensures

pub returns-in_err-first-clause-is : goal.returns-in_err-first-clause-is
returns-in_err-first-clause-is c =
    let a = c.args in
    let parts = c.in_ok-word.ensures in
    let bad = ap number_read (sym c.in_err-first.was) ∙ c.read_number.ensures in
    λ bytes. ap (meaning bytes) c.from_residual-in_err-first.ensures
    ∙ two_bad a.limit a.words.now (with_second a.name) parts.0 parts.1 bad

pub with_number-requires : goal.with_number-requires
with_number-requires c =
    let first = ap number_read (sym c.in_ok-first.was) ∙ c.read_number.ensures in
    omega (arith, number_within c.args.limit c.in_ok-first.first c.in_ok-word.word.now first, c.requires)

pub returns-clause-is : goal.returns-clause-is
returns-clause-is c =
    let a = c.args in
    let parts = c.in_ok-word.ensures in
    let first = ap number_read (sym c.in_ok-first.was) ∙ c.read_number.ensures in
    λ bytes. two_number a.limit a.words.now (with_second a.name) c.in_ok-first.first parts.0 parts.1 parts.2 first
    (c.with_number.ensures.is bytes)
