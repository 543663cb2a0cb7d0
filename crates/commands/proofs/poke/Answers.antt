-- `poke` reads the first word, then what stands behind the space. Assumes nothing.
use Rattle.std.proofs.Common.{sym, ap, ◌∙◌, List, ◌≤◌, arith, ℕ, length}
use Rattle.text.specs.Read.{number_read}
use Rattle.commands.specs.Asked.{Asked, number_limit, full_asked, with_bytes, poke}
use Rattle.commands.specs.Meaning.{meaning}
use Rattle.commands.proofs.Parsing.{two_none, two_number, two_bad, rest_length}
use Rattle.commands.proofs.poke.Goals as goal

-- what is asked with the place and the word behind it
abbrev with_rest : ℕ → List ℕ → Asked
with_rest at word = with_bytes word (poke at)

pub returns-in_err-word-clause-is : goal.returns-in_err-word-clause-is
unfolding full_asked
returns-in_err-word-clause-is c =
    let a = c.args in
    ap (meaning a.bytes.now) c.from_residual.ensures ∙ two_none number_limit a.words.now with_rest c.in_err-word.ensures

pub returns-in_err-at-clause-is : goal.returns-in_err-at-clause-is
unfolding full_asked
returns-in_err-at-clause-is c =
    let a = c.args in
    let parts = c.in_ok-word.ensures in
    let bad = ap number_read (sym c.in_err-at.was) ∙ c.read_number.ensures in
    ap (meaning a.bytes.now) c.from_residual-in_err-at.ensures ∙ two_bad number_limit a.words.now with_rest parts.0 parts.1 bad

pub with_bytes-requires : goal.with_bytes-requires
with_bytes-requires c =
    let parts = c.in_ok-word.ensures in
    let short : length c.in_ok-word.behind.now ≤ length c.args.words.now = rw parts.2 (rest_length c.args.words.now) in
    (omega arith, omega arith)

pub returns-clause-is : goal.returns-clause-is
unfolding full_asked
returns-clause-is c =
    let a = c.args in
    let parts = c.in_ok-word.ensures in
    let at = ap number_read (sym c.in_ok-at.was) ∙ c.read_number.ensures in
    two_number number_limit a.words.now with_rest c.in_ok-at.at parts.0 parts.1 parts.2 at c.with_bytes.ensures.is
