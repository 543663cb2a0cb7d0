-- `code::forms::hcase_at` meets its contract: k is tested from below, from above and against the length of the code, and each answer is a
-- law of the row of hcase. Assumes nothing.
use Rattle.std.proofs.Common.{◌≡◌, sym, ◌∙◌, ◌+◌, ◌*◌, arith, eq-eqb, ne_eqb, lt-ltb, le-ltb}
use mathlib.Core.Option.{some}
use Rattle.rules.specs.Limits.{cases_limit}
use Rattle.rules.specs.Instruction.{Form, form, hcase_name, places_listed, hcase, form_of, form_in, byte_at, places_at, instruction_at}
use Rattle.code.proofs.Decoding.{good, few_listed, many_listed, past_code}
use Rattle.code.proofs.forms.hcase_at.Goals as goal
use Rattle.code.proofs.forms.hcase_at.Goals.{Start}

abbrev hcase_row : Form
hcase_row = form 0x19 hcase_name 3 places_listed

row : (s : Start) → form_of (byte_at s.args.code.now s.args.place 0) ≡ some hcase_row
unfolding form_of form_in
row s = rw s.requires.0

pub returns-then-k-eq0 : goal.returns-then-k-eq0
returns-then-k-eq0 c =
    let k = sym c.byte_at-k.ensures in
    few_listed _ _ hcase_row (row (goal.at.returns-then-k-eq0 c).Start) (eq-eqb _ 0 (k ∙ c.if-k-eq0.true))

pub returns-then-k-gt-CASES_LIMIT : goal.returns-then-k-gt-CASES_LIMIT
returns-then-k-gt-CASES_LIMIT c =
    let k = byte_at c.args.code.now c.args.place 2 in
    many_listed _ _ hcase_row (row (goal.at.returns-then-k-gt-CASES_LIMIT c).Start) (lt-ltb cases_limit k (omega arith))

pub returns-then-code-listed : goal.returns-then-code-listed
returns-then-code-listed c = past_code _ _ hcase_row (row (goal.at.returns-then-code-listed c).Start) (omega arith)

pub returns : goal.returns
unfolding instruction_at
returns c =
    let code = c.args.code.now in
    let place = c.args.place in
    let k = c.byte_at-k.ensures in
    let after : c.args.listed + 2 * c.byte_at-k.result ≡ place + 3 + 2 * byte_at code place 2 = omega arith in
    let few = ne_eqb (byte_at code place 2) 0 (λ z. c.if-k-eq0.false (k ∙ z)) in
    let many = le-ltb cases_limit (byte_at code place 2) (omega arith) in
    rw c.found.ensures ((λ i. some (record { instruction = hcase (c.slot_at.ensures i) (places_at code place 3 (k i)); next = after i }))
    ∙ good code place hcase_row (row (goal.at.returns c).Start) (omega arith) few many (omega arith))
