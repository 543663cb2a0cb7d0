-- `code::forms::run_at` meets its contract: j is tested against the length of the code, and each answer is a law of the row of run.
-- Assumes nothing.
use Rattle.std.proofs.Common.{◌≡◌, refl, ◌∙◌, ◌+◌, arith}
use mathlib.Core.Option.{some}
use Rattle.rules.specs.Instruction.{Form, form, run_name, slots_listed, run, form_of, form_in, byte_at, slots_at, instruction_at}
use Rattle.code.proofs.Decoding.{good, past_code}
use Rattle.code.proofs.forms.run_at.Goals as goal
use Rattle.code.proofs.forms.run_at.Goals.{Start}

abbrev run_row : Form
run_row = form 0x1A run_name 5 slots_listed

row : (s : Start) → form_of (byte_at s.args.code.now s.args.place 0) ≡ some run_row
unfolding form_of form_in
row s = rw s.requires.0

pub returns-then-code-listed : goal.returns-then-code-listed
returns-then-code-listed c = past_code _ _ run_row (row (goal.at.returns-then-code-listed c).Start) (omega arith)

pub returns : goal.returns
unfolding instruction_at
returns c =
    let code = c.args.code.now in
    let place = c.args.place in
    let p = c.place_at.ensures in
    let n = c.byte_at.ensures in
    let j = c.byte_at-j.ensures in
    let after : c.args.listed + c.byte_at-j.result ≡ place + 5 + byte_at code place 4 = omega arith in
    rw c.found.ensures ((λ i. some (record { instruction = run (p i) (n i) (slots_at code place 5 (j i)); next = after i }))
    ∙ good code place run_row (row (goal.at.returns c).Start) (omega arith) refl refl (omega arith))
