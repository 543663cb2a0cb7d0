-- The first byte at the record's place tells the instruction. Assumes nothing.
use Rattle.std.proofs.Common.{◌≡◌, refl, ap, ◌∙◌, subst, List, ℕ, ◌≤◌, length, get_or, pos}
use mathlib.Core.Option.{some}
use Rattle.rules.specs.Instruction.{decode}
use Rattle.rules.specs.Printed.{Printed, printed, instruction_kind, printed_decoded, printed_at}
use Rattle.rules.specs.Layout.{view}
use Rattle.stepping.proofs.Steps.{memory_sized}
use Rattle.printed.specs.Meaning.{row_of, name_in}
use Rattle.printed.proofs.Telling.{record_prints}
use Rattle.printed.proofs.Naming.{first_named, past_code}
use Rattle.printed.proofs.reading.of_record.Goals as goal
use Rattle.printed.proofs.reading.of_record.Goals.{After-place_of-place}

-- what is printed is decoded at the place that was read
told : (c : After-place_of-place) (z : Printed)
    → let a = c.args in
    let st = view a.m.now in
    printed_at st a.position ≡ some z → printed_decoded a.position (decode st.code c.place_of-place.result) ≡ some z
told c z h =
    let a = c.args in
    let st = view a.m.now in
    let s = c.requires.2 in
    let placed = c.place_of-place.ensures st (memory_sized a.m.now s) (s.state_sound.S1.records_within _) s.laid_out in
    record_prints st a.position c.place_of-place.result _ z c.requires.1 placed refl h

pub returns-then-code-place : goal.returns-then-code-place
returns-then-code-place c z h =
    let a = c.args in
    let past = subst (λ (l : List ℕ). length l ≤ c.place_of-place.result) c.code-code.ensures c.if-code-place.true in
    past_code (view a.m.now).code c.place_of-place.result a.position z past
    (told (goal.at.returns-then-code-place c).After-place_of-place z h)

pub returns : goal.returns
returns c z h =
    let a = c.args in
    let place = c.place_of-place.result in
    ap (λ (l : List ℕ). printed a.position (instruction_kind (name_in (row_of (get_or l place 0)))) (pos 0)) c.code-code.ensures
    ∙ first_named (view a.m.now).code place a.position z (told (goal.at.returns c).After-place_of-place z h)
