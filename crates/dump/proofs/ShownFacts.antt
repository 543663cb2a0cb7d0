-- The text of a state, computed from the definitions: one line of each kind, and document 01's "One run in full" after four steps.
-- Assumes nothing.
use mathlib.Core.Path.{◌≡◌, refl}
use mathlib.Core.Option.{none, some}
use mathlib.Core.List.{[], ◌∷◌, ◌++◌}
use lib.IntN.{pos, negsuc}
use Rattle.rules.specs.State.{value, handle, split_item, used, registers, waiting, start}
use Rattle.rules.specs.Run.{steps, reached_by}
use Rattle.rules.specs.Text.{text}
use Rattle.rules.proofs.Computing.{computing}
use Rattle.rules.proofs.FullRun.{code}
use Rattle.text.specs.Written.{hex_digit, hex_byte, hex_text}
use Rattle.dump.specs.Shown.{behind_commas, list_text, by_number, values_text, slot_text, slot_texts, slots_text, registers_text}
use Rattle.dump.specs.Shown.{record_text}
use Rattle.dump.specs.Shown.{datum_text, last_text, last_texts, queue_texts, end_text, code_text, records_text, ends_text, state_text}

pub record_is : record_text 7 (waiting (registers 17 (pos 4 ∷ negsuc 4 ∷ []) (pos 1 ∷ []) (some 3 ∷ none ∷ some 15 ∷ none ∷ [])))
    ≡ text "R7 waiting 17 stack 4,-5 env 1 slots 0:3,2:15\n"
unfolding computing record_text registers_text values_text list_text behind_commas slots_text by_number slot_texts slot_text
record_is = refl

pub end_is : end_text 3 (used 4 (value (pos 4) ∷ handle 2 ∷ []) (some (split_item 5 6))) ≡ text "E3 partner 4 queue v4,h2,s5:6\n"
unfolding computing end_text list_text behind_commas queue_texts datum_text last_text last_texts
end_is = refl

pub four_steps : state_text (reached_by (start code) (steps 4 (start code) 0))
    ≡ text "code 14000000080000110100000004100016001100031600\n"
    ++ text "R0 running 15 stack - env - slots 0:0\n"
    ++ text "R1 waiting 17 stack - env - slots 0:1\n"
    ++ text "E0 partner 1 queue v4\nE1 partner 0 queue w1\nend\n"
unfolding computing hex_digit hex_byte hex_text state_text code_text records_text ends_text by_number record_text registers_text values_text
    list_text behind_commas slots_text slot_texts slot_text end_text queue_texts datum_text last_text last_texts
four_steps = refl
