-- Document 01, "One run in full", computed from the definitions: the image with its check, the printed text, the memory at the end, and
-- that every state on the way is sound. Assumes nothing.
use mathlib.Core.Path.{◌≡◌, refl}
use Prim.Native.Nat.{ℕ}
use mathlib.Core.Bool.{true}
use mathlib.Core.List.{List, [], ◌∷◌, ◌++◌, map}
use lib.ListN.{replicate}
use Rattle.rules.specs.Limits.{record_count, end_count}
use Rattle.rules.specs.State.{State, free_record, free_end, start}
use Rattle.rules.specs.Refusal.{done}
use Rattle.rules.specs.Run.{Step, steps, finished}
use Rattle.rules.specs.SoundTest.{sound_test, all}
use Rattle.rules.specs.Image.{image_of}
use Rattle.rules.specs.Text.{text}
use Rattle.rules.specs.Layout.{state_size, layout}
use Rattle.rules.specs.Calls.{load, sound_bytes, call_run}
use Rattle.rules.specs.Printed.{trace_text, trace_budget}
use Rattle.rules.proofs.Computing.{computing}

-- the code
abbrev pub code : List ℕ
code =
    0x14 ∷ 0x00 ∷ 0x00 ∷ 0x00 ∷ 0x08 ∷ 0x00 ∷ 0x00 ∷ 0x11 ∷ 0x01 ∷ 0x00 ∷ 0x00
    ∷ 0x00 ∷ 0x04 ∷ 0x10 ∷ 0x00 ∷ 0x16 ∷ 0x00 ∷ 0x11 ∷ 0x00 ∷ 0x03 ∷ 0x16 ∷ 0x00 ∷ []

-- its image is one block: 01 00 00 16, the code, zeros, check C7 9E
pub image_is : image_of code ≡ (0x01 ∷ 0x00 ∷ 0x00 ∷ 0x16 ∷ code) ++ replicate 484 0 ++ (0xC7 ∷ 0x9E ∷ [])
unfolding computing
image_is = refl

-- what the printing program writes for that image
pub text_is : trace_text (image_of code) ≡ text
    "1 R0 plug\n2 R1 get\n3 R0 cst\n4 R0 put\n5 E0 value 4\n6 R0 halt\n7 R1 store\n8 R1 halt\n9 E0 close\nfinished 9 33\n"
unfolding computing
text_is = refl

-- the nine states that the run reaches are sound, and so is the one it starts from
abbrev pub reached_in : Step → State
reached_in s = s.reached

pub sound_throughout : all sound_test (start code ∷ map reached_in (steps trace_budget (start code) 0)) ≡ true
unfolding computing
sound_throughout = refl

-- ---- the same on bytes

-- a lent memory of the fixed length, whatever it holds
abbrev pub lent : List ℕ
lent = replicate state_size 7

-- loading fills it with the start state and the code; the memory is right
pub loaded : load lent (image_of code) ≡ record { number = 0; memory = layout (start code) }
unfolding computing
loaded = refl

pub loaded_sound : sound_bytes (layout (start code)) ≡ true
unfolding computing
loaded_sound = refl

-- the state at the end: the code, every record and every end free
abbrev pub ended : State
ended = record { code = code; records = replicate record_count free_record; ends = replicate end_count free_end }

pub ran : call_run (layout (start code)) trace_budget 0
    ≡ record { answer = done (record { reached = ended; made = 9; next = 33; verdict = finished }); memory = layout ended }
unfolding computing
ran = refl
