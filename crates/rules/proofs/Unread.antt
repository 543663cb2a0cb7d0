-- The trainee's method, computed from the definitions: one side puts the drift gas and halts, the other halts without reading it. No record
-- is in use at the end, but two ends are, and the run is stuck. Assumes nothing.
use mathlib.Core.Path.{◌≡◌, refl}
use Prim.Native.Nat.{ℕ}
use mathlib.Core.List.{List, [], ◌∷◌}
use Rattle.rules.specs.Image.{image_of}
use Rattle.rules.specs.Text.{text}
use Rattle.rules.specs.Printed.{trace_text}
use Rattle.rules.proofs.Computing.{computing}

-- plug; cst 4, put, halt; halt (examples/unread.md)
abbrev unread : List ℕ
unread =
    0x14 ∷ 0x00 ∷ 0x00 ∷ 0x00 ∷ 0x08 ∷ 0x00 ∷ 0x00 ∷ 0x11 ∷ 0x01 ∷ 0x00 ∷ 0x00
    ∷ 0x00 ∷ 0x04 ∷ 0x10 ∷ 0x00 ∷ 0x16 ∷ 0x00 ∷ 0x16 ∷ 0x00 ∷ []

pub unread_is_stuck : trace_text (image_of unread) ≡ text
    "1 R0 plug\n2 R1 halt\n3 R0 cst\n4 R0 put\n5 R0 halt\nstuck 5 1\n"
unfolding computing
unread_is_stuck = refl
