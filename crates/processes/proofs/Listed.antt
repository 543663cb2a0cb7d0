-- The slots that a run lists are the part of the code behind its fixed part. Assumes nothing.
use mathlib.Core.Path.{◌≡◌, sym, ap, ◌∙◌}
use mathlib.Core.List.{List}
use Prim.Native.Nat.{ℕ, ◌+◌, ◌-◌, ◌≤◌, ◌<◌}
use native.Mathlib.Omega.{arith}
use lib.ListN.{length, get_or, take, drop, length-take, length-drop}
use lib.Seq.{get_or-take, get_or-drop}
use Rattle.rules.specs.Instruction.{byte_at, slots_at}
use Rattle.words.proofs.Tables.{table_is}

pub listed_part : (code : List ℕ) (at j : ℕ) → at + 5 + j ≤ length code
    → take (at + 5 + j - (at + 5)) (drop (at + 5) code) ≡ slots_at code at 5 j
unfolding slots_at
listed_part code at j h =
    let n : at + 5 + j - (at + 5) ≡ j = omega arith in
    let part = take j (drop (at + 5) code) in
    let long : length part ≡ j = omega (arith, length-take j (drop (at + 5) code), length-drop (at + 5) code) in
    ap (λ (k : ℕ). take k (drop (at + 5) code)) n
    ∙ sym (table_is 0 j (λ (i : ℕ). byte_at code at (5 + i)) part long (each j))
  where
    each : (j i : ℕ) → i < j → byte_at code at (5 + i) ≡ get_or (take j (drop (at + 5) code)) i 0
    each j i l =
        sym
        (get_or-take j (drop (at + 5) code) i 0 l
        ∙ get_or-drop (at + 5) code i 0
        ∙ ap (λ (k : ℕ). get_or code k 0) (omega arith))
