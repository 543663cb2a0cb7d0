-- Decodes computed from the definition that no ask of a machine shows: the place after an instruction that does not go on to it or is
-- refused, and places that no code of a machine has. Assumes nothing.
use Prim.Native.Nat.{ℕ}
use mathlib.Core.Path.{◌≡◌, refl}
use mathlib.Core.Option.{Option, none, some}
use mathlib.Core.List.{[], ◌∷◌, ◌++◌}
use lib.ListN.{replicate}
use Rattle.rules.specs.Instruction.{Instruction, Decoded, decode, access, get, fork, plug, halt, same, hcase, run}
use Rattle.rules.proofs.Computing.{computing}

-- an instruction and the place after it
abbrev decoded : Instruction → ℕ → Option Decoded
decoded i next = some (record { instruction = i; next = next })

-- ---- the place after an instruction

pub access_is : decode (0x02 ∷ 0xFF ∷ []) 0 ≡ decoded (access 255) 2
unfolding computing
access_is = refl

pub fork_is : decode (0x13 ∷ 1 ∷ 2 ∷ 3 ∷ 1 ∷ 2 ∷ 4 ∷ 5 ∷ 3 ∷ 4 ∷ []) 0 ≡ decoded (fork 1 2 3 258 4 5 772) 10
unfolding computing
fork_is = refl

pub plug_is : decode (0x14 ∷ 1 ∷ 2 ∷ 1 ∷ 2 ∷ 3 ∷ 3 ∷ 4 ∷ []) 0 ≡ decoded (plug 1 2 258 3 772) 8
unfolding computing
plug_is = refl

pub halt_is : decode (0x16 ∷ 6 ∷ []) 0 ≡ decoded (halt 6) 2
unfolding computing
halt_is = refl

pub same_is : decode (0x17 ∷ 1 ∷ 7 ∷ []) 0 ≡ decoded (same 1 7) 3
unfolding computing
same_is = refl

-- one place listed, and sixteen
pub hcase_is : decode (0x19 ∷ 1 ∷ 1 ∷ 1 ∷ 2 ∷ []) 0 ≡ decoded (hcase 1 (258 ∷ [])) 5
unfolding computing
hcase_is = refl

pub hcase_most : decode (0x19 ∷ 5 ∷ 16 ∷ (replicate 30 0 ++ (0xFF ∷ 0xFE ∷ []))) 0 ≡ decoded (hcase 5 (replicate 15 0 ++ (65534 ∷ []))) 35
unfolding computing
hcase_most = refl

-- no slot listed, eight, and 255
pub run_none : decode (0x1A ∷ 1 ∷ 2 ∷ 3 ∷ 0 ∷ []) 0 ≡ decoded (run 258 3 []) 5
unfolding computing
run_none = refl

pub run_eight : decode (0x1A ∷ 1 ∷ 2 ∷ 3 ∷ 8 ∷ 7 ∷ 6 ∷ 5 ∷ 4 ∷ 3 ∷ 2 ∷ 1 ∷ 0 ∷ []) 0
    ≡ decoded (run 258 3 (7 ∷ 6 ∷ 5 ∷ 4 ∷ 3 ∷ 2 ∷ 1 ∷ 0 ∷ [])) 13
unfolding computing
run_eight = refl

pub run_most : decode (0x1A ∷ 9 ∷ 9 ∷ 9 ∷ 255 ∷ (replicate 254 9 ++ (1 ∷ []))) 0 ≡ decoded (run 2313 9 (replicate 254 9 ++ (1 ∷ []))) 260
unfolding computing
run_most = refl

-- ---- places past every code that loads

-- get 2 at the largest place of a record, one byte short, and just past the code
pub get_last : decode (replicate 65535 0 ++ (0x11 ∷ 2 ∷ 0 ∷ [])) 65535 ≡ decoded (get 2) 65537
unfolding computing
get_last = refl

pub get_short : decode (replicate 65535 0 ++ (0x11 ∷ [])) 65535 ≡ none
unfolding computing
get_short = refl

pub just_past : decode (replicate 65535 0) 65535 ≡ none
unfolding computing
just_past = refl

-- the largest number that the code can take for a place
pub largest_place : decode (0x03 ∷ []) 18446744073709551615 ≡ none
unfolding computing
largest_place = refl
