-- What the decoder's answer on a sound memory's code says: the instruction there, and that the place after it has two bytes. Assumes
-- nothing.
use mathlib.Core.Path.{◌≡◌, sym, subst}
use mathlib.Core.Option.{none, some}
use Rattle.std.specs.Prelude.{Option as Maybe, Some, None}
use mathlib.Core.List.{List}
use Prim.Native.Nat.{ℕ, ◌<◌}
use native.Mathlib.Omega.{arith}
use Rattle.rules.specs.Limits.{place_count}
use Rattle.rules.specs.Instruction.{Decoded as RulesDecoded, decode}
use Rattle.rules.specs.Layout.{view}
use Rattle.keeping.specs.Demand3.{SoundMemory}
use Rattle.keeping.proofs.DecodeLaws.{decoded_within}
use Rattle.code.specs.declared.Decoded.{Decoded}
use Rattle.code.specs.Meaning.{instruction_of, meaning}

-- `there` is the code, and the decoder has answered of it
module _ (code there : List ℕ) (place : ℕ) (answer : Maybe Decoded) (same : there ≡ code)
    (right : meaning there place answer ≡ decode there place) where
  pub decoded_good : {d : Decoded} → answer ≡ Some d
      → decode code place ≡ some (record { instruction = instruction_of code place d.instruction; next = d.next })
  decoded_good {d} q = sym (subst (λ (l : List ℕ). meaning l place (Some d) ≡ decode l place) same (rw q at right))

  pub decoded_bad : answer ≡ None → decode code place ≡ none
  decoded_bad q = sym (subst (λ (l : List ℕ). meaning l place None ≡ decode l place) same (rw q at right))

-- the place after an instruction has two bytes
pub next_small : (m : List ℕ) → SoundMemory m → (place : ℕ) (d : RulesDecoded) → decode (view m).code place ≡ some d → d.next < place_count
next_small m s place d h =
    let w = s.state_sound.S1 in
    omega (arith, (decoded_within (view m).code w.code_bytes place d h).next_in_code, w.code_within)
