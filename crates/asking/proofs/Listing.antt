-- A run that is decoded lists its slots within the code: only the row of run in the table makes one, and the place after it is in the code.
-- Assumes nothing.
use mathlib.Core.Path.{◌≡◌, refl, sym, ap, ◌∙◌}
use mathlib.Core.Bool.{Bool, true, false}
use mathlib.Core.Option.{Option, none, some}
use mathlib.Core.List.{List, [], ◌∷◌}
use Prim.Native.Nat.{ℕ, ◌+◌, ◌≤◌}
use Rattle.std.proofs.Common.{rules}
use native.Mathlib.Omega.{arith}
use lib.ListN.{length}
use lib.Dec.{eqb}
use borrow.Author.Tests.{ltb-false}
use Rattle.rules.specs.Refusal.{no_cause}
use Rattle.rules.specs.Instruction as rules
use Rattle.rules.specs.Instruction.{Name, cst_name, access_name, store_name, add_name, mul_name, leq_name, put_name, get_name, split_name}
use Rattle.rules.specs.Instruction.{fork_name, plug_name, close_name, halt_name, same_name, hput_name, hcase_name, run_name}
use Rattle.rules.specs.Instruction.{Listing, slots_listed, Form, forms, form_in, form_of, or_form}
use Rattle.rules.specs.Instruction.{byte_at, slots_at, instruction_at, place_after, misfits, Decoded, decoded_if, decode_as, decode}
use Rattle.rules.proofs.TestLaws.{no_cause_read}
use Rattle.code.proofs.Listing.{length_slots}
use Rattle.code.specs.declared.Instruction.{Instruction}
use Rattle.code.specs.declared.Instruction.TheVariants.{Cst, Access, Store, Add, Mul, Leq, Put, Get, Split, Fork}
use Rattle.code.specs.declared.Instruction.TheVariants.{Plug, Close, Halt, Same, Hput, Hcase, Run}
use Rattle.code.specs.Meaning.{instruction_of}
use Rattle.asking.specs.Stepped.{ListedIn}

-- ---- the row of run

-- a row with the name of run has a fixed part of five bytes, and slots behind it
abbrev Shape : Form → Type 0
Shape f = f.name ≡ run_name → (f.size ≡ 5) × (f.listing ≡ slots_listed)

abbrev All : List Form → Type 0
All [] = Unit {0}
All (f ∷ fs) = Shape f × All fs

found : (fs : List Form) → All fs → (b : ℕ) (f : Form) → form_in fs b ≡ some f → Shape f
unfolding form_in
found [] h b f e = absurd cc
found (g ∷ gs) h b f e = go (eqb g.byte b) e (λ q. found gs h.1 b f q)
  where
    go : (t : Bool) → or_form t g (form_in gs b) ≡ some f → (form_in gs b ≡ some f → Shape f) → Shape f
    go true q rest = let same : g ≡ f = cc in rw (sym same) h.0
    go false q rest = rest q

all_forms : All forms
all_forms = search rules

-- ---- what is decoded

module _ (code : List ℕ) (place : ℕ) where
  -- a name whose instruction is a run of j slots: it is the name of run, and the code says j
  named : (name : Name) (p n j : ℕ) → instruction_at code place name ≡ rules.run p n (slots_at code place 5 j)
      → (name ≡ run_name) × (j ≡ byte_at code place 4)
  unfolding instruction_at
  named run_name p n j e =
      let same : slots_at code place 5 (byte_at code place 4) ≡ slots_at code place 5 j = cc in (
        refl,
        omega (arith, ap length same, length_slots code place 5 j, length_slots code place 5 (byte_at code place 4)),
      )
  named cst_name p n j e = absurd cc
  named access_name p n j e = absurd cc
  named store_name p n j e = absurd cc
  named add_name p n j e = absurd cc
  named mul_name p n j e = absurd cc
  named leq_name p n j e = absurd cc
  named put_name p n j e = absurd cc
  named get_name p n j e = absurd cc
  named split_name p n j e = absurd cc
  named fork_name p n j e = absurd cc
  named plug_name p n j e = absurd cc
  named close_name p n j e = absurd cc
  named halt_name p n j e = absurd cc
  named same_name p n j e = absurd cc
  named hput_name p n j e = absurd cc
  named hcase_name p n j e = absurd cc

  run_within : (p n j : ℕ) (d : Decoded) → decode code place ≡ some d → d.instruction ≡ rules.run p n (slots_at code place 5 j)
      → place + 5 + j ≤ length code
  unfolding decode form_of
  run_within p n j d e is = by_form (form_of (byte_at code place 0)) refl e
    where
      fits : (f : Form) → Shape f → (b : Bool) → no_cause (misfits code place f) ≡ b
          → decoded_if b (record { instruction = instruction_at code place f.name; next = place_after code place f }) ≡ some d
          → place + 5 + j ≤ length code
      fits f shape true q h =
          let same : record { instruction = instruction_at code place f.name; next = place_after code place f } ≡ d = cc in
          let run_of = named f.name p n j (ap (λ (x : Decoded). x.instruction) same ∙ is) in
          let s = shape run_of.0 in
          let inside = ltb-false (length code) (place_after code place f) (no_cause_read (misfits code place f) q).1.1.1.0 in
          let after : place_after code place f ≡ place + 5 + byte_at code place 4 = rw (s.0, s.1) refl in
          omega (arith, inside, after, run_of.1)
      fits f shape false q h = absurd cc

      by_form : (o : Option Form) → form_of (byte_at code place 0) ≡ o → decode_as code place o ≡ some d → place + 5 + j ≤ length code
      by_form none q h = absurd cc
      by_form (some f) q h = fits f (found forms all_forms (byte_at code place 0) f q) (no_cause (misfits code place f)) refl h

  pub listed_in : (i : Instruction) (next : ℕ)
      → decode code place ≡ some (record { instruction = instruction_of code place i; next = next }) → ListedIn code place i
  listed_in (Run p n j) next e = run_within p n j _ e refl
  listed_in (Cst v) next e = tt
  listed_in (Access n) next e = tt
  listed_in Store next e = tt
  listed_in Add next e = tt
  listed_in Mul next e = tt
  listed_in Leq next e = tt
  listed_in (Put c) next e = tt
  listed_in (Get c) next e = tt
  listed_in (Split c a b) next e = tt
  listed_in (Fork c a first b second) next e = tt
  listed_in (Plug a first second) next e = tt
  listed_in (Close c) next e = tt
  listed_in (Halt c) next e = tt
  listed_in (Same c d) next e = tt
  listed_in (Hput c n) next e = tt
  listed_in (Hcase c k) next e = tt
