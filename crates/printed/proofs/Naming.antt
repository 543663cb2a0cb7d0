-- A record's step prints the name of the first byte at its place, whatever else is decoded there. Assumes nothing.
use mathlib.Core.Path.{◌≡◌, refl, sym, ap, ◌∙◌}
use mathlib.Core.Bool.{Bool, true, false}
use mathlib.Core.Option.{Option, none, some}
use mathlib.Core.List.{List, [], ◌∷◌, map}
use Prim.Native.Nat.{ℕ, ◌+◌, ◌≤◌}
use native.Mathlib.Omega.{arith}
use lib.ListN.{length, get_or}
use lib.Dec.{eqb}
use lib.IntN.{pos}
use borrow.Author.Tests.{eqb-true, le-leb}
use Rattle.rules.specs.Refusal.{no_cause}
use Rattle.rules.specs.Instruction.{Name, cst_name, access_name, store_name, add_name, mul_name, leq_name, put_name}
use Rattle.rules.specs.Instruction.{get_name, split_name, fork_name, plug_name, close_name, halt_name, same_name, hput_name}
use Rattle.rules.specs.Instruction.{hcase_name, run_name}
use Rattle.rules.specs.Instruction.{Form, forms, or_form, form_in, form_of, byte_at, instruction_at, misfits, decoded_if, decode_as, decode}
use Rattle.rules.specs.Printed.{Printed, printed, name_of, instruction_kind, printed_decoded}
use Rattle.printed.specs.Meaning.{row_of, name_in}
use Rattle.printed.proofs.Telling.{differ, same}

-- the row found by a first byte has the name that the code has for that byte, where each row of the table has
found : (fs : List Form) (b : ℕ) (f : Form) → map (λ (g : Form). g.name) fs ≡ map (λ (g : Form). name_in (row_of g.byte)) fs
    → form_in fs b ≡ some f → f.name ≡ name_in (row_of b)
unfolding form_in
found [] b f e h = absurd (let z : ◌≡◌ {A = ℕ} 0 1 = cc in omega arith)
found (g ∷ fs) b f e h = go (eqb g.byte b) refl h (found fs b f (cc))
  where
    go : (t : Bool) → eqb g.byte b ≡ t → or_form t g (form_in fs b) ≡ some f → (form_in fs b ≡ some f → f.name ≡ name_in (row_of b))
        → f.name ≡ name_in (row_of b)
    go true q k rest =
        let is : g ≡ f = cc in
        let head : g.name ≡ name_in (row_of g.byte) = cc in
        ap (λ (x : Form). x.name) (sym is) ∙ head ∙ ap (λ (n : ℕ). name_in (row_of n)) (eqb-true g.byte b q)
    go false q k rest = rest k

-- the name of the instruction of a name
name_at : (code : List ℕ) (place : ℕ) (name : Name) → name_of (instruction_at code place name) ≡ name
unfolding instruction_at
name_at code place cst_name = refl
name_at code place access_name = refl
name_at code place store_name = refl
name_at code place add_name = refl
name_at code place mul_name = refl
name_at code place leq_name = refl
name_at code place put_name = refl
name_at code place get_name = refl
name_at code place split_name = refl
name_at code place fork_name = refl
name_at code place plug_name = refl
name_at code place close_name = refl
name_at code place halt_name = refl
name_at code place same_name = refl
name_at code place hput_name = refl
name_at code place hcase_name = refl
name_at code place run_name = refl

-- what is printed has the name of the first byte
pub first_named : (code : List ℕ) (place p : ℕ) (z : Printed) → printed_decoded p (decode code place) ≡ some z
    → printed p (instruction_kind (name_in (row_of (get_or code place 0)))) (pos 0) ≡ z
unfolding decode form_of name_in row_of
first_named code place p z h = go (form_of (byte_at code place 0)) refl h
  where
    chosen : (f : Form) → form_of (byte_at code place 0) ≡ some f → (next : ℕ) (b : Bool)
        → printed_decoded p (decoded_if b (record { instruction = instruction_at code place f.name; next = next })) ≡ some z
        → printed p (instruction_kind (name_in (row_of (get_or code place 0)))) (pos 0) ≡ z
    chosen f q next true k =
        let e : place + 0 ≡ place = omega arith in
        let row = ap (λ (i : ℕ). name_in (row_of (get_or code i 0))) (sym e) ∙ sym (found forms _ f refl q) in
        let name = row ∙ sym (name_at code place f.name) in
        ap (λ (n : Name). printed p (instruction_kind n) (pos 0)) name ∙ same k
    chosen f q next false k = differ k

    go : (o : Option Form) → form_of (byte_at code place 0) ≡ o → printed_decoded p (decode_as code place o) ≡ some z
        → printed p (instruction_kind (name_in (row_of (get_or code place 0)))) (pos 0) ≡ z
    go none q k = differ k
    go (some f) q k = chosen f q _ (no_cause (misfits code place f)) k

-- past the code nothing is printed
pub past_code : {A : Type 0} (code : List ℕ) (place p : ℕ) (z : Printed) → length code ≤ place
    → printed_decoded p (decode code place) ≡ some z → A
unfolding decode no_cause
past_code {A} code place p z l h = go (form_of (byte_at code place 0)) h
  where
    go : (o : Option Form) → printed_decoded p (decode_as code place o) ≡ some z → A
    go none k = differ k
    go (some f) k = differ (rw (le-leb (length code) place l) at k)
