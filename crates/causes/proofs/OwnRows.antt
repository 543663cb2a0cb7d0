-- Rows that are tested in a function of their own, in front of further rows: where one of them holds it is the answer, where none holds the
-- further rows are asked. Assumes nothing.
use mathlib.Core.Path.{◌≡◌, sym, ◌∙◌}
use mathlib.Core.List.{List, [], ◌∷◌, ◌++◌}
use Prim.Native.Nat.{ℕ}
use Rattle.std.specs.Result.{IsErrAnd}
use Rattle.rules.specs.State.{Registers}
use Rattle.rules.specs.Slots.{over}
use Rattle.rules.specs.Causes.{empty}
use Rattle.rules.specs.Refusal.{Row, refused, done}
use Rattle.rules.specs.Numbers.{Reply, refusal_number, answer_of}
use Rattle.rules.specs.declared.Refusal.{Refusal}
use Rattle.rules.proofs.Promises.{handed_on}
use Rattle.causes.specs.Own.{rows_reply}
use Rattle.causes.proofs.Shared.{in_parts, one_holds, goes_on}

-- the rows of one slot that must hold an end, and those of a split and a fork
abbrev pub slot_rows : (c : ℕ) → Registers → List Row
slot_rows c g = (8, over c) ∷ (8, empty c g) ∷ []

abbrev pub three_rows : (c a b : ℕ) → Registers → List Row
three_rows c a b g = (8, over c) ∷ (8, over a) ∷ (8, over b) ∷ (8, empty c g) ∷ []

-- a refusal by the first rows, which `?` hands on
pub first_refuse : (rows more : List Row) (r : Reply) (e : Refusal) → IsErrAnd r (λ (f : Refusal). f ≡ e)
    → refused (refusal_number e) ≡ rows_reply rows → answer_of r ≡ rows_reply (rows ++ more)
first_refuse rows more r e h is = handed_on r e h ∙ sym (in_parts rows more (done tt) ∙ one_holds rows _ _ (sym is))

-- none of the first rows holds
pub first_pass : (rows more : List Row) → done tt ≡ rows_reply rows → rows_reply more ≡ rows_reply (rows ++ more)
first_pass rows more is = sym (in_parts rows more (done tt) ∙ goes_on rows _ (sym is))
