-- The contract of `decode` determines its answer: two answers with the same meaning, decoded at the same place, are equal. The idea:
-- from what an answer means the answer can be read back. Assumes nothing.
use mathlib.Core.Path.{◌≡◌, refl, sym, ap, ◌∙◌}
use mathlib.Core.Option.{Option, none, some}
use Rattle.std.specs.Prelude.{Option as Maybe, Some, None}
use mathlib.Core.List.{List}
use Prim.Native.Nat.{ℕ}
use lib.ListN.{length}
use Rattle.rules.specs.declared.Slot.{Slot}
use Rattle.rules.specs.Instruction as rules
use Rattle.rules.specs.Instruction.{cst, access, store, add, mul, leq, put, get, split, fork, plug, close, halt, same, hput, hcase, run}
use Rattle.code.specs.declared.Branch.{Branch}
use Rattle.code.specs.declared.Instruction.{Instruction}
use Rattle.code.specs.declared.Instruction.TheVariants.{Cst, Access, Store, Add, Mul, Leq, Put, Get, Split, Fork}
use Rattle.code.specs.declared.Instruction.TheVariants.{Plug, Close, Halt, Same, Hput, Hcase, Run}
use Rattle.code.specs.declared.Decoded.{Decoded}
use Rattle.code.specs.Meaning.{instruction_of, meaning}
use Rattle.code.proofs.Listing.{length_places, length_slots}

slot : ℕ → Slot
slot c = record { 0 = c }

branch : ℕ → ℕ → Branch
branch m p = record { set = m; place = p }

case_of : rules.Instruction → Instruction
case_of (cst v) = Cst v
case_of (access n) = Access n
case_of store = Store
case_of add = Add
case_of mul = Mul
case_of leq = Leq
case_of (put c) = Put (slot c)
case_of (get c) = Get (slot c)
case_of (split c a b) = Split (slot c) (slot a) (slot b)
case_of (fork c a m p b m' p') = Fork (slot c) (slot a) (branch m p) (slot b) (branch m' p')
case_of (plug a m p m' p') = Plug (slot a) (branch m p) (branch m' p')
case_of (close c) = Close (slot c)
case_of (halt c) = Halt (slot c)
case_of (same c d) = Same (slot c) (slot d)
case_of (hput c n) = Hput (slot c) n
case_of (hcase c places) = Hcase (slot c) (length places)
case_of (run p n listed) = Run p n (length listed)

answer_of : Option rules.Decoded → Maybe Decoded
answer_of none = None
answer_of (some d) = Some (record { instruction = case_of d.instruction; next = d.next })

module _ (code : List ℕ) (place : ℕ) where
  case_back : (i : Instruction) → case_of (instruction_of code place i) ≡ i
  unfolding case_of slot branch
  case_back (Cst v) = refl
  case_back (Access n) = refl
  case_back Store = refl
  case_back Add = refl
  case_back Mul = refl
  case_back Leq = refl
  case_back (Put c) = refl
  case_back (Get c) = refl
  case_back (Split c a b) = refl
  case_back (Fork c a first b second) = refl
  case_back (Plug a first second) = refl
  case_back (Close c) = refl
  case_back (Halt c) = refl
  case_back (Same c d) = refl
  case_back (Hput c n) = refl
  case_back (Hcase c k) = ap (λ (n : ℕ). Hcase c n) (length_places code place 3 k)
  case_back (Run p n j) = ap (λ (k : ℕ). Run p n k) (length_slots code place 5 j)

  answer_back : (r : Maybe Decoded) → answer_of (meaning code place r) ≡ r
  unfolding answer_of
  answer_back (Some d) = ap (λ (j : Instruction). Some (record { instruction = j; next = d.next })) (case_back d.instruction)
  answer_back None = refl

  pub determined : (r r' : Maybe Decoded) → meaning code place r ≡ meaning code place r' → r ≡ r'
  determined r r' e = sym (answer_back r) ∙ ap answer_of e ∙ answer_back r'
