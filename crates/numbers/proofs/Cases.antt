-- The cases of the instructions on numbers, over plain variables: which test leads to which answer. Assumes nothing.
use mathlib.Core.Path.{◌≡◌, refl, ◌∙◌}
use mathlib.Core.Bool.{Bool, true, false}
use mathlib.Core.List.{◌∷◌}
use Prim.Native.Nat.{ℕ}
use lib.ListN.{get_or, drop}
use lib.IntN.{pos}
use lib.Signed.{le_z}
use Rattle.rules.specs.State.{State, Value, Registers, registers, running, set_record}
use Rattle.rules.specs.Refusal.{refused, done, unless}
use Rattle.rules.specs.Instruction.{cst, access, store}
use Rattle.rules.specs.Causes.{top, below, fewer, outside, stack_full, environment_full, no_environment_place, own_causes, shared_causes}
use Rattle.rules.specs.RecordStep.{after, yes_or_no}
use Rattle.rules.specs.Ask.{answer_to}
use Rattle.registers.specs.Registers.{combined, moved_to}
use Rattle.numbers.specs.declared.arithmetic.Made.{Made}
use Rattle.numbers.specs.declared.arithmetic.Made.TheVariants.{Sum, Product, Order}
use Rattle.numbers.specs.Checked.{made_of, makes, checked}

module _ (st : State) (r next : ℕ) (g : Registers) where
  pub cst_full : (v : Value) → stack_full g ≡ true → answer_to st r next g (cst v) ≡ refused 6
  unfolding answer_to own_causes shared_causes unless
  cst_full v t = rw t

  pub cst_done : (v : Value) → stack_full g ≡ false
      → answer_to st r next g (cst v) ≡ done (set_record st r (running (registers next (v ∷ g.stack) g.environment g.slots)))
  unfolding answer_to own_causes shared_causes unless after
  cst_done v f = rw f

  pub access_full : (n : ℕ) → stack_full g ≡ true → answer_to st r next g (access n) ≡ refused 6
  unfolding answer_to own_causes shared_causes unless
  access_full n t = rw t

  pub access_none : (n : ℕ) → stack_full g ≡ false → no_environment_place n g ≡ true → answer_to st r next g (access n) ≡ refused 7
  unfolding answer_to own_causes shared_causes unless
  access_none n f t = rw (f, t)

  pub access_done : (n : ℕ) → stack_full g ≡ false → no_environment_place n g ≡ false
      → answer_to st r next g (access n)
      ≡ done (set_record st r (running (registers next (get_or g.environment n (pos 0) ∷ g.stack) g.environment g.slots)))
  unfolding answer_to own_causes shared_causes unless after
  access_done n f f' = rw (f, f')

  pub store_few : fewer 1 g ≡ true → answer_to st r next g store ≡ refused 5
  unfolding answer_to own_causes shared_causes unless
  store_few t = rw t

  pub store_full : fewer 1 g ≡ false → environment_full g ≡ true → answer_to st r next g store ≡ refused 6
  unfolding answer_to own_causes shared_causes unless
  store_full f t = rw (f, t)

  pub store_done : fewer 1 g ≡ false → environment_full g ≡ false
      → answer_to st r next g store
      ≡ done (set_record st r (running (registers next (drop 1 g.stack) (top g ∷ g.environment) g.slots)))
  unfolding answer_to own_causes shared_causes unless after
  store_done f f' = rw (f, f')

  -- ---- two values become one

  pub outside_refused : (v : Value) → outside v ≡ true → checked st r next g v ≡ refused 9
  unfolding unless
  outside_refused v t = rw t

  pub inside_done : (v : Value) → outside v ≡ false
      → checked st r next g v ≡ done (set_record st r (running (moved_to (combined g v) next)))
  unfolding unless
  inside_done v f = rw f

  pub made_few : (made : Made) → fewer 2 g ≡ true → answer_to st r next g (makes made) ≡ refused 5
  unfolding answer_to own_causes shared_causes unless
  made_few Sum t = rw t
  made_few Product t = rw t
  made_few Order t = rw t

  pub made_checked : (made : Made) → fewer 2 g ≡ false
      → checked st r next g (made_of made (top g) (below g)) ≡ answer_to st r next g (makes made)
  unfolding answer_to own_causes shared_causes unless after
  made_checked Sum f = rw f
  made_checked Product f = rw f
  made_checked Order f =
      inside_done (yes_or_no (le_z (top g) (below g))) (small (le_z (top g) (below g))) ∙ (rw f)
    where
      -- 0 and 1 are no values outside 32 bits
      small : (b : Bool) → outside (yes_or_no b) ≡ false
      small true = refl
      small false = refl
