-- What the instructions on numbers see in the registers that are loaded: the counts decide the rows 5 and 6, and a sum or a product that
-- was checked gives the step's answer. Assumes nothing.
use mathlib.Core.Path.{◌≡◌, sym, ap, ◌∙◌}
use mathlib.Core.Bool.{true, false}
use mathlib.Core.List.{List}
use Prim.Native.Nat.{ℕ, ◌≤◌, ◌<◌}
use native.Mathlib.Omega.{arith}
use lib.ListN.{length}
use lib.IntN.{ℤ}
use borrow.Author.Tests.{le-leb, lt-leb, lt-ltb, le-ltb}
use Rattle.rules.specs.Limits.{stack_depth}
use Rattle.rules.specs.State.{State, Registers as Process, running, record_at}
use Rattle.rules.specs.Refusal.{Answer}
use Rattle.rules.specs.Causes.{fewer, stack_full}
use Rattle.rules.specs.Layout.{layout, view}
use Rattle.rules.specs.Calls.{layout_or}
use Rattle.rules.specs.Numbers.{reply_to}
use Rattle.rules.specs.Promise.{Promise}
use Rattle.keeping.specs.Demand3.{SoundMemory}
use Rattle.keeping.proofs.LayoutLaws.{Sized}
use Rattle.registers.specs.declared.Registers.{Registers}
use Rattle.registers.specs.Registers.{registers_of}
use Rattle.registers.proofs.Fields.{by_fields}
use Rattle.stepping.proofs.Steps.{promised_as, memory_sized, registers_ok}
use Rattle.numbers.specs.Checked.{checked}

-- ---- the rows 5 and 6

module _ (g : Process) {x : Registers} (e : x ≡ registers_of g) where
  pub few : (k : ℕ) → x.stack_count < k → fewer k g ≡ true
  few k h = lt-ltb (length g.stack) k (omega (arith, h, (by_fields g e).stack_count_is))

  pub enough : (k : ℕ) → k ≤ x.stack_count → fewer k g ≡ false
  enough k h = le-ltb (length g.stack) k (omega (arith, h, (by_fields g e).stack_count_is))

  pub stack_full_lem : stack_depth ≤ x.stack_count → stack_full g ≡ true
  stack_full_lem h = le-leb stack_depth (length g.stack) (omega (arith, h, (by_fields g e).stack_count_is))

  pub stack_room : x.stack_count < stack_depth → stack_full g ≡ false
  stack_room h = lt-leb stack_depth (length g.stack) (omega (arith, h, (by_fields g e).stack_count_is))

-- ---- a value that is checked

-- the value v that the code checked is w, and the answer a is that of w
pub checked_step : (m : List ℕ) → SoundMemory m → (r next : ℕ) (g : Process) → record_at (view m) r ≡ running g
    → {x : Registers} → x ≡ registers_of g → {v w : ℤ} → v ≡ w → {a : Answer State} → checked (view m) r next g w ≡ a
    → {reply : Answer (Unit {0})} {left : List ℕ}
    → ((st : State) (g : Process) → Sized st → m ≡ layout st → length g.stack ≤ stack_depth → x ≡ registers_of g
    → Promise (reply_to (checked st r next g v)) (layout_or m (checked st r next g v)) reply left)
    → Promise (reply_to a) (layout_or m a) reply left
checked_step m s r next g is e same answer f =
    let within = (registers_ok m s r g is).stack_within in
    promised_as m (sym answer ∙ ap (checked (view m) r next g) (sym same)) (f (view m) g (memory_sized m s) s.laid_out within e)
