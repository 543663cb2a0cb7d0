-- run over plain variables: with none of its rows holding it goes on in the callee. Assumes nothing.
use mathlib.Core.Path.{◌≡◌}
use mathlib.Core.List.{List}
use Prim.Native.Nat.{ℕ, ◌≤◌}
use borrow.Author.Tests.{ltb-false}
use lib.ListN.{length}
use Rattle.rules.specs.State.{State, Registers, running, set_record}
use Rattle.rules.specs.Refusal.{done, unless}
use Rattle.rules.specs.Instruction.{run}
use Rattle.rules.specs.Causes.{own_causes, shared_causes}
use Rattle.rules.specs.RecordStep.{after}
use Rattle.rules.specs.Ask.{answer_to}
use Rattle.registers.specs.Registers.{called}
use Rattle.causes.specs.Own.{own_reply}
use Rattle.causes.proofs.Shared.{none_holds, own_done}

module _ (g : Registers) (place n : ℕ) (cs : List ℕ) (passes : own_reply g (run place n cs) ≡ done tt) where
  -- there are n values
  pub enough : n ≤ length g.stack
  unfolding own_causes
  enough = ltb-false (length g.stack) n (none_holds (own_causes g (run place n cs)) passes).0

  pub run_done : (st : State) (r next : ℕ)
      → answer_to st r next g (run place n cs) ≡ done (set_record st r (running (called g place n cs)))
  unfolding shared_causes unless after
  run_done st r next = own_done st r next g (run place n cs) passes
