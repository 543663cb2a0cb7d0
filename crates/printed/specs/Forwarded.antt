-- The promise of one step forward: it is the step that a run makes next, and what is printed is what that step prints. `Maybe` is
-- the name here for the Option of the code. Assumes nothing.
use Rattle.std.specs.Prelude.{◌≡◌, List, ℕ, Option as Maybe, Some, None}
use Rattle.std.proofs.Math.Option.{Option, none, some}
use Rattle.rules.specs.Run.{Step}
use Rattle.rules.specs.Printed as rules
use Rattle.rules.specs.Printed.{printed_at}
use Rattle.rules.specs.Promise.{Promise}
use Rattle.runner.specs.Runs.{stepped_by, memory_by}
use Rattle.printed.specs.Meaning.{printed_of}
use Rattle.printed.specs.declared.kinds.Printed.{Printed}

-- what a step prints; without one, nothing
abbrev pub step_printed : Option Step → Option rules.Printed
step_printed none = none
step_printed (some s) = printed_at s.before s.position

-- what an answer of the code prints
abbrev pub forward_printed : Maybe Printed → Option rules.Printed
forward_printed None = none
forward_printed (Some x) = some (printed_of x)

-- where the step was made, as the runner has it
abbrev pub stepped_in : Maybe Printed → Maybe ℕ
stepped_in None = None
stepped_in (Some x) = Some x.position

-- the step that is made next in a memory: where it is made, the memory that it leaves, and what it prints
pub record Forwarded (m : List ℕ) (step : Option Step) (answer : Maybe Printed) (left : List ℕ) : Type 0 where
  pub made : Promise (stepped_by step) (memory_by m step) (stepped_in answer) left
  pub prints : forward_printed answer ≡ step_printed step
