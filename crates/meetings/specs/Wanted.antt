-- What the code's answer on a waiting record stands for: what `rules` says that the record wants. It is read beside the code, since the
-- places of an hcase stay there. And what the record runs on with once a datum is there. `Maybe` is the name here for the Option of the
-- code, `Process` for the registers of `rules`. Assumes nothing.
use Rattle.std.proofs.Math.Option.{Option, none, some}
use Rattle.std.specs.Prelude.{◌≡◌, ◌<◌, List, ℕ, Option as Maybe, Some, None}
use Rattle.rules.specs.Limits.{stack_depth}
use Rattle.rules.specs.State.{Datum, Registers as Process, waiting}
use Rattle.rules.specs.Instruction.{decode, places_at}
use Rattle.rules.specs.EndStep as rules
use Rattle.rules.specs.EndStep.{Wait, a_value, a_handle, a_split, decoded_wait, waiter_in, datum_against, mismatch, delivers}
use Rattle.rules.specs.Numbers.{slot_number}
use Rattle.registers.specs.declared.Registers.{Registers}
use Rattle.registers.specs.Registers.{registers_of}
use Rattle.meetings.specs.declared.wanted.Wanted.{Wanted}
use Rattle.meetings.specs.declared.wanted.Wanted.TheVariants.{Value, Handle, Split}

-- what is wanted there, if there is a wait
abbrev pub wanted_by : Option Wait → Option rules.Wanted
wanted_by none = none
wanted_by (some w) = some w.wanted

-- what an answer of the code stands for, for a record at that place of the code
abbrev pub wanted_of : (code : List ℕ) (place : ℕ) → Maybe Wanted → Option rules.Wanted
wanted_of code place None = none
wanted_of code place (Some (Value next)) = some (a_value next)
wanted_of code place (Some (Handle k)) = some (a_handle (places_at code place 3 k))
wanted_of code place (Some (Split a first b second)) =
    some (a_split (slot_number a) first.set first.place (slot_number b) second.set second.place)

-- ---- a datum is there

-- registers of the code have room for a value, if one is wanted at their place
pub record HasRoom (code : List ℕ) (x : Registers) : Type 0 where
  pub room : (next : ℕ) → wanted_by (decoded_wait (decode code x.place)) ≡ some (a_value next) → x.stack_count < stack_depth

-- the datum is what a process waits for, which then runs on with registers that those of the code stand for
pub record RunsWith (code : List ℕ) (g : Process) (d : Datum) (x : Registers) : Type 0 where
  pub process : Process
  pub meets : (from to r : ℕ) → datum_against from to r d (waiter_in code (waiting g)) ≡ delivers from to r d process
  pub stands_for : x ≡ registers_of process

-- what the code answers for a process that waits, and a datum: that, or none where they do not match
abbrev pub RunsOn : (code : List ℕ) → Process → Datum → Maybe Registers → Type 0
RunsOn code g d None = (from to r : ℕ) → datum_against from to r d (waiter_in code (waiting g)) ≡ mismatch
RunsOn code g d (Some x) = RunsWith code g d x
