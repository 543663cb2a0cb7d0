-- What the answers of the runner stand for, and what the steps of a run leave. `Maybe` is the name here for the Option
-- of the code. Assumes nothing.
use Rattle.std.specs.Prelude.{◌≡◌, false, List, ℕ, ◌<◌, ◌≤◌, length, Option as Maybe, Some, None}
use Rattle.std.proofs.Math.Option.{Option, none, some}
use Rattle.rules.specs.Limits.{position_count}
use Rattle.rules.specs.State.{State}
use Rattle.rules.specs.Refusal.{Answer, refused, done, is_done}
use Rattle.rules.specs.Ask.{ask}
use Rattle.rules.specs.Run as rules
use Rattle.rules.specs.Run.{Step, reached_by, position_after}
use Rattle.rules.specs.Layout.{layout}
use Rattle.rules.specs.Sound.{Sound}
use Rattle.runner.specs.declared.verdict.Verdict.{Verdict}
use Rattle.runner.specs.declared.verdict.Verdict.TheVariants.{Spent, Finished, Stuck}
use Rattle.runner.specs.declared.running.Ran.{Ran}

-- none of the positions from p up to q can step, and q is no more than `most`
pub record PassedTo (st : State) (p q most : ℕ) : Type 0 where
  pub upward : p ≤ q
  pub within : q ≤ most
  pub none_between : (i : ℕ) → p ≤ i → i < q → is_done (ask st i) ≡ false

-- where a step is made
abbrev pub stepped_by : Option Step → Maybe ℕ
stepped_by none = None
stepped_by (some s) = Some s.position

-- the memory after it; without one, as it was
abbrev pub memory_by : List ℕ → Option Step → List ℕ
memory_by m none = m
memory_by m (some s) = layout s.reached

-- the code's name of a verdict
abbrev pub verdict_code : rules.Verdict → Verdict
verdict_code rules.spent = Spent
verdict_code rules.finished = Finished
verdict_code rules.stuck = Stuck

-- steps ss from state st and position p have been made: how many, the position after them, and the memory; the state reached is sound
pub record Ended (st : State) (p : ℕ) (ss : List Step) (made next : ℕ) (left : List ℕ) : Type 0 where
  pub made_is : made ≡ length ss
  pub next_is : next ≡ position_after p ss
  pub left_is : left ≡ layout (reached_by st ss)
  pub reached_sound : Sound (reached_by st ss)
  pub next_in_range : next < position_count

-- the answer to a run: its number, or steps made, next position and verdict
abbrev pub ran_reply : Answer rules.Ran → Answer Ran
ran_reply (refused n) = refused n
ran_reply (done ran) = done (record { steps = ran.made; next = ran.next; verdict = verdict_code ran.verdict })
