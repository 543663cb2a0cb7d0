-- What same asks of what is shared, and of the two ends that it joins. Assumes nothing.
use Rattle.std.specs.Prelude.{◌≡◌, ◌≢◌, [], ℕ}
use Rattle.std.proofs.Math.Option.{none}
use Rattle.rules.specs.State.{State, Registers, used, end_at}
use Rattle.rules.specs.Instruction.{Instruction}
use Rattle.rules.specs.Refusal.{Answer}
use Rattle.rules.specs.Causes.{shared_causes}
use Rattle.causes.specs.Own.{rows_reply}

-- the number of the first of the rows 12 to 15 that holds, or done
abbrev pub shared_reply : State → Registers → Instruction → Answer (Unit {0})
shared_reply st g i = rows_reply (shared_causes st g i)

-- x and y are two ends in use with empty queues, and no partners of each other
pub record Joinable (st : State) (x y : ℕ) : Type 0 where
  pub x_partner : ℕ
  pub y_partner : ℕ
  pub x_was : end_at st x ≡ used x_partner [] none
  pub y_was : end_at st y ≡ used y_partner [] none
  pub differ : x ≢ y
  pub apart : x_partner ≢ y
