-- Demand 3 of the order, on bytes: from any image that loads, through any list of asks and runs, refused ones too, every state is
-- sound; for each end in use what was put, in order, is what was taken, in order, followed by what is queued; no end goes out of use
-- with a value or handle queued. The calls are the very functions that the public contracts name (`rules`, Calls). `proofs/Demand3`
-- proves it as `demand_3`. It does not say how long a call takes. Assumes nothing.
use Rattle.std.specs.Prelude.{◌≡◌, List, [], ◌∷◌, ◌++◌, ℕ}
use Rattle.rules.specs.State.{end_at}
use Rattle.rules.specs.Refusal.{done}
use Rattle.rules.specs.Ask.{ask}
use Rattle.rules.specs.Run.{Step}
use Rattle.rules.specs.Sound.{Sound}
use Rattle.rules.specs.Events.{events, new_history, history}
use Rattle.rules.specs.Layout.{layout, view}
use Rattle.rules.specs.Calls.{Call, memory_after_all, all_steps, all_events}
use Rattle.keeping.specs.Queues.{about, QueueChange, Agrees, NothingLost}

-- the bytes are the layout of a sound state, the one that they show
pub record SoundMemory (m : List ℕ) : Type 0 where
  pub state_sound : Sound (view m)
  pub laid_out : m ≡ layout (view m)

-- a step as document 01 has it: its position is asked, and it is done
pub record RightStep (s : Step) : Type 0 where
  -- it is the ask of its position
  pub asked : ask s.before s.position ≡ done s.reached
  -- the state before it and the state after it are sound
  pub before_sound : Sound s.before
  pub after_sound : Sound s.reached
  -- each of its events is exactly a change of that queue, and there are no other changes
  pub events_are_changes : (e : ℕ) → QueueChange (end_at s.before e) (end_at s.reached e) (about e (events s.before s.position))
  -- no end goes out of use with a value or handle queued
  pub nothing_lost : NothingLost s.before s.reached

abbrev pub EveryStep : List Step → Type 0
EveryStep [] = Unit {0}
EveryStep (s ∷ ss) = RightStep s × EveryStep ss

-- a list of calls on a memory
pub record Demand3 (m : List ℕ) (calls : List Call) : Type 0 where
  -- every memory on the way is the layout of a sound state
  pub every_memory_sound : (done_so_far to_come : List Call) → calls ≡ done_so_far ++ to_come → SoundMemory (memory_after_all m done_so_far)
  -- every step on the way, those within the runs too, is right
  pub every_step_right : EveryStep (all_steps m calls)
  -- for each end in use: what was put on it since its creation, in order, is what was taken from it, in order, followed by what is queued
  pub put_is_taken_then_queued : (e : ℕ) → Agrees (end_at (view (memory_after_all m calls)) e) (history e new_history (all_events m calls))
