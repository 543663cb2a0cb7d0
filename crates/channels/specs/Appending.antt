-- Appending to the queue of the end that a slot holds: what the code asks of its caller, and what it answers. Assumes nothing.
use Rattle.std.specs.Prelude.{◌≡◌, false, List, [], ◌∷◌, ℕ}
use Rattle.rules.specs.State.{State, Registers as Process, running, record_at, Item, end_in}
use Rattle.rules.specs.Refusal.{Answer, done, unless}
use Rattle.rules.specs.Causes.{empty, queue_full}
use Rattle.rules.specs.RecordStep.{append, waits}
use Rattle.rules.specs.Layout.{view}
use Rattle.rules.specs.Calls.{layout_or}
use Rattle.rules.specs.Numbers.{Reply, answer_of, reply_to}
use Rattle.rules.specs.Promise.{Promise}
use Rattle.keeping.specs.Demand3.{SoundMemory}
use Rattle.registers.specs.declared.Registers.{Registers}
use Rattle.registers.specs.Registers.{registers_of}
use Rattle.stepping.specs.Stepped.{shown_by}

-- in a sound memory, `held` are the registers of a record, and its slot c holds an end
pub record HoldsEnd (m : List ℕ) (held : Registers) (c : ℕ) : Type 0 where
  pub owner : ℕ
  pub sound : SoundMemory m
  pub is_loaded : held ≡ registers_of (shown_by m owner)
  pub not_empty : empty c (shown_by m owner) ≡ false

-- record r runs with registers g in memory m, `held` are these registers, and their slot c holds an end
pub record Runs (m : List ℕ) (r : ℕ) (held : Registers) (g : Process) (c : ℕ) : Type 0 where
  pub runs : record_at (view m) r ≡ running g
  pub is_held : held ≡ registers_of g
  pub not_empty : empty c g ≡ false

-- 13, or a state
abbrev pub unless_full : State → Process → (c : ℕ) → State → Answer State
unless_full st g c y = unless ((13, queue_full st c g) ∷ []) (done y)

-- 13, or the item x appended to the queue of slot c's end: the reply, and the memory left
pub record Appended (m : List ℕ) (g : Process) (c : ℕ) (x : Item) (reply : Reply) (left : List ℕ) : Type 0 where
  pub appended : let a = unless_full (view m) g c (append (view m) (end_in g c) x) in
      Promise (reply_to a) (layout_or m a) (answer_of reply) left

-- 13, or a wait on that queue and record r waiting at its present place
pub record Waited (m : List ℕ) (r : ℕ) (g : Process) (c : ℕ) (reply : Reply) (left : List ℕ) : Type 0 where
  pub waited : let a = unless_full (view m) g c (waits (view m) r g c) in Promise (reply_to a) (layout_or m a) (answer_of reply) left
