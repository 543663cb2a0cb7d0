-- The promise of a function that steps one record on a memory known to be sound: its reply and every byte afterwards are those of
-- `answer_to` of `rules`, for the instruction that the function is for. Assumes nothing.
use Rattle.std.specs.Prelude.{◌≡◌, List, ℕ}
use Rattle.rules.specs.State.{Registers, running, record_at}
use Rattle.rules.specs.Instruction.{Instruction}
use Rattle.rules.specs.Ask.{answer_to}
use Rattle.rules.specs.Layout.{view}
use Rattle.rules.specs.Calls.{layout_or}
use Rattle.rules.specs.Numbers.{Reply, answer_of, reply_to}
use Rattle.rules.specs.Promise.{Promise}
use Rattle.registers.specs.Registers.{registers_in}

-- record r runs with registers g in the state that m shows: the reply and the memory left are those of instruction i, with `next` the place
-- after it
abbrev pub Stepped : (m : List ℕ) (r next : ℕ) → Instruction → Reply → (left : List ℕ) → Type 0
Stepped m r next i reply left =
    (g : Registers) → record_at (view m) r ≡ running g
    → Promise (reply_to (answer_to (view m) r next g i)) (layout_or m (answer_to (view m) r next g i)) (answer_of reply) left

-- the registers that record r shows in memory m; a free record shows those with nothing in them
abbrev pub shown_by : List ℕ → (r : ℕ) → Registers
shown_by m r = registers_in (record_at (view m) r)

-- record r runs in the state that m shows
pub record RunsAt (m : List ℕ) (r : ℕ) : Type 0 where
  pub process : Registers
  pub runs : record_at (view m) r ≡ running process
