-- The promises of the functions that ask a record or a position to step, on a memory known to be sound and for any number: the reply and
-- every byte afterwards are those of `ask_record` and `ask` of `rules`. Assumes nothing.
use Rattle.std.specs.Prelude.{List, ℕ, ◌+◌, ◌≤◌, length}
use Rattle.rules.specs.Ask.{ask_record, ask}
use Rattle.rules.specs.Layout.{view}
use Rattle.rules.specs.Calls.{layout_or}
use Rattle.rules.specs.Numbers.{Reply, answer_of, reply_to}
use Rattle.rules.specs.Promise.{Promise}
use Rattle.code.specs.declared.Instruction.{Instruction}
use Rattle.code.specs.declared.Instruction.TheVariants.{Cst, Access, Store, Add, Mul, Leq, Put, Get, Split, Fork}
use Rattle.code.specs.declared.Instruction.TheVariants.{Plug, Close, Halt, Same, Hput, Hcase, Run}

-- record r is asked to step in the state that m shows: the reply and the memory left
abbrev pub RecordStepped : (m : List ℕ) (r : ℕ) → Reply → (left : List ℕ) → Type 0
RecordStepped m r reply left = Promise (reply_to (ask_record (view m) r)) (layout_or m (ask_record (view m) r)) (answer_of reply) left

-- position p is asked to step in the state that m shows
abbrev pub PositionStepped : (m : List ℕ) (p : ℕ) → Reply → (left : List ℕ) → Type 0
PositionStepped m p reply left = Promise (reply_to (ask (view m) p)) (layout_or m (ask (view m) p)) (answer_of reply) left

-- the slots that a run lists stand in the code; the other instructions list none that their step reads
abbrev pub ListedIn : (code : List ℕ) (at : ℕ) → Instruction → Type 0
ListedIn code at (Run place n j) = at + 5 + j ≤ length code
ListedIn code at (Cst v) = Unit {0}
ListedIn code at (Access n) = Unit {0}
ListedIn code at Store = Unit {0}
ListedIn code at Add = Unit {0}
ListedIn code at Mul = Unit {0}
ListedIn code at Leq = Unit {0}
ListedIn code at (Put c) = Unit {0}
ListedIn code at (Get c) = Unit {0}
ListedIn code at (Split c a b) = Unit {0}
ListedIn code at (Fork c a first b second) = Unit {0}
ListedIn code at (Plug a first second) = Unit {0}
ListedIn code at (Close c) = Unit {0}
ListedIn code at (Halt c) = Unit {0}
ListedIn code at (Same c d) = Unit {0}
ListedIn code at (Hput c n) = Unit {0}
ListedIn code at (Hcase c k) = Unit {0}
