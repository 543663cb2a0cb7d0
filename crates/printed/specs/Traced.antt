-- What the lines of a run leave in the buffer and in the memory, and the room that they take. Assumes nothing.
use Rattle.std.specs.Prelude.{ℕ, ◌+◌, ◌*◌, ◌≤◌, List, length}
use Rattle.rules.specs.State.{State}
use Rattle.rules.specs.Run.{Step}
use Rattle.rules.specs.Printed.{trace_budget, lines_text}
use Rattle.text.specs.declared.printing.Page.{Page}
use Rattle.text.specs.Page.{Puts}
use Rattle.runner.specs.Runs.{Ended}

-- bytes of a line, at most
abbrev pub line_limit : ℕ
line_limit = 29

-- bytes of the last line, at most
abbrev pub last_limit : ℕ
last_limit = 18

-- bytes of the whole text, at most
abbrev pub trace_limit : ℕ
trace_limit = line_limit * trace_budget + last_limit

-- the longest text has room from the page's place on
abbrev pub RoomToTrace : Page → Type 0
RoomToTrace p = p.at + trace_limit ≤ length p.out.now

-- the steps ss from st and position 0 have been made, their lines stand on the page, and take no more than lines do
pub record Traced (st : State) (ss : List Step) (p : Page) (made next : ℕ) (left : List ℕ) (q : Page) : Type 0 where
  pub ended : Ended st 0 ss made next left
  pub written : Puts p (lines_text 1 ss) q
  pub within : q.at ≤ p.at + line_limit * made
  pub budgeted : made ≤ trace_budget
