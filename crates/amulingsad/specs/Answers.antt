-- What the functions for hosts write through pointers: the answer, or what stood there before a refused call. Assumes nothing.
use Rattle.std.specs.Prelude.{ℕ}
use Rattle.rules.specs.Refusal.{Answer, refused, done}
use Rattle.rules.specs.Run as rules
use Rattle.rules.specs.Calls.{FreeEnds}
use Rattle.runner.specs.declared.verdict.Verdict.{Verdict}
use Rattle.runner.specs.declared.verdict.Verdict.TheVariants.{Spent, Finished, Stuck}
use Rattle.runner.specs.Runs.{verdict_code}

-- how many ends are free
abbrev pub count_or : ℕ → Answer FreeEnds → ℕ
count_or before (refused n) = before
count_or before (done x) = x.count

-- the lowest of them
abbrev pub lowest_or : ℕ → Answer FreeEnds → ℕ
lowest_or before (refused n) = before
lowest_or before (done x) = x.lowest

-- steps made
abbrev pub steps_or : ℕ → Answer rules.Ran → ℕ
steps_or before (refused n) = before
steps_or before (done ran) = ran.made

-- the next position
abbrev pub next_or : ℕ → Answer rules.Ran → ℕ
next_or before (refused n) = before
next_or before (done ran) = ran.next

-- the number of a verdict in the header
abbrev pub verdict_number : Verdict → ℕ
verdict_number Spent = 0
verdict_number Finished = 1
verdict_number Stuck = 2

-- how the run came out
abbrev pub verdict_or : ℕ → Answer rules.Ran → ℕ
verdict_or before (refused n) = before
verdict_or before (done ran) = verdict_number (verdict_code ran.verdict)
