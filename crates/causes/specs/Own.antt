-- What an instruction gets by its record's registers alone: the number of the first of its rows 5 to 11 that holds, or done. Rows 12 to 15
-- look at what is shared, and are for the step itself. Assumes nothing.
use Rattle.std.specs.Prelude.{List}
use Rattle.rules.specs.State.{Registers}
use Rattle.rules.specs.Refusal.{Row, Answer, done, unless}
use Rattle.rules.specs.Instruction.{Instruction}
use Rattle.rules.specs.Causes.{own_causes}

-- the number of the first row that holds, or done
abbrev pub rows_reply : List Row → Answer (Unit {0})
rows_reply rows = unless rows (done tt)

-- the same of the rows 5 to 11 of instruction i for registers g
abbrev pub own_reply : Registers → Instruction → Answer (Unit {0})
own_reply g i = rows_reply (own_causes g i)
