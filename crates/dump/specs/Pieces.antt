-- What the functions inside print: what stands between the things of a list, the items of one end, and the process that registers of the
-- code show. Assumes nothing.
use Rattle.std.specs.Prelude.{ℕ, zero, suc, List, [], map, take}
use Rattle.rules.specs.State.{Registers as Process, registers, EndState, free_end, used}
use Rattle.rules.specs.Text.{text}
use Rattle.rules.specs.Layout.{view_optional}
use Rattle.registers.specs.declared.Registers.{Registers}
use Rattle.dump.specs.Shown.{queue_texts}

-- a comma behind so many things of a list; behind none, nothing
unfoldable pub comma_behind : (shown : ℕ) → List ℕ
comma_behind zero = []
comma_behind (suc n) = text ","

-- what ends a list of so many things: `-` for none
unfoldable pub dash_for : (shown : ℕ) → List ℕ
dash_for zero = text "-"
dash_for (suc n) = []

-- the process that registers of the code show
abbrev pub process_in : Registers → Process
process_in g =
    registers g.place (take g.stack_count g.stack) (take g.environment_count g.environment) (map view_optional g.slots)

-- the items of an end's queue; a free end has none
unfoldable pub item_texts : EndState → List (List ℕ)
item_texts free_end = []
item_texts (used m ds l) = queue_texts ds l
