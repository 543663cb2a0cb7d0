-- `is_last` goes by the cell's kind. Assumes nothing.
use Rattle.std.proofs.Common.{◌∙◌}
use Rattle.canonical.proofs.Cells.{last_kind, no_last}
use Rattle.canonical.proofs.queues.is_last.Goals as goal

pub returns-in-3 : goal.returns-in-3
returns-in-3 c = c.is_split.ensures ∙ last_kind c.args.cell c.in-3.is

pub returns-in-4 : goal.returns-in-4
returns-in-4 c = last_kind c.args.cell c.in-4.is

pub returns-in-5 : goal.returns-in-5
returns-in-5 c = last_kind c.args.cell c.in-5.is

pub returns-in_default : goal.returns-in_default
returns-in_default c =
    no_last c.args.cell c.in_default.in_default-own.rest.0.0.1 c.in_default.in_default-own.rest.0.1 c.in_default.in_default-own.rest.1
