-- `is_datum` goes by the cell's kind. Assumes nothing.
use Rattle.canonical.proofs.Cells.{datum_kind, no_datum}
use Rattle.canonical.proofs.queues.is_datum.Goals as goal

pub returns-in-1 : goal.returns-in-1
returns-in-1 c = datum_kind c.args.cell c.in-1.is

pub returns-in-2 : goal.returns-in-2
returns-in-2 c = datum_kind c.args.cell c.in-2.is

pub returns-in_default : goal.returns-in_default
returns-in_default c = no_datum c.args.cell c.in_default.in_default-own.rest.0.1 c.in_default.in_default-own.rest.1
