-- One item after the other. The invariant: the first k items stand. Assumes nothing.
use Rattle.std.proofs.Common.{take}
use Rattle.rules.specs.State.{end_at}
use Rattle.rules.specs.Layout.{view}
use Rattle.text.specs.Page.{Puts}
use Rattle.dump.specs.Pieces.{item_texts}
use Rattle.dump.proofs.OneByOne.{so_far}
use Rattle.dump.proofs.end_line.put_queue.Given as goal

abbrev pub invariant-loop-k : goal.invariant-loop-k
invariant-loop-k l = Puts l.initial.page (so_far (take l.k (item_texts (end_at (view l.m) l.e)))) l.page
