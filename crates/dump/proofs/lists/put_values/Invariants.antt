-- One value after the other. The invariant: the first k values stand. Assumes nothing.
use Rattle.std.proofs.Common.{take}
use Rattle.text.specs.Page.{Puts}
use Rattle.dump.proofs.OneByOne.{so_far}
use Rattle.dump.proofs.ValueTexts.{value_texts}
use Rattle.dump.proofs.lists.put_values.Given as goal

abbrev pub invariant-loop-k : goal.invariant-loop-k
invariant-loop-k l = Puts l.initial.page (so_far (take l.k (value_texts l.count l.values))) l.page
