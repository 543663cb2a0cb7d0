-- One line after the other. The invariant: the lines of the first e ends stand. Assumes nothing.
use Rattle.rules.specs.Limits.{end_count}
use Rattle.rules.specs.Layout.{view}
use Rattle.dump.specs.Shown.{end_text}
use Rattle.dump.proofs.OneByOne.{LinesTo}
use Rattle.dump.proofs.put_ends.Given as goal

abbrev pub invariant-loop-e : goal.invariant-loop-e
invariant-loop-e l = LinesTo end_text end_count (view l.m).ends l.initial.page l.page l.e
