-- One line after the other. The invariant: the lines of the first r records stand. Assumes nothing.
use Rattle.rules.specs.Limits.{record_count}
use Rattle.rules.specs.Layout.{view}
use Rattle.dump.specs.Shown.{record_text}
use Rattle.dump.proofs.OneByOne.{LinesTo}
use Rattle.dump.proofs.put_records.Given as goal

abbrev pub invariant-loop-r : goal.invariant-loop-r
invariant-loop-r l = LinesTo record_text record_count (view l.m).records l.initial.page l.page l.r
