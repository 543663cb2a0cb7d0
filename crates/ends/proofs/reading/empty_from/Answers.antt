-- `empty_from` looks at eight counts at once, or at one. Assumes nothing.
use Rattle.std.proofs.Common.{sym, ◌∙◌, ◌+◌, ◌≤◌, arith}
use Rattle.rules.specs.Limits.{end_count}
use Rattle.ends.proofs.Shown.{eight_empty}
use Rattle.ends.proofs.reading.empty_from.Goals as goal

pub returns-then-get_eight_counts-eq0 : goal.returns-then-get_eight_counts-eq0
returns-then-get_eight_counts-eq0 c =
    let a = c.args in
    let eight : a.end.0 + 8 ≤ end_count = omega (arith, c.if-end-le-END_COUNT.true) in
    record {
      within = eight;
      empty = λ st z e. eight_empty st z a.m.now e a.end.0 eight (sym c.get_eight_counts.ensures ∙ c.if-get_eight_counts-eq0.true);
    }
