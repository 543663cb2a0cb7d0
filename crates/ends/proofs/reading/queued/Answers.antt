-- `queued` is the count that the bytes show. Assumes nothing.
use Rattle.std.proofs.Common.{◌∙◌}
use Rattle.ends.proofs.Shown.{count_is}
use Rattle.ends.proofs.reading.queued.Goals as goal

pub returns : goal.returns
returns c =
    let a = c.args in
    record {
      counted = c.get8.ensures;
      queued = λ st z e. c.get8.ensures ∙ count_is st z a.m.now e a.end.0 c.requires.1;
    }
