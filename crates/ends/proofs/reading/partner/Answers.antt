-- `partner` is the partner that the bytes show. Assumes nothing.
use Rattle.std.proofs.Common.{◌∙◌}
use Rattle.ends.proofs.Shown.{partner_is}
use Rattle.ends.proofs.reading.partner.Goals as goal

pub returns : goal.returns
returns c st z e =
    let a = c.args in
    c.get8.ensures ∙ partner_is st z a.m.now e a.end.0 c.requires.1
