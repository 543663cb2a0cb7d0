-- `set_partner` writes one byte. Assumes nothing.
use Rattle.ends.proofs.Changes.{partner_written}
use Rattle.ends.proofs.change.set_partner.Goals as goal

pub returns : goal.returns
returns c st z laid used =
    let a = c.args in
    partner_written st z a.end.0 c.requires.1 laid used a.partner.0 c.put_partner.ensures
