-- `take` writes the word of free ends without the end, and its partner. Assumes nothing.
use Rattle.std.proofs.Common.{refl}
use Rattle.rules.specs.State.{fresh_end}
use Rattle.ends.proofs.Changes.{fresh_written}
use Rattle.ends.proofs.change.take.Goals as goal

pub returns : goal.returns
returns c st z laid is_free =
    let a = c.args in
    let word = c.taken-word.ensures st (fresh_end a.partner.0) z (c.free_word.ensures st z laid) refl in
    fresh_written st z a.end.0 c.requires.1 laid is_free a.partner.0 c.taken-word.result word
    c.put_word.ensures c.put_partner.ensures
