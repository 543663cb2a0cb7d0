-- `freed` sets the bit of an end. Assumes nothing.
use Rattle.std.proofs.Common.{◌<◌, length}
use Rattle.ends.proofs.Words.{word_freed}
use Rattle.ends.proofs.word.freed.Goals as goal

pub returns : goal.returns
returns c st z e =
    let a = c.args in
    let inside : a.end.0 < length st.ends = rw z.ends_sized c.requires in
    rw (e, c.bit.ensures) (word_freed st.ends a.end.0 inside)
