-- `names` looks at the bit of an end. Assumes nothing.
use Rattle.std.proofs.Common.{◌<◌, length}
use Rattle.ends.proofs.Words.{word_holds}
use Rattle.ends.proofs.word.names.Goals as goal

pub returns : goal.returns
returns c st z e =
    let a = c.args in
    let inside : a.end.0 < length st.ends = rw z.ends_sized c.requires in
    rw e (word_holds st.ends a.end.0 inside)
