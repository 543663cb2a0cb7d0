-- The line, and its end. Assumes nothing.
use Rattle.std.proofs.Common.{[], ◌∷◌}
use Rattle.rules.specs.Text.{text}
use Rattle.text.proofs.Texts.{written_more, room_rest}
use Rattle.answers.proofs.bench.remark.Goals as goal

pub put_bytes-requires-2 : goal.put_bytes-requires-2
unfolding text
put_bytes-requires-2 c = room_rest (10 ∷ []) c.requires c.put_bytes.ensures

pub returns : goal.returns
unfolding text
returns c = written_more c.put_bytes.ensures c.put_bytes-2.ensures
