-- A word and a number. Assumes nothing.
use Rattle.rules.specs.Text.{decimal}
use Rattle.text.proofs.Texts.{written_more, room_rest}
use Rattle.dump.proofs.lists.put_named.Goals as goal

pub put_decimal-requires : goal.put_decimal-requires
put_decimal-requires c = room_rest (decimal c.args.n) c.requires c.put_bytes.ensures

pub returns : goal.returns
returns c = written_more c.put_bytes.ensures c.put_decimal.ensures
