-- A word and values. Assumes nothing.
use Rattle.std.proofs.Common.{take}
use Rattle.text.proofs.Texts.{written_more, room_rest}
use Rattle.dump.specs.Shown.{values_text}
use Rattle.dump.proofs.record_line.put_named_values.Goals as goal

pub put_values-requires-clause-room : goal.put_values-requires-clause-room
put_values-requires-clause-room c = room_rest (values_text (take c.args.count c.args.values)) c.requires.room c.put_bytes.ensures

pub returns : goal.returns
returns c = written_more c.put_bytes.ensures c.put_values.ensures
