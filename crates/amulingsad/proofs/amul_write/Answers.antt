-- The reply's number, and the buffer that `write` leaves. Assumes nothing.
use Rattle.std.proofs.Common.{◌∙◌}
use Rattle.rules.proofs.Promises.{number_returned}
use Rattle.amulingsad.proofs.amul_write.Goals as goal

pub returns : goal.returns
returns c = record {
  number = number_returned c.write.result c.number_of.ensures ∙ c.write.ensures.number;
  memory = c.write.ensures.memory;
}
