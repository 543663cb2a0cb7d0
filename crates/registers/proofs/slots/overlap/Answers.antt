-- The bits that both sets have. Assumes nothing.
use Rattle.std.proofs.Common.{arith}
use Rattle.registers.proofs.SlotLaws.{overlap_is}
use Rattle.registers.proofs.slots.overlap.Goals as goal

pub returns : goal.returns
returns c l n = let a = c.args in overlap_is l a.m a.n (rw n (omega arith))
