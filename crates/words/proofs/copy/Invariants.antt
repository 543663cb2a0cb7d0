-- `copy` stores the bytes one after the other. The invariant: the first i are written. Assumes nothing.
use Rattle.std.proofs.Common.{◌≡◌, length, take}
use Rattle.words.specs.Parts.{put_at}
use Rattle.words.proofs.copy.Given as goal

abbrev pub invariant-loop-i : goal.invariant-loop-i
invariant-loop-i l = (length l.m ≡ length l.initial.m) × (l.m ≡ put_at l.initial.m l.at (take l.i l.bytes))
