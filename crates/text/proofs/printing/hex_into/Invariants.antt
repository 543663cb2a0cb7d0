-- `hex_into` puts one byte after the other. The invariant: the first i are put. Assumes nothing.
use Rattle.std.proofs.Common.{◌≡◌, length, take}
use Rattle.rules.specs.Bytes.{flat}
use Rattle.words.specs.Parts.{put_at}
use Rattle.text.specs.Written.{hex_byte}
use Rattle.text.proofs.printing.hex_into.Given as goal

abbrev pub invariant-loop-i : goal.invariant-loop-i
invariant-loop-i l = (length l.out ≡ length l.initial.out)
    × (l.out ≡ put_at l.initial.out 0 (flat hex_byte (take l.i l.bytes)))
