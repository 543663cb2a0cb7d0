-- `read_hex` joins two digits after the other. The invariant: the first i bytes are put. Assumes nothing.
use Rattle.std.proofs.Common.{◌≡◌, length, take}
use Rattle.words.specs.Parts.{put_at}
use Rattle.text.specs.Digits.{hex_bytes}
use Rattle.text.proofs.reading.read_hex.Given as goal

abbrev pub invariant-loop-i : goal.invariant-loop-i
invariant-loop-i l = (length l.out ≡ length l.initial.out)
    × (l.out ≡ put_at l.initial.out l.at (take l.i (hex_bytes l.word)))
