-- `copy_code` copies one run of the code for each block. The invariant: data up to p is copied, which for i blocks is all of theirs, but
-- neither the head nor what is past the code. Assumes nothing.
use Rattle.std.proofs.Common.{◌≡◌, ◌-◌, ◌*◌, min, max, length, take}
use Rattle.words.specs.Parts.{put_at}
use Rattle.rules.specs.Image.{data_size, head_size, code_in}
use Rattle.image.proofs.copy_code.Given as goal

abbrev pub invariant-loop-i : goal.invariant-loop-i
invariant-loop-i l =
    (l.p ≡ max head_size (min (data_size * l.i) l.end)) × (length l.out ≡ length l.initial.out)
    × (l.out ≡ put_at l.initial.out l.at (take (l.p - head_size) (code_in l.image)))
