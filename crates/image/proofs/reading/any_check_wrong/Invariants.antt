-- `any_check_wrong` looks at the blocks from the front. The invariant: the blocks before i are right, so that a wrong one is among the n
-- that are left. Assumes nothing.
use Rattle.std.proofs.Common.{◌≡◌, ℕ, ◌+◌, ◌*◌, drop}
use Rattle.rules.specs.Image.{block_size, any_check_wrong}
use Rattle.image.proofs.reading.any_check_wrong.Given as goal

abbrev pub invariant-loop-i : goal.invariant-loop-i
invariant-loop-i l =
    (n : ℕ) → l.i + n ≡ l.count → any_check_wrong l.count l.image ≡ any_check_wrong n (drop (block_size * l.i) l.image)
