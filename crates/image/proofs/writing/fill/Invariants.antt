-- `fill` writes the data byte by byte. The invariant: the first i bytes are written. Assumes nothing.
use Rattle.std.proofs.Common.{◌≡◌, ℕ, ◌+◌, length, get_or}
use Rattle.words.proofs.Tables.{Filled}
use Rattle.rules.specs.Image.{headed}
use Rattle.image.proofs.writing.fill.Given as goal

abbrev pub invariant-loop-i : goal.invariant-loop-i
invariant-loop-i l =
    (length l.bytes ≡ length l.initial.bytes)
    × Filled 0 (length l.initial.bytes) (λ (j : ℕ). get_or (headed l.code) (l.from + j) 0) l.bytes l.i
