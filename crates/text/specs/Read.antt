-- What the answers of reading stand for. Assumes nothing.
use Rattle.std.specs.Prelude.{ℕ, Some, None, Option as Read}
use Rattle.std.proofs.Math.Option.{Option, none, some}

-- the number that was read, if one was
abbrev pub number_read : Read ℕ → Option ℕ
number_read (Some n) = some n
number_read None = none
