-- The lengths of the buffers that an answer is made in. Assumes nothing.
use Rattle.std.specs.Prelude.{ℕ, ◌/◌}
use Rattle.commands.specs.Asked.{line_limit}

-- the bytes of a hex word
abbrev pub byte_size : ℕ
byte_size = line_limit / 2

-- an answer: the longest is a dump
abbrev pub output_size : ℕ
output_size = 80000
