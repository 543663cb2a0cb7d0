-- The length of the console's input buffer. Assumes nothing.
use Rattle.std.specs.Prelude.{ℕ, suc}
use Rattle.commands.specs.Asked.{line_limit}

-- a line, and one character more that shows that it is too long
abbrev pub input_size : ℕ
input_size = suc line_limit
