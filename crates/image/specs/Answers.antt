-- What the reader answers of the code that it reads. Assumes nothing.
use Rattle.std.specs.Prelude.{ℕ, List, length}
use Rattle.rules.specs.Refusal.{Answer, refused, done}

-- the length of the code that is read, or why it is refused
abbrev pub length_read : Answer (List ℕ) → Answer ℕ
length_read (refused n) = refused n
length_read (done code) = done (length code)
