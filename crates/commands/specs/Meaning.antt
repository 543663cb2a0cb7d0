-- What a parsed command stands for, with the bytes that its hex word left in the lent buffer. Assumes nothing.
use Rattle.std.specs.Prelude.{ℕ, List, take, Option, Some, None}
use Rattle.commands.specs.Asked.{Asked, unknown, remark, free, dump, load, write, record_step, end_step, run, peek, poke}
use Rattle.commands.specs.Asked.{number_limit, budget_limit}
use Rattle.commands.specs.declared.Name.{Name}
use Rattle.commands.specs.declared.Command.{Command}

-- what a command asks for
abbrev pub command_asked : List ℕ → Command → Asked
command_asked bytes Command.Remark = remark
command_asked bytes (Command.Load n) = load (take n bytes)
command_asked bytes (Command.Write n) = write (take n bytes)
command_asked bytes (Command.Record n) = record_step n
command_asked bytes (Command.End n) = end_step n
command_asked bytes (Command.Run budget start) = run budget start
command_asked bytes Command.Free = free
command_asked bytes Command.Dump = dump
command_asked bytes (Command.Peek at n) = peek at n
command_asked bytes (Command.Poke at n) = poke at (take n bytes)

-- what is asked for, by a command that is understood or by a line that is not
abbrev pub meaning : List ℕ → Option Command → Asked
meaning bytes None = unknown
meaning bytes (Some command) = command_asked bytes command

-- how many bytes of the buffer a command speaks of
abbrev pub bytes_in : Command → ℕ
bytes_in Command.Remark = 0
bytes_in (Command.Load n) = n
bytes_in (Command.Write n) = n
bytes_in (Command.Record n) = 0
bytes_in (Command.End n) = 0
bytes_in (Command.Run budget start) = 0
bytes_in Command.Free = 0
bytes_in Command.Dump = 0
bytes_in (Command.Peek at n) = 0
bytes_in (Command.Poke at n) = n

abbrev pub byte_count : Option Command → ℕ
byte_count None = 0
byte_count (Some command) = bytes_in command

-- what a name asks for with its numbers and bytes
abbrev pub asks : Name → (first second : ℕ) → List ℕ → Asked
asks Name.Load first second bytes = load bytes
asks Name.Write first second bytes = write bytes
asks Name.Record first second bytes = record_step second
asks Name.End first second bytes = end_step second
asks Name.Run first second bytes = run first second
asks Name.Peek first second bytes = peek first second
asks Name.Poke first second bytes = poke first bytes

-- how large its first number may be
abbrev pub first_limit : Name → ℕ
first_limit Name.Load = number_limit
first_limit Name.Write = number_limit
first_limit Name.Record = number_limit
first_limit Name.End = number_limit
first_limit Name.Run = budget_limit
first_limit Name.Peek = number_limit
first_limit Name.Poke = number_limit
