-- The limits of document 01, "The state", each named once. No law and no other definition has one of these numbers. Assumes nothing.
use Rattle.std.specs.Prelude.{ℕ, ◌+◌}

-- process records
abbrev pub record_count : ℕ
record_count = 32

-- ends
abbrev pub end_count : ℕ
end_count = 64

-- local slots of a record
abbrev pub slot_count : ℕ
slot_count = 8

-- values on a stack, at most
abbrev pub stack_depth : ℕ
stack_depth = 16

-- values in an environment, at most
abbrev pub environment_depth : ℕ
environment_depth = 16

-- items on a queue, at most
abbrev pub queue_depth : ℕ
queue_depth = 8

-- bytes of code, at most
abbrev pub code_limit : ℕ
code_limit = 8156

-- places are two-byte numbers
abbrev pub place_count : ℕ
place_count = 65536

-- handles are one-byte numbers
abbrev pub handle_count : ℕ
handle_count = 256

-- a signed number of 32 bits is below this and not below its negative
abbrev pub value_bound : ℕ
value_bound = 2147483648

-- places that an hcase lists, at most
abbrev pub cases_limit : ℕ
cases_limit = 16

-- positions of a run: the records, then the ends
abbrev pub position_count : ℕ
position_count = record_count + end_count
