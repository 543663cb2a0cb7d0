-- How many bytes each part of a dump takes at most: what a buffer for it needs. Assumes nothing.
use Rattle.std.specs.Prelude.{ℕ, ◌+◌, ◌*◌}
use Rattle.rules.specs.Limits.{code_limit, record_count, end_count, slot_count, stack_depth, queue_depth}

-- a number, and a signed one
abbrev pub number_room : ℕ
number_room = 20

abbrev pub signed_room : ℕ
signed_room = 11

-- a list of values, each with its comma
abbrev pub values_room : ℕ
values_room = (signed_room + 1) * stack_depth

-- a slot, and all of them, each with its comma
abbrev pub slot_room : ℕ
slot_room = 2 * number_room + 1

abbrev pub slots_room : ℕ
slots_room = (slot_room + 1) * slot_count

-- the line of a record: two numbers, two lists of values, the slots, and thirty bytes of words
abbrev pub record_room : ℕ
record_room = 2 * number_room + 2 * values_room + slots_room + 30

-- an item, and a queue of them, each with its comma
abbrev pub item_room : ℕ
item_room = 2 * number_room + 2

abbrev pub queue_room : ℕ
queue_room = (item_room + 1) * queue_depth

-- the line of an end: two numbers, the queue, and eighteen bytes of words
abbrev pub end_room : ℕ
end_room = 2 * number_room + queue_room + 18

-- the line of the code
abbrev pub code_room : ℕ
code_room = 2 * code_limit + 6

-- all lines, and the last one
abbrev pub dump_room : ℕ
dump_room = code_room + record_room * record_count + end_room * end_count + 4
