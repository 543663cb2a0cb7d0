-- Which registers of `rules` the registers of the code stand for, and what the code's methods make of them. `Process` is the name here for
-- the registers of `rules`: a place, two lists of values and a list of slots. The code has the same in arrays of fixed length. `Maybe` is
-- the name here for the Option of the code. Assumes nothing.
use Rattle.std.specs.Prelude.{ℕ, ◌+◌, ◌*◌, List, ◌∷◌, map, reverse, length, take, drop, pos, Option as Maybe, Some, None}
use Rattle.std.proofs.Math.Option.{Option, none, some}
use Rattle.std.specs.Int.{w32}
use Rattle.std.proofs.Common.{to_z}
use Rattle.rules.specs.Limits.{slot_count, stack_depth, environment_depth}
use Rattle.rules.specs.Bytes.{pad, table, number_at}
use Rattle.rules.specs.State.{Value, Registers as Process, registers, RecordState, free_record, running, waiting}
use Rattle.rules.specs.Slots.{Slots, callee_slots}
use Rattle.rules.specs.Causes.{top}
use Rattle.rules.specs.Layout.{value_size, optional, no_registers}
use Rattle.rules.specs.Numbers.{end_number, record_number}
use Rattle.rules.specs.declared.End.{End}
use Rattle.rules.specs.declared.Record.{Record}
use Rattle.registers.specs.declared.Registers.{Registers}
use Rattle.registers.specs.declared.records.Status.{Status}
use Rattle.registers.specs.declared.records.Status.TheVariants.{Free, Running, Waiting}

-- ---- arrays

-- the slots in their bytes: 0 for an empty slot, an end's number and one for a held one
abbrev pub slot_bytes : Slots → List ℕ
slot_bytes slots = map optional (pad slot_count none slots)

-- the registers of the code that stand for those of a process: counts, and zeros behind the values in use
unfoldable pub registers_of : Process → Registers
registers_of g = record {
  place = g.place;
  stack_count = length g.stack;
  environment_count = length g.environment;
  slots = slot_bytes g.slots;
  stack = pad stack_depth (pos 0) g.stack;
  environment = pad environment_depth (pos 0) g.environment;
}

-- the values in the cells of m from `at` on
unfoldable pub values_at : List ℕ → ℕ → List Value
values_at m at = table stack_depth (λ (j : ℕ). to_z w32 (number_at value_size m (at + value_size * j)))

-- ---- records

-- the registers that a record's bytes show: those of a record in use; a free one shows none
abbrev pub registers_in : RecordState → Process
registers_in free_record = no_registers
registers_in (running g) = g
registers_in (waiting g) = g

-- what a record is
abbrev pub status_of : RecordState → Status
status_of free_record = Free
status_of (running g) = Running
status_of (waiting g) = Waiting

-- the byte that says so
abbrev pub status_byte : Status → ℕ
status_byte Free = 0
status_byte Running = 1
status_byte Waiting = 2

-- what a local slot stands for: no end, or this one
abbrev pub end_of : Maybe End → Option ℕ
end_of None = none
end_of (Some e) = some (end_number e)

-- the record's number; without a record, n
abbrev pub record_or : (n : ℕ) → Maybe Record → ℕ
record_or n None = n
record_or n (Some r) = record_number r

-- ---- changes, in the words of a step of a record

-- v on top of the stack
abbrev pub pushed : Process → Value → Process
pushed g v = registers g.place (v ∷ g.stack) g.environment g.slots

-- the top is gone
abbrev pub popped : Process → Process
popped g = registers g.place (drop 1 g.stack) g.environment g.slots

-- the top stands in front of the environment
abbrev pub stored : Process → Process
stored g = registers g.place (drop 1 g.stack) (top g ∷ g.environment) g.slots

-- the two values on top have become v
abbrev pub combined : Process → Value → Process
combined g v = registers g.place (v ∷ drop 2 g.stack) g.environment g.slots

-- the process goes on at a place
abbrev pub moved_to : Process → (place : ℕ) → Process
moved_to g place = registers place g.stack g.environment g.slots

-- the slots are others
abbrev pub with_slots : Process → Slots → Process
with_slots g slots = registers g.place g.stack g.environment slots

-- n values popped are the environment, the last one popped first
abbrev pub passed : Process → (n : ℕ) → Process
passed g n = registers g.place (drop n g.stack) (reverse (take n g.stack)) g.slots

-- the registers of a callee: at a place, with n values and the listed slots
abbrev pub called : Process → (place n : ℕ) → (listed : List ℕ) → Process
called g place n listed = registers place (drop n g.stack) (reverse (take n g.stack)) (callee_slots g.slots listed)
