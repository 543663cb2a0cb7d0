-- What the code's answers mean: each case of the enum is an instruction of `rules`, read beside the code that it was decoded from,
-- since the places of an hcase and the slots of a run stay there. `Maybe` is the name here for the Option of the code. Assumes nothing.
use Rattle.std.specs.Prelude.{ℕ, List, Option as Maybe, Some, None}
use Rattle.std.proofs.Math.Option.{Option, none, some}
use Rattle.rules.specs.Numbers.{slot_number}
use Rattle.rules.specs.Instruction as rules
use Rattle.rules.specs.Instruction.{places_at, slots_at}
use Rattle.code.specs.declared.Instruction.{Instruction}
use Rattle.code.specs.declared.Instruction.TheVariants.{Cst, Access, Store, Add, Mul, Leq, Put, Get, Split, Fork}
use Rattle.code.specs.declared.Instruction.TheVariants.{Plug, Close, Halt, Same, Hput, Hcase, Run}
use Rattle.code.specs.declared.Decoded.{Decoded}

-- the instruction that a case stands for, decoded at that place of the code
abbrev pub instruction_of : (code : List ℕ) (place : ℕ) → Instruction → rules.Instruction
instruction_of code place (Cst v) = rules.cst v
instruction_of code place (Access n) = rules.access n
instruction_of code place Store = rules.store
instruction_of code place Add = rules.add
instruction_of code place Mul = rules.mul
instruction_of code place Leq = rules.leq
instruction_of code place (Put c) = rules.put (slot_number c)
instruction_of code place (Get c) = rules.get (slot_number c)
instruction_of code place (Split c a b) = rules.split (slot_number c) (slot_number a) (slot_number b)
instruction_of code place (Fork c a first b second) =
    rules.fork (slot_number c) (slot_number a) first.set first.place (slot_number b) second.set second.place
instruction_of code place (Plug a first second) = rules.plug (slot_number a) first.set first.place second.set second.place
instruction_of code place (Close c) = rules.close (slot_number c)
instruction_of code place (Halt c) = rules.halt (slot_number c)
instruction_of code place (Same c d) = rules.same (slot_number c) (slot_number d)
instruction_of code place (Hput c n) = rules.hput (slot_number c) n
instruction_of code place (Hcase c k) = rules.hcase (slot_number c) (places_at code place 3 k)
instruction_of code place (Run p n j) = rules.run p n (slots_at code place 5 j)

-- one instruction with the place after it, or none
abbrev pub meaning : (code : List ℕ) (place : ℕ) → Maybe Decoded → Option rules.Decoded
meaning code place (Some d) = some (record { instruction = instruction_of code place d.instruction; next = d.next })
meaning code place None = none

-- an instruction at a place, where reading goes on at `after`; or none
abbrev pub read_to : (code : List ℕ) (place after : ℕ) → Maybe Instruction → Option rules.Decoded
read_to code place after (Some i) = some (record { instruction = instruction_of code place i; next = after })
read_to code place after None = none
