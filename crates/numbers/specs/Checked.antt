-- What add, mul and leq have in common: what they make of two values, and the answer once two values are there. Assumes nothing.
use Rattle.std.specs.Prelude.{ℕ, [], ◌∷◌, ◌+ℤ◌, ◌*ℤ◌}
use Rattle.std.specs.Int.Signed.{le_z}
use Rattle.rules.specs.State.{State, Value, Registers, running, set_record}
use Rattle.rules.specs.Refusal.{Answer, done, unless}
use Rattle.rules.specs.Instruction.{Instruction, add, mul, leq}
use Rattle.rules.specs.Causes.{outside}
use Rattle.rules.specs.RecordStep.{yes_or_no}
use Rattle.registers.specs.Registers.{combined, moved_to}
use Rattle.numbers.specs.declared.arithmetic.Made.{Made}
use Rattle.numbers.specs.declared.arithmetic.Made.TheVariants.{Sum, Product, Order}

-- what is made of the top and the value below it
abbrev pub made_of : Made → Value → Value → Value
made_of Sum x y = x +ℤ y
made_of Product x y = x *ℤ y
made_of Order x y = yes_or_no (le_z x y)

-- the instruction that makes it
abbrev pub makes : Made → Instruction
makes Sum = add
makes Product = mul
makes Order = leq

-- 9 if v is outside 32 bits, else the two values on top of record r's stack become v
abbrev pub checked : State → (r next : ℕ) → Registers → Value → Answer State
checked st r next g v = unless ((9, outside v) ∷ []) (done (set_record st r (running (moved_to (combined g v) next))))
