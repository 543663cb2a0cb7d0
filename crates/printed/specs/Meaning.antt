-- What the answers of the code stand for: a first byte, a kind and what is printed, of `rules`, Printed. Assumes nothing.
use Rattle.std.specs.Prelude.{◌≡◌, List, [], ℕ, ◌+◌, ◌-◌, ◌%◌, get_or, ltb, pos}
use Rattle.std.proofs.Math.Option.{some}
use Rattle.rules.specs.State as states
use Rattle.rules.specs.State.{State, start}
use Rattle.rules.specs.Instruction as instructions
use Rattle.rules.specs.Instruction.{form, forms, nothing_listed}
use Rattle.rules.specs.Printed as rules
use Rattle.rules.specs.Run as run
use Rattle.rules.specs.Printed.{printed, printed_at, last_text}
use Rattle.text.specs.Written.{pick}
use Rattle.runner.specs.declared.verdict.Verdict.{Verdict}
use Rattle.runner.specs.declared.verdict.Verdict.TheVariants.{Spent, Finished, Stuck}
use Rattle.printed.specs.declared.kinds.Kind.{Kind}
use Rattle.printed.specs.declared.kinds.Kind.TheVariants as kind
use Rattle.printed.specs.declared.kinds.Printed.{Printed}

-- the row of document 01's table that a first byte has; one that begins no instruction is never shown, and has one of them too
unfoldable pub row_of : (first : ℕ) → ℕ
row_of first = pick (ltb first 16) ((first + 5) % 6) (6 + (first - 16) % 11)

-- the name in a row
unfoldable pub name_in : (row : ℕ) → instructions.Name
name_in row = (get_or forms row (form 0 instructions.cst_name 0 nothing_listed)).name

-- the kind
abbrev pub kind_in : Kind → rules.Kind
kind_in (kind.Instruction first) = rules.instruction_kind (name_in (row_of first))
kind_in kind.Value = rules.value_kind
kind_in kind.Handle = rules.handle_kind
kind_in kind.Split = rules.split_kind
kind_in kind.Close = rules.close_kind

-- what is printed
abbrev pub printed_of : Printed → rules.Printed
printed_of x = printed x.position (kind_in x.kind) x.number

-- x is what the step at position p prints, if it prints anything
abbrev pub PrintsAt : State → (p : ℕ) → Printed → Type 0
PrintsAt st p x = (y : rules.Printed) → printed_at st p ≡ some y → printed_of x ≡ y

-- what an item prints that is taken from the head of a queue; for a wait, which prints nothing, as a close
abbrev pub item_printed : (p : ℕ) → states.Item → rules.Printed
item_printed p (states.datum (states.value v)) = printed p rules.value_kind v
item_printed p (states.datum (states.handle n)) = printed p rules.handle_kind (pos n)
item_printed p (states.last (states.split_item x y)) = printed p rules.split_kind (pos 0)
item_printed p (states.last states.close_item) = printed p rules.close_kind (pos 0)
item_printed p (states.last (states.wait_item r)) = printed p rules.close_kind (pos 0)

-- the verdict that a verdict of the runner's code stands for
abbrev pub verdict_in : Verdict → run.Verdict
verdict_in Spent = run.spent
verdict_in Finished = run.finished
verdict_in Stuck = run.stuck

-- the last line for a verdict, the steps made and the next position; it does not speak of the state reached
unfoldable pub last_line : Verdict → (made next : ℕ) → List ℕ
last_line v made next = last_text (record { reached = start []; made = made; next = next; verdict = verdict_in v })
