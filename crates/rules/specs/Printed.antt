-- Document 01, "One run in full": what a step prints, and the whole text of the printing program, in bytes. Assumes nothing.
use Rattle.std.specs.Prelude.{ℕ, suc, ◌-◌, Bool, true, false, List, [], ◌∷◌, ◌++◌, ltb, ℤ, pos}
use Rattle.std.proofs.Math.Option.{Option, none, some}
use Rattle.rules.specs.Limits.{record_count}
use Rattle.rules.specs.State.{State, value, handle, RecordState, free_record, running, waiting, record_at, start}
use Rattle.rules.specs.Refusal.{Answer, refused, done}
use Rattle.rules.specs.Instruction.{Instruction, cst, access, store, add, mul, leq, put, get, split, fork, plug, close, halt, same}
use Rattle.rules.specs.Instruction.{hput, hcase, run, Name, cst_name, access_name, store_name, add_name, mul_name, leq_name, put_name}
use Rattle.rules.specs.Instruction.{get_name, split_name, fork_name, plug_name, close_name, halt_name, same_name, hput_name}
use Rattle.rules.specs.Instruction.{hcase_name, run_name, Decoded, decode}
use Rattle.rules.specs.EndStep.{Meeting, mismatch, delivers, divides, closes, meeting}
use Rattle.rules.specs.Run.{Step, steps, Ran, Verdict, spent, finished, stuck, ran_by}
use Rattle.rules.specs.Image.{read_image}
use Rattle.rules.specs.Text.{text, decimal, signed_decimal}

-- ---- what a step prints

-- the instruction's name, or value or handle with its number, or split or close
pub data Kind : Type 0 where
  instruction_kind : Name → Kind
  value_kind handle_kind split_kind close_kind : Kind

-- the position asked, the kind, and the number, 0 for none
pub record Printed : Type 0 where
  pub position : ℕ
  pub kind : Kind
  pub number : ℤ

abbrev pub name_of : Instruction → Name
name_of (cst v) = cst_name
name_of (access n) = access_name
name_of store = store_name
name_of add = add_name
name_of mul = mul_name
name_of leq = leq_name
name_of (put c) = put_name
name_of (get c) = get_name
name_of (split c a b) = split_name
name_of (fork c a m place b m' place') = fork_name
name_of (plug a m place m' place') = plug_name
name_of (close c) = close_name
name_of (halt c) = halt_name
name_of (same c d) = same_name
name_of (hput c n) = hput_name
name_of (hcase c places) = hcase_name
name_of (run place n cs) = run_name

abbrev pub printed : ℕ → Kind → ℤ → Printed
printed position kind number = record { position = position; kind = kind; number = number }

abbrev pub printed_decoded : ℕ → Option Decoded → Option Printed
printed_decoded p none = none
printed_decoded p (some d) = some (printed p (instruction_kind (name_of d.instruction)) (pos 0))

-- a step of record p
abbrev pub printed_record : List ℕ → ℕ → RecordState → Option Printed
printed_record code p free_record = none
printed_record code p (waiting g) = none
printed_record code p (running g) = printed_decoded p (decode code g.place)

-- a step at an end, at position p
abbrev pub printed_meeting : ℕ → Meeting → Option Printed
printed_meeting p mismatch = none
printed_meeting p (delivers from to r (value v) g) = some (printed p value_kind v)
printed_meeting p (delivers from to r (handle n) g) = some (printed p handle_kind (pos n))
printed_meeting p (divides r g g') = some (printed p split_kind (pos 0))
printed_meeting p closes = some (printed p close_kind (pos 0))

abbrev pub pick_printed : Bool → Option Printed → Option Printed → Option Printed
pick_printed true x y = x
pick_printed false x y = y

-- the step at a position that can step
unfoldable pub printed_at : State → (p : ℕ) → Option Printed
printed_at st p =
    pick_printed (ltb p record_count) (printed_record st.code p (record_at st p)) (printed_meeting p (meeting st (p - record_count)))

-- ---- the text of the printing program

unfoldable pub name_text : Name → List ℕ
name_text cst_name = text "cst"
name_text access_name = text "access"
name_text store_name = text "store"
name_text add_name = text "add"
name_text mul_name = text "mul"
name_text leq_name = text "leq"
name_text put_name = text "put"
name_text get_name = text "get"
name_text split_name = text "split"
name_text fork_name = text "fork"
name_text plug_name = text "plug"
name_text close_name = text "close"
name_text halt_name = text "halt"
name_text same_name = text "same"
name_text hput_name = text "hput"
name_text hcase_name = text "hcase"
name_text run_name = text "run"

unfoldable pub kind_text : Kind → ℤ → List ℕ
kind_text (instruction_kind name) v = name_text name
kind_text value_kind v = text "value " ++ signed_decimal v
kind_text handle_kind v = text "handle " ++ signed_decimal v
kind_text split_kind v = text "split"
kind_text close_kind v = text "close"

abbrev pub pick_text : Bool → List ℕ → List ℕ → List ℕ
pick_text true x y = x
pick_text false x y = y

-- R and the record, or E and the end
unfoldable pub position_text : ℕ → List ℕ
position_text p = pick_text (ltb p record_count) (text "R" ++ decimal p) (text "E" ++ decimal (p - record_count))

-- a line: the step counted from 1, who was asked, what was done
unfoldable pub line_text : (number : ℕ) → Option Printed → List ℕ
line_text number none = []
line_text number (some x) =
    decimal number ++ text " " ++ position_text x.position ++ text " " ++ kind_text x.kind x.number ++ text "\n"

-- the lines of the steps, numbered from n
unfoldable pub lines_text : (n : ℕ) → List Step → List ℕ
lines_text n [] = []
lines_text n (s ∷ ss) = line_text n (printed_at s.before s.position) ++ lines_text (suc n) ss

unfoldable pub verdict_text : Verdict → List ℕ
verdict_text spent = text "spent"
verdict_text finished = text "finished"
verdict_text stuck = text "stuck"

-- the last line: verdict, steps, next position
unfoldable pub last_text : Ran → List ℕ
last_text ran = verdict_text ran.verdict ++ text " " ++ decimal ran.made ++ text " " ++ decimal ran.next ++ text "\n"

-- the budget of the printing program
abbrev pub trace_budget : ℕ
trace_budget = 60000

unfoldable pub run_text : State → List Step → List ℕ
run_text st ss = lines_text 1 ss ++ last_text (ran_by st 0 ss)

abbrev pub answer_text : Answer (List ℕ) → List ℕ
answer_text (refused n) = text "refused " ++ decimal n ++ text "\n"
answer_text (done code) = run_text (start code) (steps trace_budget (start code) 0)

-- all that the printing program writes for an image: it runs from position 0; a refused image prints only "refused" and the number
unfoldable pub trace_text : (image : List ℕ) → List ℕ
trace_text image = answer_text (read_image image)
