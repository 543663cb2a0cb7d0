-- The console's answers: what a line is answered with, and what it does to the state memory. One definition for each command of the
-- grammar (`commands`, specs/Asked.antt), through the requests of document 01 (`rules`, specs/Calls.antt). Every answer ends with a
-- newline. Assumes nothing.
use Rattle.std.specs.Prelude.{ℕ, ◌+◌, ◌*◌, List, ◌++◌, length, take, drop, replicate, leb}
use Rattle.rules.specs.State.{State}
use Rattle.rules.specs.Refusal.{Answer, refused, done}
use Rattle.rules.specs.Run.{Verdict, Ran}
use Rattle.rules.specs.Image.{block_size, block_limit, image_of}
use Rattle.rules.specs.Layout.{view}
use Rattle.rules.specs.Calls as calls
use Rattle.rules.specs.Calls.{where_sound, write_answer, call_record, call_end, FreeEnds, call_free_ends, run_answer, call_run}
use Rattle.rules.specs.Text.{text, decimal}
use Rattle.rules.specs.Printed.{verdict_text}
use Rattle.words.specs.Parts.{put_at}
use Rattle.text.specs.Written.{hex_text}
use Rattle.commands.specs.Asked.{Asked, unknown, remark, free, dump, load, write, record_step, end_step, run, peek, poke}
use Rattle.commands.specs.Asked.{line_limit, first_word, when}
use Rattle.dump.specs.Shown.{state_text}

-- a word, a number and the line's end
abbrev pub number_line : (word : List ℕ) (n : ℕ) → List ℕ
number_line word n = word ++ decimal n ++ text "\n"

-- bytes in hex and the line's end
abbrev pub hex_line : List ℕ → List ℕ
hex_line bytes = hex_text bytes ++ text "\n"

-- ---- the requests of document 01

-- `load HEX`: the number
unfoldable pub load_answered : (state image : List ℕ) → List ℕ
load_answered state image = number_line (text "load ") (calls.load state image).number

-- the room for an image: as many blocks as one has at most
unfoldable pub image_room : List ℕ
image_room = replicate (block_size * block_limit) 0

-- `write HEX`: the number, and where it is done the image in hex on a further line
abbrev pub written_text : (code : List ℕ) → Answer (List ℕ) → List ℕ
written_text code (refused n) = number_line (text "write ") n
written_text code (done image) = number_line (text "write ") 0 ++ hex_line (image_of code)

unfoldable pub write_answered : (code : List ℕ) → List ℕ
write_answered code = written_text code (write_answer code image_room)

-- `R n` and `E n`: the same again, and the number
abbrev pub step_text : (name : List ℕ) (n number : ℕ) → List ℕ
step_text name n number = name ++ decimal n ++ number_line (text ": ") number

unfoldable pub record_answered : (state : List ℕ) (n : ℕ) → List ℕ
record_answered state n = step_text (text "R ") n (call_record state n).number

unfoldable pub end_answered : (state : List ℕ) (n : ℕ) → List ℕ
end_answered state n = step_text (text "E ") n (call_end state n).number

-- `run BUDGET START`: 0, the steps made, the next position and the verdict, or the number
abbrev pub made_text : (steps next : ℕ) → Verdict → List ℕ
made_text steps next verdict =
    text "run: 0 " ++ decimal steps ++ text " " ++ decimal next ++ text " " ++ verdict_text verdict ++ text "\n"

abbrev pub ran_text : Answer Ran → List ℕ
ran_text (refused n) = number_line (text "run: ") n
ran_text (done ran) = made_text ran.made ran.next ran.verdict

unfoldable pub run_answered : (state : List ℕ) (budget start : ℕ) → List ℕ
run_answered state budget start = ran_text (run_answer state budget start)

-- `free`: how many ends are free and the lowest of them, or the number
abbrev pub counted_text : (count lowest : ℕ) → List ℕ
counted_text count lowest = text "free: " ++ decimal count ++ number_line (text " ") lowest

abbrev pub free_ends_text : Answer FreeEnds → List ℕ
free_ends_text (refused n) = number_line (text "free: refused ") n
free_ends_text (done x) = counted_text x.count x.lowest

unfoldable pub free_answered : (state : List ℕ) → List ℕ
free_answered state = free_ends_text (call_free_ends state)

-- ---- the state memory as it is

-- `dump`: the state in words, or the number where the memory shows none
abbrev pub shown_text : Answer State → List ℕ
shown_text (refused n) = number_line (text "dump: refused ") n
shown_text (done st) = state_text st

unfoldable pub dump_answered : (state : List ℕ) → List ℕ
dump_answered state = shown_text (where_sound state (done (view state)))

-- `peek AT COUNT`: these bytes in hex, if all of them lie within the memory
unfoldable pub peek_answered : (state : List ℕ) (at count : ℕ) → List ℕ
peek_answered state at count =
    when (leb (at + count) (length state)) (hex_line (take count (drop at state))) (text "peek: out of range\n")

-- `poke AT HEX`: whether all of these bytes lie within the memory; if so they are written there
unfoldable pub poke_answered : (state : List ℕ) (at : ℕ) (bytes : List ℕ) → List ℕ
poke_answered state at bytes = when (leb (at + length bytes) (length state)) (text "poke: ok\n") (text "poke: out of range\n")

unfoldable pub poked : (state : List ℕ) (at : ℕ) (bytes : List ℕ) → List ℕ
poked state at bytes = when (leb (at + length bytes) (length state)) (put_at state at bytes) state

-- `#`, and anything behind it: the line itself
abbrev pub remark_answered : (line : List ℕ) → List ℕ
remark_answered line = line ++ text "\n"

-- anything else: the line's first word, as far as a line goes
unfoldable pub unknown_answered : (line : List ℕ) → List ℕ
unknown_answered line = text "? " ++ take line_limit (first_word line) ++ text "\n"

-- ---- all commands

-- what is answered to a line that asks for this
abbrev pub answer_text : (line state : List ℕ) → Asked → List ℕ
answer_text line state (load image) = load_answered state image
answer_text line state (write code) = write_answered code
answer_text line state (record_step n) = record_answered state n
answer_text line state (end_step n) = end_answered state n
answer_text line state (run budget start) = run_answered state budget start
answer_text line state free = free_answered state
answer_text line state dump = dump_answered state
answer_text line state (peek at count) = peek_answered state at count
answer_text line state (poke at bytes) = poke_answered state at bytes
answer_text line state remark = remark_answered line
answer_text line state unknown = unknown_answered line

-- the state memory afterwards
abbrev pub state_after : (state : List ℕ) → Asked → List ℕ
state_after state (load image) = (calls.load state image).memory
state_after state (write code) = state
state_after state (record_step n) = (call_record state n).memory
state_after state (end_step n) = (call_end state n).memory
state_after state (run budget start) = (call_run state budget start).memory
state_after state free = state
state_after state dump = state
state_after state (peek at count) = state
state_after state (poke at bytes) = poked state at bytes
state_after state remark = state
state_after state unknown = state
