-- Every answer fits the output buffer. Assumes nothing.
use mathlib.Core.Path.{◌≡◌, refl, ap}
use mathlib.Core.Bool.{Bool, true, false}
use mathlib.Core.List.{List}
use Prim.Native.Nat.{ℕ, ◌+◌, ◌≤◌}
use native.Mathlib.Omega.{arith}
use lib.ListN.{length, take, drop, length-append, length-take}
use lib.Dec.{leb}
use borrow.Author.Tests.{leb-true}
use Rattle.rules.specs.Refusal.{Answer, refused, done}
use Rattle.rules.specs.Run.{Verdict, spent, finished, stuck, Ran}
use Rattle.rules.specs.Image.{image_of}
use Rattle.rules.specs.Layout.{state_size}
use Rattle.rules.specs.Calls as calls
use Rattle.rules.specs.Calls.{sound_bytes, write_answer, call_record, call_end, FreeEnds, call_free_ends, run_answer}
use Rattle.rules.specs.Text.{text}
use Rattle.rules.specs.Printed.{verdict_text}
use Rattle.keeping.proofs.Memories.{memory_of_test}
use Rattle.text.proofs.Shortness.{decimal_room}
use Rattle.commands.specs.Asked.{Asked, unknown, remark, free, dump, load, write, record_step, end_step, run, peek, poke}
use Rattle.commands.specs.Asked.{asked, line_limit, first_word, when}
use Rattle.commands.proofs.Parsing.{remark_short}
use Rattle.dump.proofs.Lengths.{state_room}
use Rattle.answers.specs.Sizes.{output_size}
use Rattle.answers.specs.Answers.{number_line, hex_line, load_answered, image_room, written_text, write_answered, step_text}
use Rattle.answers.specs.Answers.{record_answered, end_answered, ran_text, run_answered, free_ends_text, free_answered, dump_answered}
use Rattle.answers.specs.Answers.{peek_answered, poke_answered, answer_text}
use Rattle.answers.proofs.Texts.{number_length, hex_length, verdict_length, step_length, made_length, counted_length}
use Rattle.answers.proofs.Texts.{unknown_length}
use Rattle.answers.proofs.Cases.{image_length, image_short, write_done, dump_unsound, dump_sound}

-- a number has at most twenty digits
number_most : (word : List ℕ) (n : ℕ) → length (number_line word n) ≤ length word + 21
number_most word n = omega (arith, number_length word n, decimal_room n)

-- ---- the requests

step_most : (name : List ℕ) (n number : ℕ) → length (step_text name n number) ≤ length name + 43
unfolding text
step_most name n number =
    omega (arith, step_length name n number, decimal_room n, number_most (text ": ") number)

written_most : (code : List ℕ) (a : Answer (List ℕ)) → write_answer code image_room ≡ a → length (written_text code a) ≤ output_size
unfolding text
written_most code (refused n) is = omega (arith, number_most (text "write ") n)
written_most code (done x) is =
    let short = (write_done code image_room (done x) is refl).0 in
    omega (
      arith,
      length-append (number_line (text "write ") 0) (hex_line (image_of code)),
      number_most (text "write ") 0,
      hex_length (image_of code),
      image_length code,
      image_short code short,
    )

verdict_most : (v : Verdict) → length (verdict_text v) ≤ 8
unfolding verdict_text text
verdict_most spent = omega arith
verdict_most finished = omega arith
verdict_most stuck = omega arith

ran_most : (a : Answer Ran) → length (ran_text a) ≤ output_size
unfolding text
ran_most (refused n) = omega (arith, number_most (text "run: ") n)
ran_most (done x) =
    omega (
      arith,
      made_length x.made x.next x.verdict,
      decimal_room x.made,
      decimal_room x.next,
      verdict_length x.verdict,
      verdict_most x.verdict,
    )

free_most : (a : Answer FreeEnds) → length (free_ends_text a) ≤ output_size
unfolding text
free_most (refused n) = omega (arith, number_most (text "free: refused ") n)
free_most (done x) =
    omega (arith, counted_length x.count x.lowest, decimal_room x.count, number_most (text " ") x.lowest)

-- ---- the bench

dump_most : (state : List ℕ) → length state ≡ state_size → (b : Bool) → sound_bytes state ≡ b → length (dump_answered state) ≤ output_size
unfolding text
dump_most state size true is =
    omega (arith, ap length (dump_sound state size is), state_room state (memory_of_test state is))
dump_most state size false is =
    omega (arith, ap length (dump_unsound state size is), number_most (text "dump: refused ") 1)

peek_most : (state : List ℕ) (at count : ℕ) → length state ≡ state_size → (b : Bool) → leb (at + count) (length state) ≡ b
    → length (when b (hex_line (take count (drop at state))) (text "peek: out of range\n")) ≤ output_size
unfolding text
peek_most state at count size true is =
    let within = leb-true (at + count) (length state) is in
    omega (arith, hex_length (take count (drop at state)), length-take count (drop at state))
peek_most state at count size false is = omega arith

poke_most : (b : Bool) → length (when b (text "poke: ok\n") (text "poke: out of range\n")) ≤ output_size
unfolding text
poke_most true = omega arith
poke_most false = omega arith

-- ---- every answer

pub answer_short : (line state : List ℕ) (a : Asked) → a ≡ asked line → length state ≡ state_size
    → length (answer_text line state a) ≤ output_size
unfolding load_answered write_answered record_answered end_answered run_answered free_answered peek_answered poke_answered text
answer_short line state remark is size = omega (arith, length-append line (text "\n"), remark_short line is)
answer_short line state unknown is size =
    omega (arith, unknown_length line, length-take line_limit (first_word line))
answer_short line state (load image) is size = omega (arith, number_most (text "load ") (calls.load state image).number)
answer_short line state (write code) is size = written_most code (write_answer code image_room) refl
answer_short line state (record_step n) is size = omega (arith, step_most (text "R ") n (call_record state n).number)
answer_short line state (end_step n) is size = omega (arith, step_most (text "E ") n (call_end state n).number)
answer_short line state (run budget start) is size = ran_most (run_answer state budget start)
answer_short line state free is size = free_most (call_free_ends state)
answer_short line state dump is size = dump_most state size (sound_bytes state) refl
answer_short line state (peek at count) is size = peek_most state at count size (leb (at + count) (length state)) refl
answer_short line state (poke at bytes) is size = poke_most (leb (at + length bytes) (length state))
