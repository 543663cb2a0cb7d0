-- What the answers of the runner and of the writer and the tests of the code stand for in the texts and in the memory. Assumes nothing.
use mathlib.Core.Path.{◌≡◌, refl, sym, ap, ◌∙◌}
use mathlib.Core.Bool.{true, false}
use mathlib.Core.List.{List, ◌++◌}
use Prim.Native.Nat.{ℕ, ◌+◌, ◌-◌, ◌*◌, ◌≤◌, ◌<◌}
use native.Mathlib.Omega.{arith}
use lib.ListN.{length, take, drop, length-append}
use lib.Seq.{take_at}
use borrow.Author.Tests.{eq-eqb, ltb-false, le-leb, lt-leb}
use Rattle.rules.specs.Limits.{code_limit}
use Rattle.rules.specs.Bytes.{pad}
use Rattle.rules.specs.Refusal.{Answer, refused, done, number_of, unless}
use Rattle.rules.specs.Run as run
use Rattle.rules.specs.Image.{block_size, data_size, block_count, headed, image_of, write_causes, written}
use Rattle.rules.specs.Layout.{state_size, view}
use Rattle.rules.specs.Calls.{sound_bytes, output_or, write_answer, write}
use Rattle.rules.specs.Numbers.{Reply, answer_of, reply_to, reply_number}
use Rattle.rules.proofs.Promises.{is_refused, reply_number_lem}
use Rattle.rules.specs.Text.{text}
use Rattle.rules.proofs.Rows.{all_passed}
use Rattle.words.specs.Parts.{put_at}
use Rattle.words.proofs.Pads.{length_pad}
use Rattle.image.proofs.Writes.{length_blocks}
use Rattle.runner.specs.declared.running.Ran.{Ran}
use Rattle.runner.specs.Runs.{ran_reply}
use Rattle.dump.specs.Shown.{state_text}
use Rattle.printed.specs.Meaning.{verdict_in}
use Rattle.printed.proofs.Whole.{named_back}
use Rattle.answers.specs.Answers.{number_line, hex_line, image_room, written_text, write_answered, step_text, made_text, ran_text}
use Rattle.answers.specs.Answers.{dump_answered, peek_answered, poke_answered, poked}

-- ---- a step

-- what is printed with the reply to an ask
pub step_replied : {A : Type 0} (name : List ℕ) (n : ℕ) (reply : Reply) (a : Answer A) → answer_of reply ≡ reply_to a
    → step_text name n (reply_number reply) ≡ step_text name n (number_of a)
step_replied name n reply a is = ap (λ (k : ℕ). step_text name n k) (reply_number_lem reply a is)

-- ---- a run

-- what is printed for it
abbrev text_in : Answer Ran → List ℕ
text_in (done x) = made_text x.steps x.next (verdict_in x.verdict)
text_in (refused n) = number_line (text "run: ") n

reply_text : (a : Answer run.Ran) → text_in (ran_reply a) ≡ ran_text a
reply_text (refused n) = refl
reply_text (done x) = ap (λ (v : run.Verdict). made_text x.made x.next v) (named_back x.verdict)

-- what is printed for the code's answer is what is said of the run
pub run_text_lem : (a : Answer run.Ran) {said : Answer Ran} → said ≡ ran_reply a → text_in said ≡ ran_text a
run_text_lem a e = ap text_in e ∙ reply_text a

-- ---- a write

-- refused: the number
pub write_refused : (code : List ℕ) (a : Answer (List ℕ)) (n : ℕ) → refused n ≡ reply_to a
    → number_line (text "write ") n ≡ written_text code a
write_refused code (refused k) n e = ap (λ (j : ℕ). number_line (text "write ") j) (ap number_of e)
write_refused code (done x) n e = absurd (omega (arith, ap is_refused e))

-- an image is as long as its blocks
pub image_length : (code : List ℕ) → length (image_of code) ≡ block_size * block_count (length code)
unfolding image_of
image_length code =
    let n : ℕ = block_count (length code) in
    let size = length_pad (data_size * n) 0 (headed code) in
    length_blocks n (pad (data_size * n) 0 (headed code)) (omega arith)

-- at most sixteen of them
pub image_short : (code : List ℕ) → length code ≤ code_limit → block_size * block_count (length code) ≤ 8192
unfolding block_count
image_short code h = omega arith

-- done: the code is no longer than a code may be
pub write_done : (code room : List ℕ) (a : Answer (List ℕ)) → write_answer code room ≡ a → done tt ≡ reply_to a
    → (length code ≤ code_limit) × (a ≡ done (written code room))
unfolding write_answer write_causes
write_done code room (refused n) is e = absurd (omega (arith, ap is_refused e))
write_done code room (done x) is e =
    let passed = all_passed (write_causes code room) (done (written code room)) x is in
    (ltb-false code_limit (length code) passed.0.1.0, sym passed.1)

-- a write into the room that is done: the image stands in front, and it is what is said
pub record Written-image (code after : List ℕ) : Type 0 where
  pub short : length code ≤ code_limit
  pub long : block_size * block_count (length code) ≤ length after
  pub front_is : take (block_size * block_count (length code)) after ≡ image_of code
  pub text_is : number_line (text "write ") 0 ++ hex_line (image_of code) ≡ write_answered code

pub image_done : (code room : List ℕ) {after : List ℕ} → room ≡ image_room → done tt ≡ reply_to (write_answer code room)
    → after ≡ (write code room).memory → Written-image code after
unfolding write written write_answered
image_done code room {after} is e left =
    let answer = write_done code room (write_answer code room) refl e in
    let n : ℕ = block_size * block_count (length code) in
    let all : after ≡ image_of code ++ drop n room = left ∙ ap (output_or room) answer.1 in
    record {
      short = answer.0;
      long = omega (arith, ap length all, length-append (image_of code) (drop n room), image_length code);
      front_is = ap (take n) all ∙ take_at (image_of code) (drop n room) n (image_length code);
      text_is = sym (ap (written_text code) answer.1) ∙ ap (λ (r : List ℕ). written_text code (write_answer code r)) is;
    }

-- ---- the bench

-- a memory that is the layout of no sound state, and one that is
module _ (state : List ℕ) (size : length state ≡ state_size) where
  pub dump_unsound : sound_bytes state ≡ false → number_line (text "dump: refused ") 1 ≡ dump_answered state
  unfolding dump_answered unless
  dump_unsound h = rw (eq-eqb (length state) state_size size, h) refl

  pub dump_sound : sound_bytes state ≡ true → state_text (view state) ≡ dump_answered state
  unfolding dump_answered unless
  dump_sound h = rw (eq-eqb (length state) state_size size, h) refl

-- bytes that do not all lie within the memory, and such as do
pub peek_outside : (state : List ℕ) (at count : ℕ) → length state < at + count → text "peek: out of range\n" ≡ peek_answered state at count
unfolding peek_answered
peek_outside state at count h = rw (lt-leb (at + count) (length state) h) refl

pub peek_inside : (state : List ℕ) (at count : ℕ) → at + count ≤ length state
    → hex_line (take (at + count - at) (drop at state)) ≡ peek_answered state at count
unfolding peek_answered
peek_inside state at count h =
    let e : at + count - at ≡ count = omega arith in
    rw (e, le-leb (at + count) (length state) h) refl

pub poke_outside : (state : List ℕ) (at : ℕ) (bytes : List ℕ) → length state < at + length bytes
    → (text "poke: out of range\n" ≡ poke_answered state at bytes) × (state ≡ poked state at bytes)
unfolding poke_answered poked
poke_outside state at bytes h =
    let e = lt-leb (at + length bytes) (length state) h in
    (rw e refl, rw e refl)

pub poke_inside : (state : List ℕ) (at : ℕ) (bytes : List ℕ) → at + length bytes ≤ length state
    → (text "poke: ok\n" ≡ poke_answered state at bytes) × (put_at state at bytes ≡ poked state at bytes)
unfolding poke_answered poked
poke_inside state at bytes h =
    let e = le-leb (at + length bytes) (length state) h in
    (rw e refl, rw e refl)
