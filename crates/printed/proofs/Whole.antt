-- The whole text: an image that is refused has one line, and one that loads the lines of its run and the last one. Assumes nothing.
use mathlib.Core.Path.{◌≡◌, refl, sym, ap, ◌∙◌, subst}
use mathlib.Core.List.{List, ◌++◌}
use Prim.Native.Nat.{ℕ, ◌<◌}
use native.Mathlib.Omega.{arith}
use lib.ListN.{length, get_or}
use borrow.Author.Tests.{eq-eqb}
use Rattle.rules.specs.State.{State, start}
use Rattle.rules.specs.Refusal.{Answer, refused, done, unless, number_of}
use Rattle.rules.specs.Run as run
use Rattle.rules.specs.Run.{Step, steps, reached_by, verdict_of, ran_by}
use Rattle.rules.specs.Image.{read_causes, code_in, read_image}
use Rattle.rules.specs.Text.{text, decimal}
use Rattle.rules.specs.Printed.{lines_text, last_text, trace_budget, run_text, answer_text, trace_text}
use Rattle.rules.specs.Layout.{state_size, layout, view}
use Rattle.rules.specs.Calls.{started, load_answer, load}
use Rattle.rules.specs.Numbers.{reply_to}
use Rattle.rules.proofs.Promises.{is_refused}
use Rattle.rules.specs.Promise.{Promise}
use Rattle.rules.proofs.Rows.{all_passed}
use Rattle.keeping.specs.Demand3.{SoundMemory}
use Rattle.keeping.proofs.Memories.{sound_view, sound_layout}
use Rattle.keeping.proofs.Demand3.{loaded}
use Rattle.runner.specs.declared.verdict.Verdict.{Verdict}
use Rattle.runner.specs.Runs.{verdict_code, Ended}
use Rattle.printed.specs.Meaning.{verdict_in, last_line}

-- ---- the last line

-- a verdict's name in the code names it
pub named_back : (v : run.Verdict) → verdict_in (verdict_code v) ≡ v
named_back run.spent = refl
named_back run.finished = refl
named_back run.stuck = refl

module _ (st : State) (ss : List Step) {made next : ℕ} {left : List ℕ} (e : Ended st 0 ss made next left) where
  -- the memory after the steps
  pub left_sound : SoundMemory left
  left_sound = subst SoundMemory (sym e.left_is) (sound_layout _ e.reached_sound)

  -- the last line is that of the run
  pub run_text_lem : (v : Verdict) → v ≡ verdict_code (verdict_of (view left)) → lines_text 1 ss ++ last_line v made next ≡ run_text st ss
  unfolding run_text last_line last_text ran_by
  run_text_lem v is =
      let reached = ap view e.left_is ∙ sound_view (reached_by st ss) e.reached_sound in
      let judged : verdict_in v ≡ verdict_of (reached_by st ss) =
      ap verdict_in is ∙ named_back (verdict_of (view left)) ∙ ap verdict_of reached in
      rw (judged, e.made_is, e.next_is) refl

-- ---- the image

-- the code of an image that is read, another where it is refused
abbrev code_or : List ℕ → Answer (List ℕ) → List ℕ
code_or code (refused n) = code
code_or code (done c) = c

-- an image that is read has the code that stands in it
read_code : (image code : List ℕ) → read_image image ≡ done code → code_in image ≡ code
unfolding read_image
read_code image code h = ap (code_or code) (all_passed (read_causes image) (done (code_in image)) code h).1

module _ (m image : List ℕ) (length_is : length m ≡ state_size) {said : Answer (Unit {0})} {left : List ℕ}
    (p : Promise (reply_to (load_answer m image)) (load m image).memory said left) where
  -- only the image decides
  answer_is : load_answer m image ≡ started (read_image image)
  unfolding load_answer unless
  answer_is = rw (eq-eqb (length m) state_size length_is) refl

  pub refused_image : (n : ℕ) → said ≡ refused n → text "refused " ++ decimal n ++ text "\n" ≡ trace_text image
  unfolding trace_text
  refused_image n is = go (read_image image) (sym is ∙ p.answer_is ∙ ap reply_to answer_is)
    where
      go : (a : Answer (List ℕ)) → refused n ≡ reply_to (started a) → text "refused " ++ decimal n ++ text "\n" ≡ answer_text a
      go (refused k) h = ap (λ (j : ℕ). text "refused " ++ decimal j ++ text "\n") (ap number_of h)
      go (done code) h = absurd (omega (arith, ap is_refused h))

  pub loaded_image : ((i : ℕ) → get_or image i 0 < 256) → said ≡ done tt
      → SoundMemory left × (run_text (view left) (steps trace_budget (view left) 0) ≡ trace_text image)
  unfolding trace_text load
  loaded_image bytes is = go (read_image image) refl (sym is ∙ p.answer_is ∙ ap reply_to answer_is)
    where
      go : (a : Answer (List ℕ)) → read_image image ≡ a → done tt ≡ reply_to (started a)
          → SoundMemory left × (run_text (view left) (steps trace_budget (view left) 0) ≡ trace_text image)
      go (refused k) q h = absurd (omega (arith, ap is_refused h))
      go (done code) q h =
          let zero_is : number_of (load_answer m image) ≡ 0 = ap number_of (answer_is ∙ ap started q) in
          let l = loaded m image bytes zero_is in
          let is_left : left ≡ layout (start (code_in image)) = p.memory_is ∙ l.0 in
          let shows : view left ≡ start code = ap view is_left ∙ sound_view _ l.1 ∙ ap start (read_code image code q) in (
            subst SoundMemory (sym is_left) (sound_layout _ l.1),
            ap (λ (st : State). run_text st (steps trace_budget st 0)) shows ∙ ap answer_text (sym q),
          )
