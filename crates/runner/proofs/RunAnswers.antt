-- The cases of a run over plain variables: 24, 1, 25, or the run. Assumes nothing.
use mathlib.Core.Path.{◌≡◌, refl, sym, ap, ◌∙◌, subst}
use mathlib.Core.List.{List}
use Prim.Native.Nat.{ℕ, ◌≤◌, ◌<◌}
use borrow.Author.Tests.{le-leb, lt-leb}
use Rattle.rules.specs.Limits.{position_count}
use Rattle.rules.specs.State.{State}
use Rattle.rules.specs.Refusal.{Answer, refused, done, unless}
use Rattle.rules.specs.Run as rules
use Rattle.rules.specs.Run.{steps, reached_by, verdict_of, ran_by, run_from}
use Rattle.rules.specs.Layout.{view}
use Rattle.rules.specs.Calls.{reached_or, run_answer, call_run}
use Rattle.rules.specs.Promise.{Promise}
use Rattle.keeping.specs.Demand3.{SoundMemory}
use Rattle.keeping.proofs.Demand3.{where_sound_lem}
use Rattle.keeping.proofs.Memories.{sound_view, sound_layout}
use Rattle.machine.specs.Answers.{sound_reply}
use Rattle.machine.proofs.FirstRows.{refused_so}
use Rattle.runner.specs.declared.running.Ran.{Ran}
use Rattle.runner.specs.declared.verdict.Verdict.{Verdict}
use Rattle.runner.specs.Runs.{verdict_code, Ended, ran_reply}

-- the memory that the steps leave
pub left_sound : {st : State} {p : ℕ} {ss : List rules.Step} {made next : ℕ} {left : List ℕ} → Ended st p ss made next left
    → SoundMemory left
left_sound end = subst SoundMemory (sym end.left_is) (sound_layout _ end.reached_sound)

module _ (m : List ℕ) (budget start : ℕ) where
  -- the promise of an answer that is known
  promised : {r : Answer Ran} {left : List ℕ} (a : Answer rules.Ran) → run_answer m budget start ≡ a → r ≡ ran_reply a → left
      ≡ reached_or m a
      → Promise (ran_reply (run_answer m budget start)) (call_run m budget start).memory r left
  unfolding call_run
  promised a e q z = rw e (record { answer_is = q; memory_is = z })

  pub run_refused : (n : ℕ) → sound_reply m ≡ refused n
      → Promise (ran_reply (run_answer m budget start)) (call_run m budget start).memory (refused n) m
  unfolding run_answer
  run_refused n e = promised (refused n) (refused_so m _ n e) refl refl

  pub start_over : SoundMemory m → position_count ≤ start
      → Promise (ran_reply (run_answer m budget start)) (call_run m budget start).memory (refused 25) m
  unfolding run_answer unless
  start_over s h = promised (refused 25) (where_sound_lem m _ s ∙ rw (le-leb position_count start h)) refl refl

  pub ran : SoundMemory m → start < position_count → {made next : ℕ} {v : Verdict} {left : List ℕ}
      → Ended (view m) start (steps budget (view m) start) made next left → v ≡ verdict_code (verdict_of (view left))
      → Promise (ran_reply (run_answer m budget start)) (call_run m budget start).memory
      (done (record { steps = made; next = next; verdict = v })) left
  unfolding run_answer unless run_from ran_by
  ran s h {made} {next} {v} {left} end e =
      let reached = reached_by (view m) (steps budget (view m) start) in
      let shown : view left ≡ reached = ap view end.left_is ∙ sound_view reached end.reached_sound in
      let verdict : v ≡ verdict_code (verdict_of reached) = e ∙ ap (λ (st : State). verdict_code (verdict_of st)) shown in
      promised (done (run_from budget (view m) start)) (where_sound_lem m _ s ∙ rw (lt-leb position_count start h))
      (rw (end.made_is, end.next_is, verdict) refl)
      end.left_is
