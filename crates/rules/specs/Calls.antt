-- The requests of document 01 on bytes: what each public function answers, document 01's number and values, and every lent byte afterwards.
-- 24 is checked first, then 1, then the rest upward; a refused call leaves all lent memory as found. The contracts of the code name these
-- functions, and the theorem of demand 3 is about them. Assumes nothing.
use Rattle.std.specs.Prelude.{ℕ, ◌+◌, Bool, true, false, not, List, [], ◌∷◌, ◌++◌, length, leb, eqb}
use Rattle.rules.specs.Limits.{record_count, position_count}
use Rattle.rules.specs.State.{State, start, free_ends, lowest_free_end}
use Rattle.rules.specs.Refusal.{Row, Answer, refused, done, unless, number_of}
use Rattle.rules.specs.Ask.{ask_record, ask_end}
use Rattle.rules.specs.Run.{Step, Ran, run_from, steps}
use Rattle.rules.specs.SoundTest.{sound_test}
use Rattle.rules.specs.EndStep.{only_if}
use Rattle.rules.specs.Events.{Event, steps_events}
use Rattle.rules.specs.Image.{read_image, write_causes, written}
use Rattle.rules.specs.Layout.{state_size, layout, view}

-- ---- the lent memory

-- two lists of bytes are the same
unfoldable pub same_bytes : List ℕ → List ℕ → Bool
same_bytes [] [] = true
same_bytes [] (y ∷ ys) = false
same_bytes (x ∷ xs) [] = false
same_bytes (x ∷ xs) (y ∷ ys) = elim (eqb x y) [ true ↦ same_bytes xs ys | false ↦ false ]

-- the bytes are those of the state that they show, and that state is sound: S1 to S5 on bytes
unfoldable pub sound_bytes : List ℕ → Bool
sound_bytes m = only_if (same_bytes (layout (view m)) m) (sound_test (view m))

-- 24: a lent state memory has another length than the fixed one
abbrev pub length_cause : List ℕ → Row
length_cause m = (24, not (eqb (length m) state_size))

-- 1: the state isn't sound
abbrev pub sound_cause : List ℕ → Row
sound_cause m = (1, not (sound_bytes m))

-- ---- answers

abbrev pub layout_or : List ℕ → Answer State → List ℕ
layout_or m (refused n) = m
layout_or m (done st) = layout st

-- a call's number, and the memory afterwards
pub record Called : Type 0 where
  pub number : ℕ
  pub memory : List ℕ

abbrev pub called : List ℕ → Answer State → Called
called m a = record { number = number_of a; memory = layout_or m a }

-- an ask of the state that the memory shows: 24 and 1 first
abbrev pub where_sound : {A : Type 0} → List ℕ → Answer A → Answer A
where_sound m a = unless (length_cause m ∷ sound_cause m ∷ []) a

-- ---- loading and writing

abbrev pub started : Answer (List ℕ) → Answer State
started (refused n) = refused n
started (done code) = done (start code)

-- 24, then 20 to 23; done, the memory holds the start state and the code
unfoldable pub load_answer : (m image : List ℕ) → Answer State
load_answer m image = unless (length_cause m ∷ []) (started (read_image image))

unfoldable pub load : (m image : List ℕ) → Called
load m image = called m (load_answer m image)

abbrev pub output_or : List ℕ → Answer (List ℕ) → List ℕ
output_or out (refused n) = out
output_or out (done bytes) = bytes

-- 26, 27; done, the output begins with the image, and what stands past its blocks is kept
unfoldable pub write_answer : (code out : List ℕ) → Answer (List ℕ)
write_answer code out = unless (write_causes code out) (done (written code out))

unfoldable pub write : (code out : List ℕ) → Called
write code out = record { number = number_of (write_answer code out); memory = output_or out (write_answer code out) }

-- ---- asking

-- 24, 1, 2 to 15
unfoldable pub record_answer : List ℕ → (r : ℕ) → Answer State
record_answer m r = where_sound m (ask_record (view m) r)

unfoldable pub call_record : List ℕ → (r : ℕ) → Called
call_record m r = called m (record_answer m r)

-- 24, 1, 16 to 19
unfoldable pub end_answer : List ℕ → (e : ℕ) → Answer State
end_answer m e = where_sound m (ask_end (view m) e)

unfoldable pub call_end : List ℕ → (e : ℕ) → Called
call_end m e = called m (end_answer m e)

-- how many ends are free, and the lowest free end
pub record FreeEnds : Type 0 where
  pub count : ℕ
  pub lowest : ℕ

-- 24, 1
unfoldable pub call_free_ends : List ℕ → Answer FreeEnds
call_free_ends m = where_sound m (done (record { count = length (free_ends (view m)); lowest = lowest_free_end (view m) }))

-- ---- running

-- 25: start position over the last position
abbrev pub start_cause : (p : ℕ) → Row
start_cause p = (25, leb position_count p)

-- 24, 1, 25
unfoldable pub run_answer : List ℕ → (budget p : ℕ) → Answer Ran
run_answer m budget p = where_sound m (unless (start_cause p ∷ []) (done (run_from budget (view m) p)))

abbrev pub reached_or : List ℕ → Answer Ran → List ℕ
reached_or m (refused n) = m
reached_or m (done ran) = layout ran.reached

-- the answer of a run: steps made, next position and verdict, and the memory afterwards
pub record CalledRun : Type 0 where
  pub answer : Answer Ran
  pub memory : List ℕ

unfoldable pub call_run : List ℕ → (budget p : ℕ) → CalledRun
call_run m budget p = record { answer = run_answer m budget p; memory = reached_or m (run_answer m budget p) }

-- ---- a list of asks and runs

pub data Call : Type 0 where
  record_asked : (r : ℕ) → Call
  end_asked : (e : ℕ) → Call
  run : (budget p : ℕ) → Call

-- the memory after a call
unfoldable pub memory_after : List ℕ → Call → List ℕ
memory_after m (record_asked r) = (call_record m r).memory
memory_after m (end_asked e) = (call_end m e).memory
memory_after m (run budget p) = (call_run m budget p).memory

-- the step that an ask at position p makes, if it is done
abbrev pub step_if : (p : ℕ) → State → Answer State → List Step
step_if p st (refused n) = []
step_if p st (done st') = record { position = p; before = st; reached = st' } ∷ []

abbrev pub steps_if : Answer Ran → List Step → List Step
steps_if (refused n) ss = []
steps_if (done ran) ss = ss

-- the steps that a call makes; a refused one makes none
unfoldable pub call_steps : List ℕ → Call → List Step
call_steps m (record_asked r) = step_if r (view m) (record_answer m r)
call_steps m (end_asked e) = step_if (record_count + e) (view m) (end_answer m e)
call_steps m (run budget p) = steps_if (run_answer m budget p) (steps budget (view m) p)

-- the memory after a list of calls, the steps that they make, in order, and what these create, put and take
unfoldable pub memory_after_all : List ℕ → List Call → List ℕ
memory_after_all m [] = m
memory_after_all m (c ∷ cs) = memory_after_all (memory_after m c) cs

unfoldable pub all_steps : List ℕ → List Call → List Step
all_steps m [] = []
all_steps m (c ∷ cs) = call_steps m c ++ all_steps (memory_after m c) cs

unfoldable pub all_events : List ℕ → List Call → List Event
all_events m cs = steps_events (all_steps m cs)
