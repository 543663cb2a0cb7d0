-- The promise of a function that steps an end on a memory known to be sound: its reply and every byte afterwards are those of `ask_end` of
-- `rules`; and the same for the part that is left once both heads are there. Assumes nothing.
use Rattle.std.specs.Prelude.{List, [], ◌∷◌, ℕ}
use Rattle.rules.specs.State.{State, Datum, record_at, lowest_free_record}
use Rattle.rules.specs.Refusal.{Answer, done, unless}
use Rattle.rules.specs.Causes.{no_free_record}
use Rattle.rules.specs.EndStep.{Meeting, waiter_in, datum_against, split_against, is_mismatch, is_division, only_if, after_meeting}
use Rattle.rules.specs.Ask.{ask_end}
use Rattle.rules.specs.Layout.{view}
use Rattle.rules.specs.Calls.{layout_or}
use Rattle.rules.specs.Numbers.{Reply, answer_of, reply_to}
use Rattle.rules.specs.Promise.{Promise}

-- end e is asked to step in the state that m shows: the reply and the memory left
abbrev pub EndStepped : (m : List ℕ) (e : ℕ) → Reply → (left : List ℕ) → Type 0
EndStepped m e reply left = Promise (reply_to (ask_end (view m) e)) (layout_or m (ask_end (view m) e)) (answer_of reply) left

-- what is left to answer where the heads of e and its partner f make v: 18, 19, or the state after
unfoldable pub ask_met : State → (e f : ℕ) → Meeting → Answer State
ask_met st e f v =
    unless ((18, is_mismatch v) ∷ (19, only_if (is_division v) (no_free_record st)) ∷ [])
    (done (after_meeting st e f (lowest_free_record st) v))

-- the reply and the memory left of that
abbrev pub Met : (m : List ℕ) (e f : ℕ) → Meeting → Reply → (left : List ℕ) → Type 0
Met m e f v reply left = Promise (reply_to (ask_met (view m) e f v)) (layout_or m (ask_met (view m) e f v)) (answer_of reply) left

-- a datum at the head of `from` meets the wait of record r at the head of `to`, whichever of the two ends was asked
abbrev pub DatumMet : (m : List ℕ) (from to r : ℕ) → Datum → Reply → (left : List ℕ) → Type 0
DatumMet m from to r d reply left =
    (e f : ℕ) → Met m e f (datum_against from to r d (waiter_in (view m).code (record_at (view m) r))) reply left

-- a split of two ends meets the wait of record r, at the heads of e and f
abbrev pub SplitMet : (m : List ℕ) (e f first second r : ℕ) → Reply → (left : List ℕ) → Type 0
SplitMet m e f first second r reply left =
    Met m e f (split_against first second r (waiter_in (view m).code (record_at (view m) r))) reply left
