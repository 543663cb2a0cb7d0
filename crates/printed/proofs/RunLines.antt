-- The lines of a run, one step after the other: those of the steps made so far stand on the page, and the next one is put behind them.
-- Assumes nothing.
use mathlib.Core.Path.{◌≡◌, refl, sym, ap, ◌∙◌}
use mathlib.Core.Option.{Option, none, some}
use mathlib.Core.List.{List, [], ◌∷◌, ◌++◌, append_assoc, append-nil}
use Rattle.std.specs.Prelude.{Option as Maybe, Some, None}
use Rattle.std.proofs.lemmas.Option.{none-some}
use Prim.Native.Nat.{ℕ, suc, ◌+◌, ◌*◌, ◌≤◌, ◌<◌}
use native.Mathlib.Nat.{add-zero}
use native.Mathlib.Omega.{arith}
use lib.ListN.{length}
use mir.Syntax.{w32}
use mir.Val.{SFits}
use Rattle.rules.specs.Limits.{position_count}
use Rattle.rules.specs.State.{State}
use Rattle.rules.specs.Run.{Step, next_position, next_step, steps}
use Rattle.rules.specs.Printed as rules
use Rattle.rules.specs.Printed.{printed_at, line_text, lines_text, trace_budget}
use Rattle.rules.specs.Layout.{view}
use Rattle.keeping.specs.Demand3.{SoundMemory}
use Rattle.keeping.proofs.StepLaws.{steps_one}
use Rattle.text.specs.declared.printing.Page.{Page}
use Rattle.text.specs.Page.{Room, Puts}
use Rattle.text.proofs.Texts.{written_none, written_more, written_as, printed_length}
use Rattle.runner.specs.Runs.{stepped_by}
use Rattle.runner.proofs.Somewhere.{no_step}
use Rattle.runner.proofs.Making.{MadeSoFar, none_yet, more, none_more, stopped, ended, position_in_range, one_more}
use Rattle.printed.specs.declared.kinds.Printed.{Printed}
use Rattle.printed.specs.Meaning.{printed_of}
use Rattle.printed.specs.Forwarded.{Forwarded, step_printed, forward_printed, stepped_in}
use Rattle.printed.specs.Traced.{line_limit, RoomToTrace, Traced}
use Rattle.printed.proofs.Lengths.{line_short}

-- ---- lines

-- the line of one step more
lines_append : (n : ℕ) (ss : List Step) (s : Step)
    → lines_text n (ss ++ s ∷ []) ≡ lines_text n ss ++ line_text (n + length ss) (printed_at s.before s.position)
unfolding lines_text
lines_append n [] s = append-nil _ ∙ ap (λ (k : ℕ). line_text k (printed_at s.before s.position)) (sym (add-zero n))
lines_append n (t ∷ ss) s =
    let here = line_text n (printed_at t.before t.position) in
    let told = printed_at s.before s.position in
    let more = lines_append (suc n) ss s in
    let count : suc n + length ss ≡ n + suc (length ss) = omega arith in
    ap (λ (l : List ℕ). here ++ l) (more ∙ ap (λ (k : ℕ). lines_text (suc n) ss ++ line_text k told) count)
    ∙ sym (append_assoc here (lines_text (suc n) ss) (line_text (n + suc (length ss)) told))

-- ---- the steps made so far

-- so many steps have been made from st and position 0, and their lines stand on the page
pub record LinesSoFar (st : State) (p : Page) (made next : ℕ) (m : List ℕ) (q : Page) : Type 0 where
  pub so_far : MadeSoFar st 0 made next m
  pub written : Puts p (lines_text 1 (steps made st 0)) q
  pub within : q.at ≤ p.at + line_limit * made

pub no_lines : (m : List ℕ) (p : Page) → SoundMemory m → LinesSoFar (view m) p 0 0 m p
unfolding steps lines_text
no_lines m p s = record { so_far = none_yet m s 0 (omega arith); written = written_none p; within = omega arith }

module _ (st : State) (p : Page) (made next : ℕ) (m : List ℕ) (q : Page) (lines : LinesSoFar st p made next m q) where
  -- nothing can step: these are all lines
  pub lines_end : {answer : Maybe Printed} {left : List ℕ} → made ≤ trace_budget → Forwarded m (next_step (view m) next) answer left
      → answer ≡ None → Traced st (steps trace_budget st 0) p made next left q
  lines_end {answer} {left} h f is =
      let nothing = no_step (next_step (view m) next) (ap stepped_in (sym is) ∙ f.made.answer_is) in
      let same : steps made st 0 ≡ steps trace_budget st 0 = sym (none_more st 0 made next m lines.so_far trace_budget h nothing) in
      record {
        ended = stopped st 0 made next m lines.so_far trace_budget h f.made.answer_is f.made.memory_is (ap stepped_in is);
        written = written_as (ap (lines_text 1) same) lines.written;
        within = lines.within;
        budgeted = h;
      }

  -- the budget is used
  pub budget_end : made ≤ trace_budget → trace_budget ≤ made → Traced st (steps trace_budget st 0) p made next m q
  budget_end h k =
      let same : made ≡ trace_budget = omega (arith, h, k) in
      record {
        ended = ended st 0 made next m lines.so_far trace_budget h k;
        written = written_as (ap (λ (b : ℕ). lines_text 1 (steps b st 0)) same) lines.written;
        within = lines.within;
        budgeted = h;
      }

  -- a step was made, and prints x
  module _ {answer : Maybe Printed} {left : List ℕ} (f : Forwarded m (next_step (view m) next) answer left) (x : Printed)
      (is : answer ≡ Some x) where
    pub position_below : x.position < position_count
    position_below =
        position_in_range st 0 made next m lines.so_far x.position f.made.answer_is f.made.memory_is (ap stepped_in is)

    -- there is room for its line
    pub line_room : made < trace_budget → SFits w32 x.number → RoomToTrace p → Room q (line_text (made + 1) (some (printed_of x)))
    line_room h fits limit =
        let short = line_short (made + 1) (printed_of x) (omega (arith, h)) position_below fits in
        omega (arith, h, short, lines.within, limit, printed_length lines.written)

    -- the line is put behind the others
    pub one_line : made < trace_budget → SFits w32 x.number → {next' : ℕ} {r : Page} → next' ≡ next_position x.position
        → Puts q (line_text (made + 1) (some (printed_of x))) r → LinesSoFar st p (made + 1) next' left r
    one_line h fits {next'} {r} e w = go (next_step (view m) next) refl
      where
        go : (y : Option Step) → next_step (view m) next ≡ y → LinesSoFar st p (made + 1) next' left r
        go none found = absurd (none-some _ (sym (ap stepped_in (sym is) ∙ f.made.answer_is ∙ ap stepped_by found)))
        go (some s) found =
            let longer : steps (made + 1) st 0 ≡ steps made st 0 ++ s ∷ [] =
            more st 0 made next m lines.so_far 1 ∙ ap (λ (ts : List Step). steps made st 0 ++ ts) (steps_one (view m) next s found) in
            let told : some (printed_of x) ≡ printed_at s.before s.position =
            ap forward_printed (sym is) ∙ f.prints ∙ ap step_printed found in
            let count : 1 + length (steps made st 0) ≡ made + 1 = omega (arith, lines.so_far.all_made) in
            let line : lines_text 1 (steps made st 0) ++ line_text (made + 1) (some (printed_of x)) ≡ lines_text 1 (steps (made + 1) st 0) =
            sym (ap (lines_text 1) longer ∙ lines_append 1 (steps made st 0) s
            ∙ ap (λ (k : ℕ). lines_text 1 (steps made st 0) ++ line_text k (printed_at s.before s.position)) count
            ∙ ap (λ (o : Option rules.Printed). lines_text 1 (steps made st 0) ++ line_text (made + 1) o) (sym told)) in
            let short = line_short (made + 1) (printed_of x) (omega (arith, h)) position_below fits in
            record {
              so_far = one_more st 0 made next m lines.so_far x.position f.made.answer_is f.made.memory_is
                  (ap stepped_in is) next' e;
              written = written_as line (written_more lines.written w);
              within = omega (arith, w.place, short, lines.within);
            }
