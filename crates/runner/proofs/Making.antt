-- The loop of a run: the steps made so far are those of the budget used so far, the next one is added at their end, and where nothing can
-- step the rest of the budget makes none. Assumes nothing.
use mathlib.Core.Path.{◌≡◌, refl, sym, ap, ◌∙◌, subst}
use mathlib.Core.Option.{Option, none, some}
use mathlib.Core.List.{List, [], ◌∷◌, ◌++◌, append-nil}
use Prim.Native.Nat.{ℕ, ◌+◌, ◌-◌, ◌%◌, ◌≤◌, ◌<◌}
use native.Mathlib.Omega.{arith}
use lib.ListN.{length, length-append}
use Rattle.rules.specs.Limits.{position_count}
use Rattle.rules.specs.State.{State}
use Rattle.rules.specs.Run.{Step, next_position, next_step, steps, reached_by, position_after}
use Rattle.rules.specs.Layout.{layout, view}
use Rattle.rules.specs.Sound.{Sound}
use Rattle.keeping.specs.Demand3.{SoundMemory}
use Rattle.keeping.specs.Runs.{FirstStep}
use Rattle.keeping.proofs.Move.{move_sound}
use Rattle.keeping.proofs.Asks.{ask_move}
use Rattle.keeping.proofs.RunLaws.{next_within, ahead_is, next_found}
use Rattle.keeping.proofs.Memories.{sound_view, sound_layout}
use Rattle.keeping.proofs.StepLaws.{steps_add, steps_stop, steps_one, reached_append, position_append}
use Rattle.std.specs.Prelude.{Option as Maybe, Some, None}
use Rattle.std.proofs.lemmas.Option.{none-some, same_Some}
use Rattle.runner.specs.Runs.{stepped_by, memory_by, Ended}
use Rattle.runner.proofs.Somewhere.{no_step}

-- so many steps have been made from st and start, the next position and the memory
pub record MadeSoFar (st : State) (start made next : ℕ) (m : List ℕ) : Type 0 where
  pub all_made : length (steps made st start) ≡ made
  pub next_is : next ≡ position_after start (steps made st start)
  pub memory_is : m ≡ layout (reached_by st (steps made st start))
  pub is_sound : Sound (reached_by st (steps made st start))
  pub in_range : next < position_count

pub none_yet : (m : List ℕ) → SoundMemory m → (start : ℕ) → start < position_count → MadeSoFar (view m) start 0 start m
unfolding steps reached_by position_after
none_yet m s start h = record { all_made = refl; next_is = refl; memory_is = s.laid_out; is_sound = s.state_sound; in_range = h }

module _ (st : State) (start made next : ℕ) (m : List ℕ) (so_far : MadeSoFar st start made next m) where
  ss : List Step
  ss = steps made st start

  -- the state that the memory shows
  pub shown : view m ≡ reached_by st (steps made st start)
  shown = ap view so_far.memory_is ∙ sound_view _ so_far.is_sound

  pub memory_sound : SoundMemory m
  memory_sound = subst SoundMemory (sym so_far.memory_is) (sound_layout _ so_far.is_sound)

  -- the steps of a larger budget
  pub more : (j : ℕ) → steps (made + j) st start ≡ steps made st start ++ steps j (view m) next
  more j =
      steps_add made j st start so_far.all_made
      ∙ ap (λ (x : State). steps made st start ++ steps j x (position_after start (steps made st start))) (sym shown)
      ∙ ap (λ (p : ℕ). steps made st start ++ steps j (view m) p) (sym so_far.next_is)

  -- nothing can step: a larger budget makes no further step
  pub none_more : (budget : ℕ) → made ≤ budget → next_step (view m) next ≡ none → steps budget st start ≡ steps made st start
  none_more budget h none_left =
      let whole : made + (budget - made) ≡ budget = omega (arith, h) in
      ap (λ (b : ℕ). steps b st start) (sym whole) ∙ more (budget - made)
      ∙ ap (λ (ts : List Step). steps made st start ++ ts) (steps_stop (budget - made) (view m) next none_left)
      ∙ append-nil (steps made st start)

  pub stopped : (budget : ℕ) → made ≤ budget → {r : Maybe ℕ} {left : List ℕ} → r ≡ stepped_by (next_step (view m) next)
      → left ≡ memory_by m (next_step (view m) next) → r ≡ None → Ended st start (steps budget st start) made next left
  stopped budget h e q is =
      let none_left = no_step (next_step (view m) next) (sym is ∙ e) in
      rw (none_more budget h none_left)
      (record {
        made_is = sym so_far.all_made;
        next_is = so_far.next_is;
        left_is = q ∙ ap (memory_by m) none_left ∙ so_far.memory_is;
        reached_sound = so_far.is_sound;
        next_in_range = so_far.in_range;
      })

  pub ended : (budget : ℕ) → made ≤ budget → budget ≤ made → Ended st start (steps budget st start) made next m
  ended budget h k =
      let same : budget ≡ made = omega (arith, h, k) in
      rw same
      (record {
        made_is = sym so_far.all_made;
        next_is = so_far.next_is;
        left_is = so_far.memory_is;
        reached_sound = so_far.is_sound;
        next_in_range = so_far.in_range;
      })

  -- a step that was made
  made_one : (p : ℕ) (x : Option Step) → next_step (view m) next ≡ x → Some p ≡ stepped_by x
      → (s : Step) × (next_step (view m) next ≡ some s) × (p ≡ s.position)
  made_one p none q z = absurd (none-some _ (sym z))
  made_one p (some s) q z = (s, q, same_Some _ _ z)

  module _ (p : ℕ) {r : Maybe ℕ} {left : List ℕ} (e : r ≡ stepped_by (next_step (view m) next))
      (q : left ≡ memory_by m (next_step (view m) next))
      (is : r ≡ Some p) where
    one : (s : Step) × (next_step (view m) next ≡ some s) × (p ≡ s.position)
    one = made_one p (next_step (view m) next) refl (sym is ∙ e)

    first : FirstStep (view m) next one.0
    first = next_found (view m) next one.0 one.1

    pub position_in_range : p < position_count
    position_in_range =
        let around = one.2 ∙ first.position_is ∙ ahead_is first.distance next so_far.in_range in
        let below : (next + first.distance) % position_count < position_count = omega arith in
        omega (arith, around, below)

    longer : steps (made + 1) st start ≡ steps made st start ++ one.0 ∷ []
    longer = more 1 ∙ ap (λ (ts : List Step). steps made st start ++ ts) (steps_one (view m) next one.0 one.1)

    pub one_more : (next' : ℕ) → next' ≡ next_position p → MadeSoFar st start (made + 1) next' left
    unfolding reached_by position_after
    one_more next' z =
        let s = one.0 in
        let sound = move_sound memory_sound.state_sound
        (ask_move (view m) memory_sound.state_sound s.position s.reached first.is_step) in
        let reached : reached_by st (steps (made + 1) st start) ≡ s.reached =
        ap (reached_by st) longer ∙ reached_append st (steps made st start) (s ∷ []) in
        let after : position_after start (steps (made + 1) st start) ≡ next_position s.position =
        ap (position_after start) longer ∙ position_append start (steps made st start) (s ∷ []) in
        record {
          all_made = ap length longer ∙ length-append (steps made st start) (s ∷ []) ∙ ap (λ (n : ℕ). n + 1) so_far.all_made;
          next_is = z ∙ ap next_position one.2 ∙ sym after;
          memory_is = q ∙ ap (memory_by m) one.1 ∙ ap layout (sym reached);
          is_sound = subst Sound (sym reached) sound;
          in_range = subst (λ (n : ℕ). n < position_count) (sym z) (next_within p);
        }
