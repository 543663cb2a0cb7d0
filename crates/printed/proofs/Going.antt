-- One step forward, over plain variables: the step is the runner's, and what was read before it at the position that steps is what the
-- step prints. Assumes nothing.
use mathlib.Core.Path.{◌≡◌, refl, sym, ap, ◌∙◌, subst}
use mathlib.Core.Option.{Option, none, some}
use mathlib.Core.List.{List}
use Rattle.std.specs.Prelude.{Option as Maybe, Some, None}
use Rattle.std.proofs.lemmas.Option.{none-some, same_Some}
use Prim.Native.Nat.{ℕ, ◌+◌, ◌%◌, ◌<◌}
use native.Mathlib.Omega.{arith}
use Rattle.rules.specs.Limits.{position_count}
use Rattle.rules.specs.State.{State}
use Rattle.rules.specs.Run.{Step, next_step}
use Rattle.rules.specs.Printed as rules
use Rattle.rules.specs.Printed.{printed_at}
use Rattle.rules.specs.Layout.{view}
use Rattle.rules.specs.Promise.{Promise}
use Rattle.keeping.proofs.RunLaws.{ahead_is, next_found}
use Rattle.runner.specs.Runs.{stepped_by, memory_by}
use Rattle.printed.specs.declared.kinds.Printed.{Printed}
use Rattle.printed.specs.Meaning.{PrintsAt, printed_of}
use Rattle.printed.specs.Forwarded.{Forwarded, step_printed}
use Rattle.printed.proofs.Telling.{done_prints, told_position}

-- what the runner promises of the step from a position, in memory m
abbrev Made : (m : List ℕ) (position : ℕ) → Maybe ℕ → (left : List ℕ) → Type 0
Made m position where' left =
    Promise (stepped_by (next_step (view m) position)) (memory_by m (next_step (view m) position)) where' left

-- where it is made is known
pub told : {is x y : Maybe ℕ} {after left : List ℕ} → Promise is after x left → x ≡ y → Promise is after y left
told made e = record { answer_is = sym e ∙ made.answer_is; memory_is = made.memory_is }

module _ (m : List ℕ) (position : ℕ) {p : ℕ} {left : List ℕ} (made : Made m position (Some p) left) where
  pub position_below : position < position_count → p < position_count
  position_below h = go (next_step (view m) position) refl
    where
      go : (x : Option Step) → next_step (view m) position ≡ x → p < position_count
      go none q = absurd (none-some _ (sym (made.answer_is ∙ ap stepped_by q)))
      go (some s) q =
          let first = next_found (view m) position s q in
          let around = same_Some _ _ (made.answer_is ∙ ap stepped_by q) ∙ first.position_is ∙ ahead_is first.distance position h in
          let below : (position + first.distance) % position_count < position_count = omega arith in
          omega (arith, around, below)

  -- what was read at p is what the step prints
  pub stepped : (shown : Printed) → PrintsAt (view m) p shown → Forwarded m (next_step (view m) position) (Some shown) left
  stepped shown read = go (next_step (view m) position) refl
    where
      go : (x : Option Step) → next_step (view m) position ≡ x → Forwarded m (next_step (view m) position) (Some shown) left
      go none q = absurd (none-some _ (sym (made.answer_is ∙ ap stepped_by q)))
      go (some s) q =
          let first = next_found (view m) position s q in
          let here : p ≡ s.position = same_Some _ _ (made.answer_is ∙ ap stepped_by q) in
          let text = done_prints (view m) s.position s.reached first.is_step in
          let there = subst (λ (k : ℕ). printed_at (view m) k ≡ some text.what) (sym here) text.prints in
          let what : printed_of shown ≡ text.what = read text.what there in
          let at : shown.position ≡ p =
          ap (λ (x : rules.Printed). x.position) what ∙ told_position (view m) p text.what there in
          record {
            made = record { answer_is = ap (λ (k : ℕ). Some k) at ∙ made.answer_is; memory_is = made.memory_is };
            prints = ap some what ∙ sym text.prints ∙ ap (λ (st : State). printed_at st s.position) (sym first.before_is)
                ∙ ap step_printed (sym q);
          }

-- nothing steps
pub none_steps : (m : List ℕ) (position : ℕ) {left : List ℕ} → Made m position None left
    → Forwarded m (next_step (view m) position) None left
none_steps m position {left} made = go (next_step (view m) position) refl
  where
    go : (x : Option Step) → next_step (view m) position ≡ x → Forwarded m (next_step (view m) position) None left
    go none q = record { made = made; prints = ap step_printed (sym q) }
    go (some s) q = absurd (none-some _ (made.answer_is ∙ ap stepped_by q))
