-- 13 by the count that the memory holds, and the item that is written: the appending code answers what `rules` says. Assumes nothing.
use mathlib.Core.Path.{◌≡◌, ap, ◌∙◌, subst}
use mathlib.Core.Bool.{true, false}
use mathlib.Core.Option.{none}
use mathlib.Core.List.{List}
use Prim.Native.Nat.{ℕ, ◌≤◌, ◌<◌}
use borrow.Author.Tests.{le-leb, lt-leb}
use Rattle.rules.specs.Limits.{queue_depth}
use Rattle.rules.specs.State.{State, Registers as Process, Item, end_at, end_in, queue_length, is_free_end, last_of}
use Rattle.std.specs.Prelude.{Ok, Err}
use Rattle.rules.specs.Refusal.{refused, done, unless}
use Rattle.rules.specs.declared.Refusal.TheVariants.{QueueFull}
use Rattle.rules.specs.Causes.{queue_full}
use Rattle.rules.specs.RecordStep.{append}
use Rattle.rules.specs.Layout.{layout, view}
use Rattle.keeping.specs.Demand3.{SoundMemory}
use Rattle.keeping.proofs.LayoutLaws.{Sized}
use Rattle.registers.specs.declared.Registers.{Registers}
use Rattle.stepping.proofs.Steps.{refused_step, done_step, memory_sized}
use Rattle.channels.specs.Appending.{Runs, unless_full, Appended}
use Rattle.channels.proofs.Holding.{own}

pub is_full : (st : State) (g : Process) (c : ℕ) (y : State) → queue_full st c g ≡ true → unless_full st g c y ≡ refused 13
unfolding unless
is_full st g c y t = rw t

pub has_room : (st : State) (g : Process) (c : ℕ) (y : State) → queue_full st c g ≡ false → unless_full st g c y ≡ done y
unfolding unless
has_room st g c y f = rw f

-- the queue of the end e in slot c of a running record has q items
module _ {m : List ℕ} (s : SoundMemory m) {r : ℕ} {x : Registers} {g : Process} {c : ℕ} (h : Runs m r x g c) (e : ℕ) (is : e ≡ end_in g c)
    {q : ℕ} (count : (st : State) → Sized st → m ≡ layout st → q ≡ queue_length (end_at st e)) where
  count_is : q ≡ queue_length (end_at (view m) (end_in g c))
  count_is = count (view m) (memory_sized m s) s.laid_out ∙ ap (λ (k : ℕ). queue_length (end_at (view m) k)) is

  pub full : queue_depth ≤ q → queue_full (view m) c g ≡ true
  full l = le-leb queue_depth _ (subst (λ (k : ℕ). queue_depth ≤ k) count_is l)

  pub not_full : q < queue_depth → queue_full (view m) c g ≡ false
  not_full l = lt-leb queue_depth _ (subst (λ (k : ℕ). k < queue_depth) count_is l)

  pub not_appended : queue_depth ≤ q → (y : Item) → Appended m g c y (Err QueueFull) m
  not_appended l y = record { appended = refused_step 13 (is_full (view m) g c _ (full l)) }

  pub item_appended : q < queue_depth → (y : Item) {left : List ℕ}
      → ((st : State) → Sized st → m ≡ layout st → is_free_end (end_at st e) ≡ false → last_of (end_at st e) ≡ none
      → left ≡ layout (append st e y))
      → Appended m g c y (Ok tt) left
  item_appended l y written =
      let mine = own s h e is in
      let w = written (view m) (memory_sized m s) s.laid_out mine.in_use mine.no_last in
      let same = ap (λ (k : ℕ). layout (append (view m) k y)) is in
      record { appended = done_step m _ (has_room (view m) g c _ (not_full l)) (w ∙ same) }
