-- The end in a slot that is not empty, of a record that runs in a sound state: in use, with nothing last on its queue. Assumes nothing.
use mathlib.Core.Path.{◌≡◌, sym, ap, ◌∙◌}
use mathlib.Core.Bool.{false}
use mathlib.Core.Option.{none, some}
use mathlib.Core.List.{List}
use Prim.Native.Nat.{ℕ, ◌<◌}
use native.Mathlib.Omega.{arith}
use Rattle.rules.specs.Limits.{end_count}
use Rattle.rules.specs.State.{State, Datum, used, Registers, running, record_at, end_at, slot_at, end_in, end_or, is_free_end}
use Rattle.rules.specs.Causes.{empty}
use Rattle.rules.specs.Sound.{Sound}
use Rattle.keeping.proofs.SlotLaws.{held_slot}
use Rattle.keeping.proofs.Running.{own_end, used_in_list}

-- slot c of registers g holds an end of state st that is in use, with nothing last on its queue
pub record SlotEnd (st : State) (g : Registers) (c : ℕ) : Type 0 where
  pub holds : slot_at g c ≡ some (end_in g c)
  pub partner : ℕ
  pub queued : List Datum
  pub was : end_at st (end_in g c) ≡ used partner queued none
  pub in_range : end_in g c < end_count
  pub in_use : is_free_end (end_at st (end_in g c)) ≡ false

pub slot_end : (st : State) → Sound st → (r : ℕ) (g : Registers) → record_at st r ≡ running g → (c : ℕ) → empty c g ≡ false → SlotEnd st g c
slot_end st s r g is c h =
    let held = held_slot (slot_at g c) h in
    let own = own_end st s r g is c held.0 held.1 in
    let named : held.0 ≡ end_in g c = sym (ap (end_or end_count) held.1) in
    let was = ap (end_at st) (sym named) ∙ own.was in
    record {
      holds = held.1 ∙ ap some named;
      partner = own.partner;
      queued = own.queued;
      was = was;
      in_range = omega (arith, named, used_in_list st held.0 own.partner own.queued none own.was, s.S1.end_count_is);
      in_use = ap is_free_end was;
    }
