-- The start state of any code within the limits is sound, and every end's history begins empty. Assumes nothing.
use mathlib.Core.Path.{◌≡◌, refl, sym, ap, ◌∙◌, subst}
use mathlib.Core.Option.{none, some}
use mathlib.Core.List.{List, []}
use Prim.Native.Nat.{ℕ, zero, suc, ◌-◌, ◌≤◌, ◌<◌}
use native.Mathlib.Omega.{arith}
use lib.ListN.{length, get_or, replicate}
use Rattle.rules.specs.Limits.{record_count, end_count, slot_count, code_limit}
use Rattle.rules.specs.State.{wait_item, free_end, Registers, registers, RecordState, free_record, running, record_at, end_at, last_of}
use Rattle.rules.specs.State.{empty_slots, start}
use Rattle.rules.specs.Count.{total}
use Rattle.rules.specs.Sound.{RegistersWithin, RecordWithin, in_slot, held_in, carried_by, places_of, named_by, waits_naming, is_waiting}
use Rattle.rules.specs.Sound.{Sound}
use Rattle.rules.specs.Events.{new_history}
use Rattle.rules.proofs.CountLaws.{total_zero}
use Rattle.keeping.specs.Queues.{AllAgree}

-- a list of the same thing over and over has that thing everywhere
pub all_the_same : {A : Type 0} (n : ℕ) (a : A) (i : ℕ) → get_or (replicate n a) i a ≡ a
all_the_same zero a i = refl
all_the_same (suc n) a zero = refl
all_the_same (suc n) a (suc i) = all_the_same n a i

-- record 0's registers
abbrev first : Registers
first = registers 0 [] [] empty_slots

first_within : RegistersWithin first
first_within = record {
  place_within = omega arith;
  stack_within = omega arith;
  environment_within = omega arith;
  stack_values = λ i. omega arith;
  environment_values = λ i. omega arith;
  slots_within = refl;
}

nothing_held : (e : ℕ) → total (in_slot e) empty_slots ≡ 0
nothing_held e = total_zero (in_slot e) empty_slots none (λ i. ap (in_slot e) (all_the_same slot_count none i))

module _ (code : List ℕ) where
  end_is_free : (e : ℕ) → end_at (start code) e ≡ free_end
  unfolding start
  end_is_free e = all_the_same end_count free_end e

  -- record 0 runs, the others are free
  record_is : (P : RecordState → Type 0) → P (running first) → P free_record → (r : ℕ) → P (record_at (start code) r)
  unfolding start
  record_is P p q zero = p
  record_is P p q (suc r) = subst P (sym (all_the_same (record_count - 1) free_record r)) q

  pub start_sound : length code ≤ code_limit → ((i : ℕ) → get_or code i 0 < 256) → Sound (start code)
  unfolding start places_of waits_naming
  start_sound l b = record {
    S1 = record {
      code_within = l;
      code_bytes = b;
      record_count_is = refl;
      end_count_is = refl;
      records_within = record_is RecordWithin first_within tt;
      ends_within = λ e. rw (end_is_free e) tt;
    };
    S2 = λ e. rw (end_is_free e) tt;
    S3 = λ e. rw (end_is_free e) (omega (
      arith,
      total_zero (held_in e) (start code).records free_record (record_is (λ x. held_in e x ≡ 0) (nothing_held e) refl),
      total_zero (carried_by e) (start code).ends free_end (λ f. ap (carried_by e) (end_is_free f)),
    ));
    S4 = λ r. total_zero (named_by r) (start code).ends free_end (λ f. ap (named_by r) (end_is_free f))
        ∙ sym (record_is (λ x. is_waiting x ≡ 0) refl refl r);
    S5 = λ e r q. absurd (let z : none ≡ some (wait_item r) = ap last_of (sym (end_is_free e))
        ∙ q in let n : ◌≡◌ {A = ℕ} 0 1 = cc in omega arith);
  }

  pub start_agrees : AllAgree (start code) (λ e. new_history)
  start_agrees e = rw (end_is_free e) tt
