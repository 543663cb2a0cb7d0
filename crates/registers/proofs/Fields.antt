-- Registers by value field by field: which registers of `rules` they stand for, both ways. Assumes nothing.
use mathlib.Core.Path.{◌≡◌, refl, ap}
use mathlib.Core.List.{List}
use Prim.Native.Nat.{ℕ}
use lib.ListN.{length}
use lib.IntN.{pos}
use Rattle.rules.specs.Limits.{stack_depth, environment_depth}
use Rattle.rules.specs.Bytes.{pad}
use Rattle.rules.specs.State.{Value, Registers as Process, registers}
use Rattle.rules.specs.Slots.{Slots}
use Rattle.registers.specs.declared.Registers.{Registers}
use Rattle.registers.specs.Registers.{slot_bytes, registers_of, moved_to, with_slots}

-- the registers r of the code stand for those of the process g
pub record StandsFor (r : Registers) (g : Process) : Type 0 where
  pub place_is : r.place ≡ g.place
  pub stack_count_is : r.stack_count ≡ length g.stack
  pub environment_count_is : r.environment_count ≡ length g.environment
  pub slots_are : r.slots ≡ slot_bytes g.slots
  pub stack_is : r.stack ≡ pad stack_depth (pos 0) g.stack
  pub environment_is : r.environment ≡ pad environment_depth (pos 0) g.environment

pub by_fields : {r : Registers} (g : Process) → r ≡ registers_of g → StandsFor r g
unfolding registers_of
by_fields g e = record {
  place_is = ap (λ (r : Registers). r.place) e;
  stack_count_is = ap (λ (r : Registers). r.stack_count) e;
  environment_count_is = ap (λ (r : Registers). r.environment_count) e;
  slots_are = ap (λ (r : Registers). r.slots) e;
  stack_is = ap (λ (r : Registers). r.stack) e;
  environment_is = ap (λ (r : Registers). r.environment) e;
}

pub from_fields : {r : Registers} (g : Process) → StandsFor r g → r ≡ registers_of g
unfolding registers_of
from_fields g h = λ i. record {
  place = h.place_is i;
  stack_count = h.stack_count_is i;
  environment_count = h.environment_count_is i;
  slots = h.slots_are i;
  stack = h.stack_is i;
  environment = h.environment_is i;
}

-- ---- one part put anew

module _ {r : Registers} (g : Process) (h : StandsFor r g) where
  pub with_place : (p : ℕ) → StandsFor
      (record {
        place = p;
        stack_count = r.stack_count;
        environment_count = r.environment_count;
        slots = r.slots;
        stack = r.stack;
        environment = r.environment;
      })
      (moved_to g p)
  with_place p = record {
    place_is = refl;
    stack_count_is = h.stack_count_is;
    environment_count_is = h.environment_count_is;
    slots_are = h.slots_are;
    stack_is = h.stack_is;
    environment_is = h.environment_is;
  }

  pub with_stack : (l : List Value) {n : ℕ} {s : List Value} → n ≡ length l → s ≡ pad stack_depth (pos 0) l → StandsFor
      (record {
        place = r.place;
        stack_count = n;
        environment_count = r.environment_count;
        slots = r.slots;
        stack = s;
        environment = r.environment;
      })
      (registers g.place l g.environment g.slots)
  with_stack l n s = record {
    place_is = h.place_is;
    stack_count_is = n;
    environment_count_is = h.environment_count_is;
    slots_are = h.slots_are;
    stack_is = s;
    environment_is = h.environment_is;
  }

  pub with_environment : (l : List Value) {n : ℕ} {s : List Value} → n ≡ length l → s ≡ pad environment_depth (pos 0) l → StandsFor
      (record {
        place = r.place;
        stack_count = r.stack_count;
        environment_count = n;
        slots = r.slots;
        stack = r.stack;
        environment = s;
      })
      (registers g.place g.stack l g.slots)
  with_environment l n s = record {
    place_is = h.place_is;
    stack_count_is = h.stack_count_is;
    environment_count_is = n;
    slots_are = h.slots_are;
    stack_is = h.stack_is;
    environment_is = s;
  }

  pub with_slots_lem : (l : Slots) {s : List ℕ} → s ≡ slot_bytes l → StandsFor
      (record {
        place = r.place;
        stack_count = r.stack_count;
        environment_count = r.environment_count;
        slots = s;
        stack = r.stack;
        environment = r.environment;
      })
      (with_slots g l)
  with_slots_lem l s = record {
    place_is = h.place_is;
    stack_count_is = h.stack_count_is;
    environment_count_is = h.environment_count_is;
    slots_are = s;
    stack_is = h.stack_is;
    environment_is = h.environment_is;
  }
