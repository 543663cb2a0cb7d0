-- A record written part by part is the record's bytes written at once. Assumes nothing.
use mathlib.Core.Path.{◌≡◌, refl, sym, ap, ◌∙◌}
use mathlib.Core.List.{List, [], ◌∷◌, ◌++◌}
use Prim.Native.Nat.{ℕ, ◌+◌, ◌*◌, ◌<◌}
use native.Mathlib.Omega.{arith}
use lib.ListN.{length, set, replicate}
use Rattle.rules.specs.Bytes.{bytes_of, flat, pad}
use Rattle.rules.specs.Limits.{record_count}
use Rattle.rules.specs.State.{State, Registers as Process, RecordState, free_record, set_record}
use Rattle.rules.specs.Layout.{record_size, records_at, value_bytes, registers_bytes, no_registers, layout}
use Rattle.words.specs.Parts.{put_at}
use Rattle.words.proofs.Parts.{put_append}
use Rattle.keeping.proofs.LayoutLaws.{Sized}
use Rattle.memory.proofs.States.{record_written}
use Rattle.registers.specs.declared.Registers.{Registers}
use Rattle.registers.specs.Registers.{slot_bytes, registers_in, status_of, status_byte}
use Rattle.registers.proofs.Fields.{StandsFor}
use Rattle.registers.proofs.SlotLaws.{length_slots}
use Rattle.registers.proofs.RecordLaws.{slots_from, stack_from, environment_from, numbers, stack_bytes, environment_bytes}
use Rattle.registers.proofs.RecordLaws.{length_stack, record_bytes_lem}

-- status, place and counts
pub numbers_written : (m : List ℕ) (at status place stack environment : ℕ) {m₁ m₂ m₃ m₄ : List ℕ}
    → m₁ ≡ set m at status → m₂ ≡ put_at m₁ (at + 1) (bytes_of 2 place) → m₃ ≡ set m₂ (at + 3) stack → m₄ ≡ set m₃ (at + 4) environment
    → m₄ ≡ put_at m at (status ∷ (bytes_of 2 place ++ (stack ∷ environment ∷ [])))
numbers_written m at status place stack environment e₁ e₂ e₃ e₄ =
    let third : at + 3 ≡ at + 1 + 1 + 1 = omega arith in
    let fourth : at + 4 ≡ at + 1 + 1 + 1 + 1 = omega arith in
    let f₂ = e₂ ∙ (λ i. put_at (e₁ i) (at + 1) (bytes_of 2 place)) in
    let f₃ = e₃ ∙ (λ i. set (f₂ i) (third i) stack) in
    e₄ ∙ (λ i. set (f₃ i) (fourth i) environment)

module _ (m : List ℕ) (at status : ℕ) (g : Process) where
  -- the parts, one behind the other
  parts : put_at m at (status ∷ registers_bytes g)
      ≡ put_at (put_at (put_at (put_at m at (numbers status g)) (at + slots_from) (slot_bytes g.slots)) (at + stack_from) (stack_bytes g))
      (at + environment_from) (environment_bytes g)
  unfolding registers_bytes
  parts =
      let stack : at + slots_from + length (slot_bytes g.slots) ≡ at + stack_from = omega (arith, length_slots g.slots) in
      let environment : at + stack_from + length (stack_bytes g) ≡ at + environment_from = omega (arith, length_stack g) in
      let values = stack_bytes g ++ environment_bytes g in
      let m₁ = put_at m at (numbers status g) in
      let m₂ = put_at m₁ (at + slots_from) (slot_bytes g.slots) in
      put_append m at (numbers status g) (slot_bytes g.slots ++ values)
      ∙ put_append m₁ (at + slots_from) (slot_bytes g.slots) values
      ∙ ap (λ (k : ℕ). put_at m₂ k values) stack
      ∙ put_append m₂ (at + stack_from) (stack_bytes g) (environment_bytes g)
      ∙ ap (λ (k : ℕ). put_at (put_at m₂ (at + stack_from) (stack_bytes g)) k (environment_bytes g)) environment

  pub registers_written : {x : Registers} {m₁ m₂ m₃ m₄ : List ℕ} → StandsFor x g
      → m₁ ≡ put_at m at (status ∷ (bytes_of 2 x.place ++ (x.stack_count ∷ x.environment_count ∷ [])))
      → m₂ ≡ put_at m₁ (at + slots_from) x.slots → m₃ ≡ put_at m₂ (at + stack_from) (flat value_bytes x.stack)
      → m₄ ≡ put_at m₃ (at + environment_from) (flat value_bytes x.environment) → m₄ ≡ put_at m at (status ∷ registers_bytes g)
  registers_written h e₁ e₂ e₃ e₄ =
      let f₁ = e₁ ∙ (λ i. put_at m at (status ∷ (bytes_of 2 (h.place_is i) ++ (h.stack_count_is i ∷ h.environment_count_is i ∷ [])))) in
      let f₂ = e₂ ∙ (λ i. put_at (f₁ i) (at + slots_from) (h.slots_are i)) in
      let f₃ = e₃ ∙ (λ i. put_at (f₂ i) (at + stack_from) (flat value_bytes (h.stack_is i))) in
      e₄ ∙ (λ i. put_at (f₃ i) (at + environment_from) (flat value_bytes (h.environment_is i))) ∙ sym parts

-- a record's bytes written where it stands are the state with that record
pub record_saved : (st : State) → Sized st → (r : ℕ) (x : RecordState) → r < record_count → {m : List ℕ} → m ≡ layout st
    → put_at m (records_at + record_size * r) (status_byte (status_of x) ∷ registers_bytes (registers_in x)) ≡ layout (set_record st r x)
record_saved st z r x h e =
    (λ i. put_at (e i) (records_at + record_size * r) (sym (record_bytes_lem x) i)) ∙ record_written st z r x h

-- all of a free record is zero
pub all_zero_lem : status_byte (status_of free_record) ∷ registers_bytes (registers_in free_record) ≡ replicate record_size 0
unfolding registers_bytes no_registers pad flat value_bytes
all_zero_lem = refl
