-- The registers that are loaded show the process of the record, and the line of a record by what is read of it. Assumes nothing.
use mathlib.Core.Path.{◌≡◌, refl, ap, ◌∙◌}
use mathlib.Core.Option.{Option, none, some}
use mathlib.Core.List.{List, [], ◌∷◌, ◌++◌, map}
use Prim.Native.Nat.{ℕ, ◌+◌, ◌-◌, ◌≤◌}
use native.Mathlib.Omega.{arith}
use lib.ListN.{length, take}
use lib.IntN.{pos}
use Rattle.rules.specs.Limits.{slot_count, stack_depth, environment_depth}
use Rattle.rules.specs.Bytes.{pad}
use Rattle.rules.specs.State.{Registers as Process, RecordState, free_record, running, waiting}
use Rattle.rules.specs.Sound.{RegistersWithin}
use Rattle.rules.specs.Text.{text, decimal}
use Rattle.rules.specs.Layout.{optional, view_optional}
use Rattle.words.proofs.Pads.{pad_same, take_pad}
use Rattle.keeping.specs.Demand3.{SoundMemory}
use Rattle.registers.specs.declared.Registers.{Registers}
use Rattle.registers.specs.declared.records.Status.{Status}
use Rattle.registers.specs.declared.records.Status.TheVariants.{Free, Running, Waiting}
use Rattle.registers.specs.Registers.{registers_of, registers_in, status_of}
use Rattle.registers.proofs.Fields.{by_fields}
use Rattle.stepping.specs.Stepped.{shown_by}
use Rattle.stepping.proofs.Steps.{Loads, loaded, shown_within}
use Rattle.dump.specs.Shown.{registers_text, record_text}
use Rattle.dump.specs.Pieces.{process_in}

-- ---- arrays

-- the values in front of the zeros
values_back : {A : Type 0} (n : ℕ) (z : A) (l : List A) → length l ≤ n → take (length l) (pad n z l) ≡ l
values_back n z l h =
    let whole : n ≡ length l + (n - length l) = omega arith in
    ap (λ (k : ℕ). take (length l) (pad k z l)) whole ∙ take_pad (length l) (n - length l) z l ∙ pad_same (length l) z l refl

-- the slots in their bytes
slots_back : (l : List (Option ℕ)) → map view_optional (map optional l) ≡ l
unfolding view_optional
slots_back [] = refl
slots_back (none ∷ l) = ap (λ (r : List (Option ℕ)). none ∷ r) (slots_back l)
slots_back (some e ∷ l) = ap (λ (r : List (Option ℕ)). some e ∷ r) (slots_back l)

process_back : (g : Process) → RegistersWithin g → process_in (registers_of g) ≡ g
unfolding registers_of
process_back g w = λ i. record {
  place = g.place;
  stack = values_back stack_depth (pos 0) g.stack w.stack_within i;
  environment = values_back environment_depth (pos 0) g.environment w.environment_within i;
  slots = (ap (λ (l : List (Option ℕ)). map view_optional (map optional l)) (pad_same slot_count none g.slots w.slots_within)
      ∙ slots_back g.slots) i;
}

-- ---- what is loaded

module _ (m : List ℕ) (s : SoundMemory m) (r : ℕ) {x : Registers} (f : Loads m r x) where
  -- it shows the process of the record
  pub process_is : process_in x ≡ shown_by m r
  process_is = ap process_in (loaded m s r f) ∙ process_back (shown_by m r) (shown_within m s r)

  -- its counts are within the limits
  pub counts_within : (x.stack_count ≤ stack_depth) × (x.environment_count ≤ environment_depth)
  counts_within =
      let fields = by_fields (shown_by m r) (loaded m s r f) in
      let within = shown_within m s r in (
        omega (arith, fields.stack_count_is, within.stack_within),
        omega (arith, fields.environment_count_is, within.environment_within),
      )

-- ---- the line of a record

-- 0 for a free record, 1 for a running one, 2 for a waiting one
abbrev status_number : Status → ℕ
status_number Free = 0
status_number Running = 1
status_number Waiting = 2

-- the words for what a record does
abbrev pub running_word : List ℕ
running_word = 32 ∷ 114 ∷ 117 ∷ 110 ∷ 110 ∷ 105 ∷ 110 ∷ 103 ∷ 32 ∷ []

abbrev pub waiting_word : List ℕ
waiting_word = 32 ∷ 119 ∷ 97 ∷ 105 ∷ 116 ∷ 105 ∷ 110 ∷ 103 ∷ 32 ∷ []

pub free_line : (r : ℕ) (x : RecordState) → Free ≡ status_of x → [] ≡ record_text r x
unfolding record_text
free_line r free_record h = refl
free_line r (running g) h = absurd (omega (arith, ap status_number h))
free_line r (waiting g) h = absurd (omega (arith, ap status_number h))

pub running_line : (r : ℕ) (x : RecordState) {g : Process} → g ≡ registers_in x → Running ≡ status_of x
    → text "R" ++ decimal r ++ running_word ++ registers_text g ≡ record_text r x
unfolding record_text text
running_line r free_record e h = absurd (omega (arith, ap status_number h))
running_line r (running g) e h = ap (λ (p : Process). text "R" ++ decimal r ++ running_word ++ registers_text p) e
running_line r (waiting g) e h = absurd (omega (arith, ap status_number h))

pub waiting_line : (r : ℕ) (x : RecordState) {g : Process} → g ≡ registers_in x → Waiting ≡ status_of x
    → text "R" ++ decimal r ++ waiting_word ++ registers_text g ≡ record_text r x
unfolding record_text text
waiting_line r free_record e h = absurd (omega (arith, ap status_number h))
waiting_line r (running g) e h = absurd (omega (arith, ap status_number h))
waiting_line r (waiting g) e h = ap (λ (p : Process). text "R" ++ decimal r ++ waiting_word ++ registers_text p) e
