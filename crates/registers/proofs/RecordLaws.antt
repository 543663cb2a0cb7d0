-- A record's bytes, field by field: where each number stands and what is read there. `record_read` carries a read of the state memory to
-- the record's own bytes, and the laws above it read these. Assumes nothing.
use mathlib.Core.Path.{◌≡◌, refl, sym, ap, ◌∙◌}
use mathlib.Core.Logic.{◌≢◌}
use mathlib.Core.List.{List, [], ◌∷◌, ◌++◌, append-nil, append_assoc}
use Prim.Native.Nat.{ℕ, ◌+◌, ◌*◌, ◌^◌, ◌≤◌, ◌<◌}
use native.Mathlib.Omega.{arith}
use lib.ListN.{length, get_or, take, drop, length-append, length-drop, get_or-append}
use lib.Seq.{get_or-take, get_or-drop, get_or-append-add, ext_get_or, length-take-le}
use lib.IntN.{pos}
use mir.Syntax.{w32}
use mir.Val.{to_z, of_z, SFits}
use mir.Facts.{to_z-of_z, Fits-of_z}
use Rattle.rules.specs.Limits.{record_count, slot_count, stack_depth, environment_depth}
use Rattle.rules.specs.Bytes.{bytes_of, number_at, flat, pad}
use Rattle.rules.specs.State.{State, Value, Registers as Process, RecordState, free_record, running, waiting, record_at}
use Rattle.rules.specs.Sound.{ValueWithin, RegistersWithin, RecordWithin}
use Rattle.rules.specs.Layout.{value_size, record_size, records_at, value_bytes, state_size, registers_bytes, no_registers, record_bytes}
use Rattle.rules.specs.Layout.{layout}
use Rattle.words.proofs.Numbers.{number_skip, number_in, number_bytes}
use Rattle.words.proofs.Pads.{length_pad, pad_all}
use Rattle.words.proofs.Pieces.{length_flat, cut_flat}
use Rattle.words.proofs.Tables.{table_is}
use Rattle.keeping.proofs.LayoutLaws.{Sized, length_value, length_layout}
use Rattle.memory.proofs.States.{record_number}
use Rattle.registers.specs.declared.records.Status.{Status}
use Rattle.registers.specs.declared.records.Status.TheVariants.{Free, Running, Waiting}
use Rattle.registers.specs.Registers.{slot_bytes, registers_in, status_of, status_byte, values_at}
use Rattle.registers.proofs.SlotLaws.{length_slots}

-- ---- status and registers

pub record_bytes_lem : (x : RecordState) → record_bytes x ≡ status_byte (status_of x) ∷ registers_bytes (registers_in x)
unfolding record_bytes
record_bytes_lem free_record = refl
record_bytes_lem (running g) = refl
record_bytes_lem (waiting g) = refl

-- the status that a byte stands for
pub status_free : {b : ℕ} (s : Status) → b ≡ status_byte s → b ≡ 0 → Free ≡ s
status_free Free e h = refl
status_free Running e h = absurd (omega arith)
status_free Waiting e h = absurd (omega arith)

pub status_running : {b : ℕ} (s : Status) → b ≡ status_byte s → b ≡ 1 → Running ≡ s
status_running Free e h = absurd (omega arith)
status_running Running e h = refl
status_running Waiting e h = absurd (omega arith)

pub status_waiting : {b : ℕ} (s : Status) → b ≡ status_byte s → b ≢ 0 → b ≢ 1 → Waiting ≡ s
status_waiting Free e h k = absurd (h e)
status_waiting Running e h k = absurd (k e)
status_waiting Waiting e h k = refl

-- the registers of a record within the limits are within them, those of a free one too
pub registers_within_lem : (x : RecordState) → RecordWithin x → RegistersWithin (registers_in x)
unfolding no_registers
registers_within_lem free_record w = record {
  place_within = omega arith;
  stack_within = omega arith;
  environment_within = omega arith;
  stack_values = λ i. omega arith;
  environment_values = λ i. omega arith;
  slots_within = refl;
}
registers_within_lem (running g) w = w
registers_within_lem (waiting g) w = w

-- ---- one value among others

number_value : (v : Value) → ValueWithin v → to_z w32 (number_at value_size (value_bytes v) 0) ≡ v
unfolding value_bytes
number_value v h =
    let fits : SFits w32 v = record { sfits = h } in
    let small : of_z w32 v < 256 ^ value_size = (Fits-of_z {w = w32} {z = v} fits).fits in
    ap (λ (l : List ℕ). to_z w32 (number_at value_size l 0)) (sym (append-nil (bytes_of value_size (of_z w32 v))))
    ∙ ap (to_z w32) (number_bytes value_size (of_z w32 v) [] small)
    ∙ to_z-of_z {w = w32} {z = v} fits

value_at : (front : List ℕ) (l : List Value) (t : List ℕ) (j : ℕ) → j < length l → ValueWithin (get_or l j (pos 0))
    → to_z w32 (number_at value_size (front ++ (flat value_bytes l ++ t)) (length front + value_size * j)) ≡ get_or l j (pos 0)
value_at front l t j h w =
    let m : List ℕ = flat value_bytes l ++ t in
    let zero_more : value_size * j ≡ value_size * j + 0 = omega arith in
    ap (to_z w32)
    (number_skip value_size front m (value_size * j)
    ∙ ap (λ (k : ℕ). number_at value_size m k) zero_more
    ∙ number_in value_size m (value_size * j) value_size 0 (omega arith)
    ∙ ap (λ (r : List ℕ). number_at value_size r 0) (cut_flat value_bytes value_size length_value l j (pos 0) t h))
    ∙ number_value (get_or l j (pos 0)) w

-- ---- the registers in their bytes, behind a status

-- where the slots, the stack and the environment stand
abbrev pub slots_from : ℕ
slots_from = 5

abbrev pub stack_from : ℕ
stack_from = slots_from + slot_count

abbrev pub environment_from : ℕ
environment_from = stack_from + value_size * stack_depth

-- what stands in front of the slots, of the stack and of the environment
abbrev pub numbers : ℕ → Process → List ℕ
numbers status g = status ∷ (bytes_of 2 g.place ++ (length g.stack ∷ length g.environment ∷ []))

abbrev pub stack_bytes : Process → List ℕ
stack_bytes g = flat value_bytes (pad stack_depth (pos 0) g.stack)

abbrev pub environment_bytes : Process → List ℕ
environment_bytes g = flat value_bytes (pad environment_depth (pos 0) g.environment)

pub length_stack : (g : Process) → length (stack_bytes g) ≡ value_size * stack_depth
length_stack g =
    length_flat value_bytes value_size length_value (pad stack_depth (pos 0) g.stack)
    ∙ ap (λ (k : ℕ). value_size * k) (length_pad stack_depth (pos 0) g.stack)

-- a value of a list that stands behind a part of known length
value_behind : (front : List ℕ) (n : ℕ) (l : List Value) (t : List ℕ) {m : List ℕ} (j : ℕ) → length front ≡ n
    → m ≡ front ++ (flat value_bytes l ++ t) → j < length l → ValueWithin (get_or l j (pos 0))
    → to_z w32 (number_at value_size m (n + value_size * j)) ≡ get_or l j (pos 0)
value_behind front n l t j long e h w =
    (λ i. to_z w32 (number_at value_size (e i) (sym long i + value_size * j))) ∙ value_at front l t j h w

module _ (status : ℕ) (g : Process) where
  at_stack : status ∷ registers_bytes g ≡ (numbers status g ++ slot_bytes g.slots) ++ (stack_bytes g ++ environment_bytes g)
  unfolding registers_bytes
  at_stack = refl

  at_environment : status ∷ registers_bytes g
      ≡ ((numbers status g ++ slot_bytes g.slots) ++ stack_bytes g) ++ (environment_bytes g ++ [])
  at_environment =
      at_stack
      ∙ sym (append_assoc (numbers status g ++ slot_bytes g.slots) (stack_bytes g) (environment_bytes g))
      ∙ ap (λ (r : List ℕ). ((numbers status g ++ slot_bytes g.slots) ++ stack_bytes g) ++ r) (sym (append-nil (environment_bytes g)))

  pub place_read : RegistersWithin g → number_at 2 (status ∷ registers_bytes g) 1 ≡ g.place
  unfolding registers_bytes
  place_read w = let h = w.place_within in omega arith

  pub stack_count_read : get_or (status ∷ registers_bytes g) 3 0 ≡ length g.stack
  unfolding registers_bytes
  stack_count_read = refl

  pub environment_count_read : get_or (status ∷ registers_bytes g) 4 0 ≡ length g.environment
  unfolding registers_bytes
  environment_count_read = refl

  pub slot_read : (j : ℕ) → j < slot_count → get_or (status ∷ registers_bytes g) (slots_from + j) 0 ≡ get_or (slot_bytes g.slots) j 0
  unfolding registers_bytes
  slot_read j h =
      let long = length_slots g.slots in
      get_or-append-add (numbers status g) (slot_bytes g.slots ++ (stack_bytes g ++ environment_bytes g)) j 0
      ∙ get_or-append (slot_bytes g.slots) (stack_bytes g ++ environment_bytes g) 0 j (omega arith)

  pub stack_read : RegistersWithin g → (j : ℕ) → j < stack_depth
      → to_z w32 (number_at value_size (status ∷ registers_bytes g) (stack_from + value_size * j))
      ≡ get_or (pad stack_depth (pos 0) g.stack) j (pos 0)
  stack_read w j h =
      let cells = pad stack_depth (pos 0) g.stack in
      let long = length_slots g.slots in
      let within = pad_all ValueWithin stack_depth (pos 0) g.stack (omega arith) w.stack_values j in
      value_behind (numbers status g ++ slot_bytes g.slots) stack_from cells (environment_bytes g) j (omega arith) at_stack
      (rw (length_pad stack_depth (pos 0) g.stack) h) within

  pub environment_read : RegistersWithin g → (j : ℕ) → j < environment_depth
      → to_z w32 (number_at value_size (status ∷ registers_bytes g) (environment_from + value_size * j))
      ≡ get_or (pad environment_depth (pos 0) g.environment) j (pos 0)
  environment_read w j h =
      let cells = pad environment_depth (pos 0) g.environment in
      let front = numbers status g ++ slot_bytes g.slots in
      let long = length_slots g.slots in
      let within = pad_all ValueWithin environment_depth (pos 0) g.environment (omega arith) w.environment_values j in
      value_behind (front ++ stack_bytes g) environment_from cells [] j (omega (arith, length-append front (stack_bytes g), length_stack g))
      at_environment (rw (length_pad environment_depth (pos 0) g.environment) h) within

-- ---- the record in the state memory

module _ (st : State) (z : Sized st) (r : ℕ) (h : r < record_count) {m : List ℕ} {at : ℕ} (e : m ≡ layout st)
    (p : at ≡ records_at + record_size * r) where
  -- a number within the record
  pub record_read : (k o : ℕ) → o + k ≤ record_size
      → number_at k m (at + o) ≡ number_at k (status_byte (status_of (record_at st r)) ∷ registers_bytes (registers_in (record_at st r))) o
  record_read k o l =
      (λ i. number_at k (e i) (p i + o)) ∙ record_number st z k r o h l
      ∙ ap (λ (b : List ℕ). number_at k b o) (record_bytes_lem (record_at st r))

  pub byte_read : (o : ℕ) → o < record_size
      → get_or m (at + o) 0 ≡ get_or (status_byte (status_of (record_at st r)) ∷ registers_bytes (registers_in (record_at st r))) o 0
  byte_read o l = let one : o + 1 ≤ record_size = omega arith in omega (arith, record_read 1 o one)

  pub status_read : get_or m at 0 ≡ status_byte (status_of (record_at st r))
  status_read =
      let here : at ≡ at + 0 = omega arith in
      ap (λ (k : ℕ). get_or m k 0) here ∙ byte_read 0 (omega arith)

  -- sixteen values
  pub values_read : (o : ℕ) (l : List Value) → o + value_size * stack_depth ≤ record_size
      → ((j : ℕ) → j < stack_depth
      → to_z w32 (number_at value_size (status_byte (status_of (record_at st r)) ∷ registers_bytes (registers_in (record_at st r)))
      (o + value_size * j))
      ≡ get_or (pad stack_depth (pos 0) l) j (pos 0))
      → values_at m (at + o) ≡ pad stack_depth (pos 0) l
  unfolding values_at
  values_read o l fits same =
      table_is (pos 0) stack_depth (λ (j : ℕ). to_z w32 (number_at value_size m (at + o + value_size * j))) (pad stack_depth (pos 0) l)
      (length_pad stack_depth (pos 0) l)
      (λ j k.
      let together : at + o + value_size * j ≡ at + (o + value_size * j) = omega arith in
      let within : o + value_size * j + value_size ≤ record_size = omega arith in
      ap (λ (i : ℕ). to_z w32 (number_at value_size m i)) together
      ∙ ap (to_z w32) (record_read value_size (o + value_size * j) within)
      ∙ same j k)

  -- the eight slots
  pub slots_read : take slot_count (drop (at + slots_from) m) ≡ slot_bytes (registers_in (record_at st r)).slots
  slots_read =
      let slots = slot_bytes (registers_in (record_at st r)).slots in
      let rest = drop (at + slots_from) m in
      let size : length m ≡ state_size = ap length e ∙ length_layout st z in
      let room : slot_count ≤ length rest = omega (arith, length-drop (at + slots_from) m) in
      let long : length (take slot_count rest) ≡ slot_count = length-take-le slot_count rest room in
      ext_get_or 0 (take slot_count rest) slots (long ∙ sym (length_slots (registers_in (record_at st r)).slots))
      (λ j k.
      let j_small : j < slot_count = omega arith in
      let together : at + slots_from + j ≡ at + (slots_from + j) = omega arith in
      get_or-take slot_count rest j 0 j_small
      ∙ get_or-drop (at + slots_from) m j 0
      ∙ ap (λ (i : ℕ). get_or m i 0) together
      ∙ byte_read (slots_from + j) (omega arith)
      ∙ slot_read (status_byte (status_of (record_at st r))) (registers_in (record_at st r)) j j_small)
