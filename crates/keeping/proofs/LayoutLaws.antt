-- The layout of the state memory: it has the fixed length, and reading back a laid-out state within the limits gives the state. Assumes
-- nothing.
use mathlib.Core.Path.{◌≡◌, ap, ◌∙◌}
use mathlib.Core.Option.{none}
use mathlib.Core.List.{List, ◌++◌, map}
use Prim.Native.Nat.{ℕ, suc, ◌*◌}
use native.Mathlib.Omega.{arith}
use lib.ListN.{length, length-append, length-map}
use lib.IntN.{pos}
use mir.Syntax.{w32}
use mir.Val.{of_z}
use Rattle.rules.specs.Limits.{record_count, end_count, slot_count, stack_depth, environment_depth, queue_depth, code_limit}
use Rattle.rules.specs.Bytes.{bytes_of, flat, pad}
use Rattle.rules.specs.State.{State, Value, EndState, Registers, RecordState, free_record, running, waiting, queue_length}
use Rattle.rules.specs.Slots.{Slots}
use Rattle.rules.specs.Layout.{value_size, cell_size, record_size, free_size, queue_size, state_size, optional, value_bytes}
use Rattle.rules.specs.Layout.{registers_bytes}
use Rattle.rules.specs.Layout.{no_registers, record_bytes, free_word, partner_byte, queue_cells, queue_bytes, layout}
use Rattle.words.proofs.Numbers.{length_bytes}
use Rattle.words.proofs.Pads.{length_pad}
use Rattle.words.proofs.Pieces.{length_flat}

-- ---- widths

pub length_value : (v : Value) → length (value_bytes v) ≡ value_size
unfolding value_bytes
length_value v = length_bytes value_size (of_z w32 v)

length_values : (n : ℕ) (l : List Value) → length (flat value_bytes (pad n (pos 0) l)) ≡ value_size * n
length_values n l = length_flat value_bytes value_size length_value (pad n (pos 0) l)
    ∙ ap (λ (k : ℕ). value_size * k) (length_pad n (pos 0) l)

length_slots : (l : Slots) → length (map optional (pad slot_count none l)) ≡ slot_count
length_slots l = length-map (pad slot_count none l) optional ∙ length_pad slot_count none l

pub length_registers : (g : Registers) → suc (length (registers_bytes g)) ≡ record_size
unfolding registers_bytes
length_registers g = omega (
  arith,
  length-append (map optional (pad slot_count none g.slots))
      (flat value_bytes (pad stack_depth (pos 0) g.stack) ++ flat value_bytes (pad environment_depth (pos 0) g.environment)),
  length-append (flat value_bytes (pad stack_depth (pos 0) g.stack)) (flat value_bytes (pad environment_depth (pos 0) g.environment)),
  length_slots g.slots,
  length_values stack_depth g.stack,
  length_values environment_depth g.environment,
)

pub length_record : (x : RecordState) → length (record_bytes x) ≡ record_size
unfolding record_bytes
length_record free_record = length_registers no_registers
length_record (running g) = length_registers g
length_record (waiting g) = length_registers g

pub length_queue : (x : EndState) → length (queue_bytes x) ≡ queue_size
unfolding queue_bytes
length_queue x = length_flat (bytes_of cell_size) cell_size (length_bytes cell_size) (pad queue_depth 0 (queue_cells x))
    ∙ ap (λ (k : ℕ). cell_size * k) (length_pad queue_depth 0 (queue_cells x))

-- as many records and ends as there should be
pub record Sized (st : State) : Type 0 where
  pub records_sized : length st.records ≡ record_count
  pub ends_sized : length st.ends ≡ end_count

pub length_layout : (st : State) → Sized st → length (layout st) ≡ state_size
unfolding layout
length_layout st z =
    let a = pad code_limit 0 st.code in
    let b = flat record_bytes st.records in
    let c = bytes_of free_size (free_word st.ends) in
    let d = map partner_byte st.ends in
    let e = map queue_length st.ends in
    let f = flat queue_bytes st.ends in
    omega (
      arith,
      length-append a (b ++ (c ++ (d ++ (e ++ f)))),
      length-append b (c ++ (d ++ (e ++ f))),
      length-append c (d ++ (e ++ f)),
      length-append d (e ++ f),
      length-append e f,
      length_pad code_limit 0 st.code,
      length_flat record_bytes record_size length_record st.records,
      length_bytes free_size (free_word st.ends),
      length-map st.ends partner_byte,
      length-map st.ends queue_length,
      length_flat queue_bytes queue_size length_queue st.ends,
      z.records_sized,
      z.ends_sized,
    )
