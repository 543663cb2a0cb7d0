-- What the decoder answers is within the limits: a constant has 32 bits, a place two bytes, a handle one, and the next place is at most the
-- code's length. Assumes nothing.
use mathlib.Core.Path.{◌≡◌, refl, subst}
use mathlib.Core.Bool.{Bool, true, false}
use mathlib.Core.Option.{Option, none, some}
use mathlib.Core.List.{List}
use Prim.Native.Nat.{ℕ, zero, suc, ◌+◌, ◌*◌, ◌≤◌, ◌<◌}
use native.Mathlib.Omega.{arith}
use lib.ListN.{length, get_or}
use borrow.Author.Tests.{ltb-false}
use mir.Syntax.{w32}
use mir.Val.{Fits}
use mir.Facts.{sfits_to_z}
use Rattle.rules.specs.Limits.{place_count, handle_count}
use Rattle.rules.specs.Bytes.{table}
use Rattle.rules.specs.Refusal.{no_cause}
use Rattle.rules.specs.Instruction.{Instruction, cst, access, store, add, mul, leq, put, get, split, fork, plug, close, halt, same, hput}
use Rattle.rules.specs.Instruction.{hcase, run, Name, cst_name, access_name, store_name, add_name, mul_name, leq_name, put_name, get_name}
use Rattle.rules.specs.Instruction.{split_name, fork_name, plug_name, close_name, halt_name, same_name, hput_name, hcase_name, run_name}
use Rattle.rules.specs.Instruction.{Form, form_of, byte_at, place_at, signed_at, places_at, instruction_at, place_after, misfits, Decoded}
use Rattle.rules.specs.Instruction.{decoded_if, decode_as, decode}
use Rattle.rules.specs.Sound.{ValueWithin}
use Rattle.rules.proofs.TestLaws.{no_cause_read}

-- the operands that a step copies into the state
abbrev pub OperandsWithin : Instruction → Type 0
OperandsWithin (cst v) = ValueWithin v
OperandsWithin (access n) = Unit {0}
OperandsWithin store = Unit {0}
OperandsWithin add = Unit {0}
OperandsWithin mul = Unit {0}
OperandsWithin leq = Unit {0}
OperandsWithin (put c) = Unit {0}
OperandsWithin (get c) = Unit {0}
OperandsWithin (split c a b) = Unit {0}
OperandsWithin (fork c a m place b m' place') = (place < place_count) × (place' < place_count)
OperandsWithin (plug a m place m' place') = (place < place_count) × (place' < place_count)
OperandsWithin (close c) = Unit {0}
OperandsWithin (halt c) = Unit {0}
OperandsWithin (same c d) = Unit {0}
OperandsWithin (hput c n) = n < handle_count
OperandsWithin (hcase c places) = (i : ℕ) → get_or places i 0 < place_count
OperandsWithin (run place n cs) = place < place_count

table_all : {A : Type 0} (P : A → Type 0) (d : A) → P d → (n : ℕ) (f : ℕ → A) → ((i : ℕ) → P (f i)) → (i : ℕ) → P (get_or (table n f) i d)
unfolding table
table_all P d p zero f h i = p
table_all P d p (suc n) f h zero = h 0
table_all P d p (suc n) f h (suc i) = table_all P d p n (λ (k : ℕ). f (suc k)) (λ k. h (suc k)) i

module _ (code : List ℕ) (bytes : (i : ℕ) → get_or code i 0 < 256) where
  place_within : (place k : ℕ) → place_at code place k < place_count
  place_within place k = omega (arith, bytes (place + k), bytes (place + (k + 1)))

  signed_within : (place k : ℕ) → ValueWithin (signed_at code place k)
  signed_within place k =
      let fits : Fits w32 (65536 * place_at code place k + place_at code place (k + 2)) = record
      { fits = omega (arith, place_within place k, place_within place (k + 2)) } in
      (sfits_to_z {w = w32} fits).sfits

  operands_within : (place : ℕ) (name : Name) → OperandsWithin (instruction_at code place name)
  unfolding instruction_at places_at
  operands_within place cst_name = signed_within place 1
  operands_within place access_name = tt
  operands_within place store_name = tt
  operands_within place add_name = tt
  operands_within place mul_name = tt
  operands_within place leq_name = tt
  operands_within place put_name = tt
  operands_within place get_name = tt
  operands_within place split_name = tt
  operands_within place fork_name = (place_within place 4, place_within place 8)
  operands_within place plug_name = (place_within place 3, place_within place 6)
  operands_within place close_name = tt
  operands_within place halt_name = tt
  operands_within place same_name = tt
  operands_within place hput_name = bytes (place + 2)
  operands_within place hcase_name =
      table_all (λ (n : ℕ). n < place_count) 0 (omega arith) (byte_at code place 2) (λ (i : ℕ). place_at code place (3 + 2 * i))
      (λ i. place_within place (3 + 2 * i))
  operands_within place run_name = place_within place 1

  -- what is decoded
  pub record DecodedWithin (d : Decoded) : Type 0 where
    pub operands : OperandsWithin d.instruction
    pub next_in_code : d.next ≤ length code

  pub decoded_within : (place : ℕ) (d : Decoded) → decode code place ≡ some d → DecodedWithin d
  unfolding decode
  decoded_within place d h = go (form_of (byte_at code place 0)) h
    where
      found : (f : Form) (b : Bool) → no_cause (misfits code place f) ≡ b
          → decoded_if b (record { instruction = instruction_at code place f.name; next = place_after code place f }) ≡ some d
          → DecodedWithin d
      found f true q h =
          let is : record { instruction = instruction_at code place f.name; next = place_after code place f } ≡ d = cc in
          subst DecodedWithin is (record {
            operands = operands_within place f.name;
            next_in_code = ltb-false (length code) (place_after code place f) (no_cause_read (misfits code place f) q).1.1.1.0;
          })
      found f false q h = absurd (let z : ◌≡◌ {A = ℕ} 0 1 = cc in omega arith)

      go : (f : Option Form) → decode_as code place f ≡ some d → DecodedWithin d
      go none h = absurd (let z : ◌≡◌ {A = ℕ} 0 1 = cc in omega arith)
      go (some f) h = found f (no_cause (misfits code place f)) refl h
