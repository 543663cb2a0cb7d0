-- `code::forms::decode_fixed` meets its contract: each arm is the law of `fixed` at the row of its first byte, and past all arms no row
-- has the byte. Assumes nothing.
use Rattle.std.proofs.Common.{◌≡◌, refl, sym, ap, ◌∙◌, ℕ, ◌+◌, ◌≤◌, ◌<◌, arith, rules, length, w32, to_z-of_z}
use mathlib.Core.Option.{some}
use Rattle.rules.specs.Instruction.{Instruction, Name, form, nothing_listed, form_of, form_in, size_of, byte_at, instruction_at, decode}
use Rattle.rules.specs.Instruction.{cst, access, put, get, close, halt, same, hput}
use Rattle.code.proofs.Decoding.{fixed, begins_none}
use Rattle.code.proofs.forms.decode_fixed.Goals as goal
use Rattle.code.proofs.forms.decode_fixed.Goals.{Start}

-- ---- what is known in the arm of a first byte
begins : (s : Start) (b : ℕ) → s.args.first ≡ b → byte_at s.args.code.now s.args.place 0 ≡ b
begins s b key = sym s.requires.first_byte ∙ key

ends : (s : Start) (b : ℕ) {size : ℕ} → size_of (form_of b) ≡ size → s.args.first ≡ b → s.args.next ≡ s.args.place + size
ends s b size key =
    let place = s.args.place in
    s.requires.next_place.0 ∙ ap (λ (x : ℕ). place + size_of (form_of x)) key ∙ ap (λ (n : ℕ). place + n) size

room :
    (s : Start) (b : ℕ) {size : ℕ}
    → size_of (form_of b) ≡ size
    → s.args.first ≡ b
    → s.args.place + size ≤ length s.args.code.now
room s b size key = omega (arith, ends s b size key, s.requires.next_place.1)

arm :
    (s : Start) (b : ℕ) {name : Name} {size : ℕ}
    → form_of b ≡ some (form b name size nothing_listed)
    → 0 < size
    → s.args.first ≡ b
    → {i : Instruction}
    → i ≡ instruction_at s.args.code.now s.args.place name
    → some (record { instruction = i; next = s.args.next }) ≡ decode s.args.code.now s.args.place
arm s b row some_bytes key is =
    fixed s.args.code.now s.args.place b row (begins s b key) some_bytes is (ends s b (ap size_of row) key) s.requires.next_place.1

-- ---- the operands lie in the code
pub signed_at-requires : goal.signed_at-requires
unfolding form_of form_in
signed_at-requires c = omega (arith, room (goal.at.signed_at-requires c).Start 0x01 refl c.in-1.is)

pub byte_at-requires : goal.byte_at-requires
unfolding form_of form_in
byte_at-requires c = omega (arith, room (goal.at.byte_at-requires c).Start 0x02 refl c.in-2.is)

pub slot_at-requires : goal.slot_at-requires
unfolding form_of form_in
slot_at-requires c = omega (arith, room (goal.at.slot_at-requires c).Start 0x10 refl c.in-16.is)

pub slot_at-requires-in-17 : goal.slot_at-requires-in-17
unfolding form_of form_in
slot_at-requires-in-17 c = omega (arith, room (goal.at.slot_at-requires-in-17 c).Start 0x11 refl c.in-17.is)

pub split_at-requires : goal.split_at-requires
unfolding form_of form_in
split_at-requires c = omega (arith, room (goal.at.split_at-requires c).Start 0x12 refl c.in-18.is)

pub fork_at-requires : goal.fork_at-requires
unfolding form_of form_in
fork_at-requires c = omega (arith, room (goal.at.fork_at-requires c).Start 0x13 refl c.in-19.is)

pub plug_at-requires : goal.plug_at-requires
unfolding form_of form_in
plug_at-requires c = omega (arith, room (goal.at.plug_at-requires c).Start 0x14 refl c.in-20.is)

pub slot_at-requires-in-21 : goal.slot_at-requires-in-21
unfolding form_of form_in
slot_at-requires-in-21 c = omega (arith, room (goal.at.slot_at-requires-in-21 c).Start 0x15 refl c.in-21.is)

pub slot_at-requires-in-22 : goal.slot_at-requires-in-22
unfolding form_of form_in
slot_at-requires-in-22 c = omega (arith, room (goal.at.slot_at-requires-in-22 c).Start 0x16 refl c.in-22.is)

pub slot_at-requires-in-23 : goal.slot_at-requires-in-23
unfolding form_of form_in
slot_at-requires-in-23 c = omega (arith, room (goal.at.slot_at-requires-in-23 c).Start 0x17 refl c.in-23.is)

pub slot_at-requires-in-23-2 : goal.slot_at-requires-in-23-2
unfolding form_of form_in
slot_at-requires-in-23-2 c = omega (arith, room (goal.at.slot_at-requires-in-23-2 c).Start 0x17 refl c.in-23.is)

pub slot_at-requires-in-24 : goal.slot_at-requires-in-24
unfolding form_of form_in
slot_at-requires-in-24 c = omega (arith, room (goal.at.slot_at-requires-in-24 c).Start 0x18 refl c.in-24.is)

pub byte_at-requires-in-24 : goal.byte_at-requires-in-24
unfolding form_of form_in
byte_at-requires-in-24 c = omega (arith, room (goal.at.byte_at-requires-in-24 c).Start 0x18 refl c.in-24.is)

pub hcase_at-requires : goal.hcase_at-requires
unfolding form_of form_in
hcase_at-requires c = (
  begins (goal.at.hcase_at-requires c).Start 0x19 c.in-25.is,
  ends (goal.at.hcase_at-requires c).Start 0x19 refl
      c.in-25.is,
  c.requires.next_place.1,
)

pub run_at-requires : goal.run_at-requires
unfolding form_of form_in
run_at-requires c = (
  begins (goal.at.run_at-requires c).Start 0x1A c.in-26.is,
  ends (goal.at.run_at-requires c).Start 0x1A refl
      c.in-26.is,
  c.requires.next_place.1,
)

-- ---- answers
pub returns-in-1 : goal.returns-in-1
unfolding form_of form_in instruction_at
returns-in-1 c =
    let value = to_z-of_z {w = w32} {z = c.signed_at.result} (search rules) ∙ c.signed_at.ensures in
    rw c.found.ensures (arm (goal.at.returns-in-1 c).Start 0x01 refl (omega arith) c.in-1.is (λ i. cst (value i)))

pub returns-in-2 : goal.returns-in-2
unfolding form_of form_in instruction_at
returns-in-2 c = rw c.found-in-2.ensures (arm (goal.at.returns-in-2 c).Start 0x02 refl (omega arith) c.in-2.is
    (λ i. access (c.byte_at.ensures i)))

pub returns-in-3 : goal.returns-in-3
unfolding form_of form_in instruction_at
returns-in-3 c = rw c.found-in-3.ensures (arm (goal.at.returns-in-3 c).Start 0x03 refl (omega arith) c.in-3.is (refl))

pub returns-in-4 : goal.returns-in-4
unfolding form_of form_in instruction_at
returns-in-4 c = rw c.found-in-4.ensures (arm (goal.at.returns-in-4 c).Start 0x04 refl (omega arith) c.in-4.is (refl))

pub returns-in-5 : goal.returns-in-5
unfolding form_of form_in instruction_at
returns-in-5 c = rw c.found-in-5.ensures (arm (goal.at.returns-in-5 c).Start 0x05 refl (omega arith) c.in-5.is (refl))

pub returns-in-6 : goal.returns-in-6
unfolding form_of form_in instruction_at
returns-in-6 c = rw c.found-in-6.ensures (arm (goal.at.returns-in-6 c).Start 0x06 refl (omega arith) c.in-6.is (refl))

pub returns-in-16 : goal.returns-in-16
unfolding form_of form_in instruction_at
returns-in-16 c = rw c.found-in-16.ensures (arm (goal.at.returns-in-16 c).Start 0x10 refl (omega arith) c.in-16.is
    (λ i. put (c.slot_at.ensures i)))

pub returns-in-17 : goal.returns-in-17
unfolding form_of form_in instruction_at
returns-in-17 c = rw c.found-in-17.ensures (arm (goal.at.returns-in-17 c).Start 0x11 refl (omega arith) c.in-17.is
    (λ i. get (c.slot_at-in-17.ensures i)))

pub returns-in-18 : goal.returns-in-18
unfolding form_of form_in instruction_at
returns-in-18 c = rw c.found-in-18.ensures (arm (goal.at.returns-in-18 c).Start 0x12 refl (omega arith) c.in-18.is c.split_at.ensures)

pub returns-in-19 : goal.returns-in-19
unfolding form_of form_in instruction_at
returns-in-19 c = rw c.found-in-19.ensures (arm (goal.at.returns-in-19 c).Start 0x13 refl (omega arith) c.in-19.is c.fork_at.ensures)

pub returns-in-20 : goal.returns-in-20
unfolding form_of form_in instruction_at
returns-in-20 c = rw c.found-in-20.ensures (arm (goal.at.returns-in-20 c).Start 0x14 refl (omega arith) c.in-20.is c.plug_at.ensures)

pub returns-in-21 : goal.returns-in-21
unfolding form_of form_in instruction_at
returns-in-21 c = rw c.found-in-21.ensures (arm (goal.at.returns-in-21 c).Start 0x15 refl (omega arith) c.in-21.is
    (λ i. close (c.slot_at-in-21.ensures i)))

pub returns-in-22 : goal.returns-in-22
unfolding form_of form_in instruction_at
returns-in-22 c = rw c.found-in-22.ensures (arm (goal.at.returns-in-22 c).Start 0x16 refl (omega arith) c.in-22.is
    (λ i. halt (c.slot_at-in-22.ensures i)))

pub returns-in-23 : goal.returns-in-23
unfolding form_of form_in instruction_at
returns-in-23 c = rw c.found-in-23.ensures (arm (goal.at.returns-in-23 c).Start 0x17 refl (omega arith) c.in-23.is
    (λ i. same (c.slot_at-in-23.ensures i) (c.slot_at-in-23-2.ensures i)))

pub returns-in-24 : goal.returns-in-24
unfolding form_of form_in instruction_at
returns-in-24 c = rw c.found-in-24.ensures (arm (goal.at.returns-in-24 c).Start 0x18 refl (omega arith) c.in-24.is
    (λ i. hput (c.slot_at-in-24.ensures i) (c.byte_at-in-24.ensures i)))

pub returns-in_default : goal.returns-in_default
returns-in_default c = begins_none _ _ (rw c.requires.first_byte at c.in_default.in_default-own.rest)
