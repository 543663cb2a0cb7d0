-- The end in a slot of a record, in a sound memory: it is an end of the state, and that of a running record is in use with nothing last on
-- its queue. Assumes nothing.
use mathlib.Core.Path.{◌≡◌, refl, ap, ◌∙◌}
use mathlib.Core.Bool.{false, not}
use mathlib.Core.Option.{Option, none, some}
use mathlib.Core.List.{List}
use Prim.Native.Nat.{ℕ, ◌<◌}
use native.Mathlib.Omega.{arith}
use Rattle.rules.specs.Limits.{end_count, slot_count}
use Rattle.rules.specs.State.{State, Registers as Process, RecordState, free_record, running, waiting, record_at, end_at}
use Rattle.rules.specs.State.{slot_at, end_or, end_in, is_free_end, last_of}
use Rattle.rules.specs.Slots.{is_held}
use Rattle.rules.specs.Causes.{empty}
use Rattle.rules.specs.Layout.{no_registers, view}
use Rattle.rules.specs.Sound.{RegistersWithin, held_in}
use Rattle.rules.proofs.TestLaws.{true_is_not_false}
use Rattle.rules.proofs.SoundLaws.{slot_counts, held_within}
use Rattle.keeping.proofs.Start.{all_the_same}
use Rattle.keeping.specs.Demand3.{SoundMemory}
use Rattle.registers.specs.declared.Registers.{Registers}
use Rattle.registers.specs.Registers.{registers_of, registers_in}
use Rattle.stepping.specs.Stepped.{shown_by}
use Rattle.stepping.proofs.Steps.{shown_within}
use Rattle.stepping.proofs.OwnEnds.{slot_end}
use Rattle.channels.specs.Appending.{HoldsEnd, Runs}

-- ---- whatever the record is

-- a slot that is not empty holds the end that it stands for
holds_some : (o : Option ℕ) → not (is_held o) ≡ false → o ≡ some (end_or end_count o)
holds_some none h = true_is_not_false refl h
holds_some (some e) h = refl

-- it is held by that record
held_counts : (x : RecordState) (c : ℕ) → empty c (registers_in x) ≡ false → 0 < held_in (end_in (registers_in x) c) x
unfolding no_registers
held_counts free_record c h = true_is_not_false (ap (λ (o : Option ℕ). not (is_held o)) (all_the_same slot_count none c)) h
held_counts (running g) c h = slot_counts g.slots c _ (holds_some (slot_at g c) h)
held_counts (waiting g) c h = slot_counts g.slots c _ (holds_some (slot_at g c) h)

-- so it is an end of the state
pub end_within_lem : {m : List ℕ} {x : Registers} {c e : ℕ} → HoldsEnd m x c
    → ((g : Process) → RegistersWithin g → x ≡ registers_of g → e ≡ end_in g c) → e < end_count
end_within_lem {m} {x} {c} h is =
    let st = view m in
    let g = shown_by m h.owner in
    let inside = held_within st h.sound.state_sound h.owner (end_in g c) (held_counts (record_at st h.owner) c h.not_empty) in
    omega (arith, is g (shown_within m h.sound h.owner) h.is_loaded, inside)

-- ---- a running record

-- the end e in slot c of a running record: in use, with nothing last on its queue
pub record Own (st : State) (e : ℕ) : Type 0 where
  pub in_use : is_free_end (end_at st e) ≡ false
  pub no_last : last_of (end_at st e) ≡ none

pub own : {m : List ℕ} → SoundMemory m → {r : ℕ} {x : Registers} {g : Process} {c : ℕ} → Runs m r x g c → (e : ℕ) → e ≡ end_in g c
    → Own (view m) e
own {m} s {r} {x} {g} {c} h e is =
    let there = slot_end (view m) s.state_sound r g h.runs c h.not_empty in
    record {
      in_use = ap (λ (k : ℕ). is_free_end (end_at (view m) k)) is ∙ there.in_use;
      no_last = ap (λ (k : ℕ). last_of (end_at (view m) k)) is ∙ ap last_of there.was;
    }
