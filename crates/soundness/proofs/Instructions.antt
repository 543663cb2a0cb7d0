-- S5 on bytes: what it means for the test that a record waits, that its instruction was decoded, and that its own causes were asked.
-- Assumes nothing.
use mathlib.Core.Path.{◌≡◌, refl, sym, ap, ◌∙◌, subst}
use mathlib.Core.Bool.{Bool, true, false}
use mathlib.Core.List.{List, [], ◌∷◌}
use Prim.Native.Nat.{ℕ, ◌≤◌}
use native.Mathlib.Omega.{arith}
use lib.ListN.{length}
use borrow.Author.Tests.{leb-true}
use denote.Enum.Declared.{tag_of}
use types.Run.{OneOf, miss}
use Rattle.rules.specs.Limits.{code_limit}
use Rattle.rules.specs.State.{State, Registers as Process, RecordState, free_record, running, waiting, record_at, slot_at, end_at, last_of}
use Rattle.rules.specs.Refusal.{Row, unless, no_cause, Answer, done, is_done}
use Rattle.rules.specs.Instruction as rules
use Rattle.rules.specs.Causes.{own_causes, names}
use Rattle.rules.specs.EndStep.{wait_of, only_if}
use Rattle.rules.specs.Sound.{Within, RegistersWithin, RecordWithin}
use Rattle.rules.specs.SoundTest.{stands_named, stands_decoded, stands_in, stands_last, stands_test}
use Rattle.rules.specs.Layout.{state_size, layout, view}
use Rattle.rules.specs.Numbers.{slot_number, record_number}
use Rattle.rules.specs.declared.Slot.{Slot}
use Rattle.rules.specs.declared.Record.{Record}
use Rattle.rules.proofs.TestLaws.{left_of, all_true_read}
use Rattle.rules.proofs.SoundLaws.{within_read}
use Rattle.words.specs.Parts.{Bytes}
use Rattle.keeping.proofs.LayoutLaws.{Sized}
use Rattle.code.specs.declared.Instruction.{Instruction}
use Rattle.code.specs.declared.Instruction.TheVariants.{Cst, Access, Store, Add, Mul, Leq, Put, Get, Split, Fork}
use Rattle.code.specs.declared.Instruction.TheVariants.{Plug, Close, Halt, Same, Hput, Hcase, Run}
use Rattle.code.specs.declared.Branch.{Branch}
use Rattle.code.specs.declared.Decoded.{Decoded}
use Rattle.code.specs.Meaning.{instruction_of, meaning}
use Rattle.code.specs.contracts.Instruction as coded
use Rattle.registers.specs.declared.records.Status.{Status}
use Rattle.registers.specs.declared.records.Status.TheVariants.{Waiting}
use Rattle.registers.specs.Registers.{registers_in, status_of}
use Rattle.registers.specs.contracts.records.Status as status
use Rattle.causes.specs.Own.{rows_reply, own_reply}
use Rattle.canonical.specs.Canonical.{code_length, canonical_code, canonical_bytes}
use Rattle.canonical.proofs.Memory.{canonical_from}
use Rattle.std.specs.Prelude.{Option as Maybe, Some, None}
use Rattle.soundness.specs.declared.lasts.Last.{Last}
use Rattle.soundness.specs.declared.lasts.Last.TheVariants as last
use Rattle.soundness.specs.contracts.lasts.Last as lasts
use Rattle.soundness.specs.Lasts.{last_meaning}

-- ---- a memory that passed S1

module _ (m : List ℕ) (b : Bytes m) (l : length m ≡ state_size) (t : canonical_bytes m ≡ true) where
  pub shown_within : Within (view m)
  shown_within = within_read (view m) (canonical_from m b l t).1

  pub shown_sized : Sized (view m)
  shown_sized = record { records_sized = shown_within.record_count_is; ends_sized = shown_within.end_count_is }

  pub shown_layout : m ≡ layout (view m)
  shown_layout = sym (canonical_from m b l t).0

pub code_short : (m : List ℕ) → canonical_bytes m ≡ true → code_length m ≤ code_limit
unfolding canonical_bytes canonical_code
code_short m t = leb-true (code_length m) code_limit (left_of _ _ (all_true_read _ t).0)

-- ---- the own causes

-- a reply is done exactly if no row holds
none_tested : (rows : List Row) → is_done (rows_reply rows) ≡ no_cause rows
unfolding unless no_cause
none_tested [] = refl
none_tested (row ∷ rows) = go row.1 refl (none_tested rows)
  where
    go : (b : Bool) → row.1 ≡ b → is_done (rows_reply rows) ≡ no_cause rows
        → is_done (rows_reply (row ∷ rows)) ≡ no_cause (row ∷ rows)
    go true e rest = rw e refl
    go false e rest = rw e rest

own_done : (g : Process) (i : rules.Instruction) {r : Answer (Unit {0})} → r ≡ own_reply g i → is_done r ≡ no_cause (own_causes g i)
own_done g i e = ap is_done e ∙ none_tested (own_causes g i)

-- ---- an instruction

-- the cases of the code's enum that don't wait: all but get, fork and hcase
abbrev others : List ℕ
others = 0 ∷ 1 ∷ 2 ∷ 3 ∷ 4 ∷ 5 ∷ 6 ∷ 8 ∷ 10 ∷ 11 ∷ 12 ∷ 13 ∷ 14 ∷ 16 ∷ []

module _ (e : ℕ) (g : Process) (code : List ℕ) (place next : ℕ) where
  abbrev stands : Instruction → Bool
  stands i = stands_named e g (instruction_of code place i) (wait_of (instruction_of code place i) next)

  -- the slot was compared and the own causes were asked
  named : (c : ℕ) (j : rules.Instruction) {b there : Bool} {own : Answer (Unit {0})} → b ≡ only_if there (is_done own)
      → there ≡ names (slot_at g c) e → own ≡ own_reply g j → b ≡ only_if (names (slot_at g c) e) (no_cause (own_causes g j))
  named c j h t o = h ∙ (λ k. only_if (t k) (own_done g j o k))

  module _ {i : Instruction} {c : Slot} {b there : Bool} {own : Answer (Unit {0})} (h : b ≡ only_if there (is_done own))
      (t : there ≡ names (slot_at g (slot_number c)) e) where
    pub stands_get : i ≡ Get c → own ≡ own_reply g (rules.get (slot_number c)) → b ≡ stands i
    unfolding stands_named
    stands_get is o = named (slot_number c) (rules.get (slot_number c)) h t o ∙ sym (ap stands is)

    pub stands_hcase : {n : ℕ} → i ≡ Hcase c n
        → own ≡ own_reply g (rules.hcase (slot_number c) (rules.places_at code place 3 n)) → b ≡ stands i
    unfolding stands_named
    stands_hcase {n = n} is o = named (slot_number c) (rules.hcase (slot_number c) (rules.places_at code place 3 n)) h t o
        ∙ sym (ap stands is)

    pub stands_fork : {a b' : Slot} {first second : Branch} → i ≡ Fork c a first b' second
        → own ≡ own_reply g (instruction_of code place (Fork c a first b' second)) → b ≡ stands i
    unfolding stands_named
    stands_fork {a = a} {b' = b'} {first = first} {second = second} is o =
        named (slot_number c) (instruction_of code place (Fork c a first b' second)) h t o ∙ sym (ap stands is)

  -- no other instruction waits
  pub stands_other : (i : Instruction) → OneOf others (tag_of coded.the_type i) → false ≡ stands i
  unfolding stands_named
  stands_other (Cst v) k = refl
  stands_other (Access n) k = refl
  stands_other Store k = refl
  stands_other Add k = refl
  stands_other Mul k = refl
  stands_other Leq k = refl
  stands_other (Put c) k = refl
  stands_other (Get c) k = absurd (miss others 7 tt k)
  stands_other (Split c a b) k = refl
  stands_other (Fork c a first b second) k = absurd (miss others 9 tt k)
  stands_other (Plug a first second) k = refl
  stands_other (Close c) k = refl
  stands_other (Halt c) k = refl
  stands_other (Same c d) k = refl
  stands_other (Hput c n) k = refl
  stands_other (Hcase c n) k = absurd (miss others 15 tt k)
  stands_other (Run p n j) k = refl

-- ---- a record

waiting_is : (x : RecordState) {s : Status} → s ≡ status_of x → s ≡ Waiting → x ≡ waiting (registers_in x)
waiting_is free_record t w = absurd (let z : ◌≡◌ {A = ℕ} 0 1 = cc in omega arith)
waiting_is (running g) t w = absurd (let z : ◌≡◌ {A = ℕ} 0 1 = cc in omega arith)
waiting_is (waiting g) t w = refl

module _ (code : List ℕ) (e : ℕ) (x : RecordState) {s : Status} (told : s ≡ status_of x) where
  -- free or running, it does not stand there
  pub stands_not : OneOf (0 ∷ 1 ∷ []) (tag_of status.the_type s) → false ≡ stands_in code e x
  unfolding stands_in
  stands_not k = go x told
    where
      go : (y : RecordState) → s ≡ status_of y → false ≡ stands_in code e y
      go free_record t = refl
      go (running g) t = refl
      go (waiting g) t = absurd (miss (0 ∷ 1 ∷ []) 2 tt (rw t at k))

  module _ (w : s ≡ Waiting) where
    pub waiting_within : RecordWithin x → RegistersWithin (registers_in x)
    waiting_within r = subst RecordWithin (waiting_is x told w) r

    -- it does what was decoded
    pub stands_decoded_lem : {part : List ℕ} {place : ℕ} {d d' : Maybe Decoded} → part ≡ code → place ≡ (registers_in x).place
        → meaning part place d ≡ rules.decode part place → d ≡ d'
        → stands_decoded e (registers_in x) (meaning part place d') ≡ stands_in code e x
    unfolding stands_in
    stands_decoded_lem {part = part} {place = place} p q r k =
        let g = registers_in x in
        ap (λ (y : Maybe Decoded). stands_decoded e g (meaning part place y)) (sym k)
        ∙ ap (stands_decoded e g) r
        ∙ (λ i. stands_decoded e g (rules.decode (p i) (q i)))
        ∙ sym (ap (stands_in code e) (waiting_is x told w))

-- ---- an end

-- the test of an end, from its queue's last item
pub last_is : (st : State) (e : ℕ) {l : Maybe Last} (j : Maybe Last) → last_meaning l ≡ last_of (end_at st e) → l ≡ j
    → stands_last st e (last_meaning j) ≡ stands_test st e
unfolding stands_test
last_is st e j t k = ap (λ (y : Maybe Last). stands_last st e (last_meaning y)) (sym k) ∙ ap (stands_last st e) t

-- no last item, or one that is no wait
pub no_last : (st : State) (e : ℕ) {l : Maybe Last} → last_meaning l ≡ last_of (end_at st e) → l ≡ None → true ≡ stands_test st e
unfolding stands_last
no_last st e t k = last_is st e None t k

pub no_wait : (st : State) (e : ℕ) (x : Last) → last_meaning (Some x) ≡ last_of (end_at st e)
    → OneOf (0 ∷ 1 ∷ []) (tag_of lasts.the_type x) → true ≡ stands_test st e
unfolding stands_last
no_wait st e (last.Split p q) t other = last_is st e (Some (last.Split p q)) t refl
no_wait st e last.Close t other = last_is st e (Some last.Close) t refl
no_wait st e (last.Wait r) t other = absurd (miss (0 ∷ 1 ∷ []) 2 tt other)

-- a wait: the record that it names was asked
pub last_waits : (st : State) (e : ℕ) {l : Maybe Last} {r : Record} {b : Bool} → b ≡ stands_in st.code e (record_at st (record_number r))
    → last_meaning l ≡ last_of (end_at st e) → l ≡ Some (last.Wait r) → b ≡ stands_test st e
unfolding stands_last
last_waits st e {r = r} q t k = q ∙ last_is st e (Some (last.Wait r)) t k
