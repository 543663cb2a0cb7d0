-- Laws of `decode`, over any row of the table of forms: what the tests on the way to an answer say of it. Assumes nothing.
use mathlib.Core.Path.{◌≡◌, refl, sym, ◌∙◌}
use mathlib.Core.Bool.{true, false}
use mathlib.Core.Option.{Option, none, some}
use mathlib.Core.List.{List, [], ◌∷◌, ◌++◌}
use Prim.Native.Nat.{ℕ, ◌+◌, ◌≤◌, ◌<◌}
use native.Mathlib.Omega.{arith}
use lib.ListN.{length}
use lib.Dec.{leb}
use borrow.Author.Tests.{lt-ltb, le-ltb, le-leb, lt-leb, ne_eqb}
use Rattle.rules.specs.Refusal.{Row, no_cause}
use Rattle.rules.specs.Instruction.{Instruction, Name, Form, form, nothing_listed, form_in, form_of, forms, size_of, byte_at}
use Rattle.rules.specs.Instruction.{instruction_at}
use Rattle.rules.specs.Instruction.{Decoded, listed_count, too_few_listed, too_many_listed, place_after, decode_as, decode}

-- ---- rows

-- a row that holds refuses, whatever stands before it
holds : (before : List Row) (n : ℕ) (after : List Row) → no_cause (before ++ ((n, true) ∷ after)) ≡ false
unfolding no_cause
holds [] n after = refl
holds ((m, true) ∷ before) n after = refl
holds ((m, false) ∷ before) n after = holds before n after

-- ---- a first byte that no row has

-- none of these rows has this first byte, and N; bracketed as the ways past a `match` are
abbrev pub NoneHas : Type 0 → List Form → ℕ → Type 0
NoneHas N [] b = N
NoneHas N (f ∷ fs) b = NoneHas (N × (b ≡ f.byte → ⊥)) fs b

besides : (N : Type 0) (fs : List Form) (b : ℕ) → NoneHas N fs b → N
besides N [] b h = h
besides N (f ∷ fs) b h = (besides (N × (b ≡ f.byte → ⊥)) fs b h).0

no_row : (N : Type 0) (fs : List Form) (b : ℕ) → NoneHas N fs b → form_in fs b ≡ none
unfolding form_in
no_row N [] b h = refl
no_row N (f ∷ fs) b h =
    let other = (besides (N × (b ≡ f.byte → ⊥)) fs b h).1 in
    rw (ne_eqb f.byte b (λ e. other (sym e))) (no_row (N × (b ≡ f.byte → ⊥)) fs b h)

-- ---- answers

module _ (code : List ℕ) (place : ℕ) where
  -- the instruction of a row, its bytes at the place, with the place after it
  abbrev pub found : Form → Decoded
  found f = record { instruction = instruction_at code place f.name; next = place_after code place f }

  module _ (f : Form) (row : form_of (byte_at code place 0) ≡ some f) where
    -- none of the row's causes holds
    pub good :
        place < length code
        → too_few_listed f.listing (listed_count code place f) ≡ false
        → too_many_listed f.listing (listed_count code place f) ≡ false
        → place_after code place f ≤ length code
        → some (found f) ≡ decode code place
    unfolding decode no_cause
    good inside few many fits =
        let whole = le-ltb (length code) (place_after code place f) fits in
        sym (rw (row, lt-leb (length code) place inside, few, many, whole))

    -- one of them does; these are the rows before it
    abbrev place_row : Row
    place_row = (4, leb (length code) place)

    abbrev few_row : Row
    few_row = (4, too_few_listed f.listing (listed_count code place f))

    abbrev many_row : Row
    many_row = (4, too_many_listed f.listing (listed_count code place f))

    pub few_listed : too_few_listed f.listing (listed_count code place f) ≡ true → none ≡ decode code place
    unfolding decode
    few_listed few = sym (rw (row, few, holds (place_row ∷ []) 4 _))

    pub many_listed : too_many_listed f.listing (listed_count code place f) ≡ true → none ≡ decode code place
    unfolding decode
    many_listed many = sym (rw (row, many, holds (place_row ∷ few_row ∷ []) 4 _))

    pub past_code : length code < place_after code place f → none ≡ decode code place
    unfolding decode
    past_code past =
        let ends = lt-ltb (length code) (place_after code place f) past in
        sym (rw (row, ends, holds (place_row ∷ few_row ∷ many_row ∷ []) 4 []))

  -- the place is not in the code
  pub outside : length code ≤ place → none ≡ decode code place
  unfolding decode no_cause
  outside h = go (form_of (byte_at code place 0))
    where
      go : (o : Option Form) → none ≡ decode_as code place o
      go none = refl
      go (some f) = sym (rw (le-leb (length code) place h))

  -- the fixed part runs past the code
  pub short : length code < place + size_of (form_of (byte_at code place 0)) → none ≡ decode code place
  unfolding decode
  short h = go (form_of (byte_at code place 0)) refl h
    where
      go : (o : Option Form) → form_of (byte_at code place 0) ≡ o → length code < place + size_of o → none ≡ decode code place
      go none row past = sym (rw row)
      go (some f) row past = past_code f row (omega arith)

  -- the first byte begins no instruction
  pub begins_none : NoneHas Unit forms (byte_at code place 0) → none ≡ decode code place
  unfolding decode form_of
  begins_none h = sym (rw (no_row Unit forms (byte_at code place 0) h))

  -- a row that lists nothing, and fits
  pub fixed :
      (b : ℕ) {name : Name} {size : ℕ}
      → form_of b ≡ some (form b name size nothing_listed)
      → byte_at code place 0 ≡ b
      → 0 < size
      → {i : Instruction} {next : ℕ}
      → i ≡ instruction_at code place name
      → next ≡ place + size
      → next ≤ length code
      → some (record { instruction = i; next = next }) ≡ decode code place
  fixed b {name} {size} row first some_bytes {i} {next} is ends fits =
      let after : next ≡ place + size + 0 = omega arith in
      (λ k. some (record { instruction = is k; next = after k }))
      ∙ good (form b name size nothing_listed) (rw first row) (omega arith) refl refl (omega arith)
