-- What a step prints, by cases over plain variables: of two heads that match the one that is no wait tells, a record's step is told by the
-- instruction at its place, and every step that is done prints something. Assumes nothing.
use mathlib.Core.Path.{◌≡◌, refl, sym, ap, ◌∙◌, subst}
use mathlib.Core.Bool.{Bool, true, false}
use mathlib.Core.Option.{Option, none, some}
use Prim.Native.Nat.{ℕ, ◌-◌, ◌≤◌, ◌<◌}
use native.Mathlib.Omega.{arith}
use lib.ListN.{length}
use lib.Dec.{ltb}
use borrow.Author.Tests.{lt-ltb, le-ltb}
use Rattle.rules.specs.Limits.{record_count}
use Rattle.rules.specs.State.{State, Datum, value, handle, split_item, close_item, wait_item, Item, datum, last}
use Rattle.rules.specs.State.{Registers, RecordState, free_record, running, waiting, record_at}
use Rattle.rules.specs.State.{EndState, free_end, used, end_at, head_of, is_free_end}
use Rattle.rules.specs.RecordStep.{partner_in}
use Rattle.rules.proofs.TestLaws.{true_is_not_false}
use Rattle.rules.proofs.Rows.{all_passed}
use Rattle.rules.specs.Refusal.{done}
use Rattle.rules.specs.Instruction.{Decoded, decode}
use Rattle.rules.specs.EndStep.{Wanted, a_value, a_handle, a_split, Waiter, waiter_in, Meeting, mismatch, delivers, divides, closes}
use Rattle.rules.specs.EndStep.{is_mismatch, end_causes}
use Rattle.rules.specs.EndStep.{handle_chosen, meet_datum, meet_split, datum_against, split_against, meet_heads, meeting}
use Rattle.rules.specs.Ask.{ask_decoded, ask_in, ask_record, ask_end, pick_answer, ask}
use Rattle.rules.specs.Printed.{Printed}
use Rattle.rules.specs.Printed.{pick_printed, printed_meeting, printed_record, printed_decoded, printed_at}
use Rattle.registers.specs.Registers.{registers_in}
use Rattle.printed.specs.Meaning.{item_printed}

-- an equation of two cases that differ
pub differ : {A : Type 0} {x : Printed} → ◌≡◌ {A = Option Printed} none (some x) → A
differ h = absurd (let z : ◌≡◌ {A = ℕ} 0 1 = cc in omega arith)

pub same : {x y : Printed} → some x ≡ some y → x ≡ y
same h = cc

-- ---- two heads

-- a wait
abbrev pub is_wait : Item → Bool
is_wait (datum d) = false
is_wait (last (split_item x y)) = false
is_wait (last close_item) = false
is_wait (last (wait_item r)) = true

module _ (p : ℕ) (z : Printed) where
  datum_tells : (from to r : ℕ) (d : Datum) (w : Option Waiter) → printed_meeting p (datum_against from to r d w) ≡ some z
      → item_printed p (datum d) ≡ z
  datum_tells from to r d none h = differ h
  datum_tells from to r d (some w) h = go d w.wait.wanted h
    where
      chosen : (n : ℕ) (g : Registers) (b : Bool) → printed_meeting p (handle_chosen b (delivers from to r (handle n) g)) ≡ some z
          → item_printed p (datum (handle n)) ≡ z
      chosen n g true h = same h
      chosen n g false h = differ h

      go : (d : Datum) (x : Wanted) → printed_meeting p (meet_datum from to r d w.held x) ≡ some z → item_printed p (datum d) ≡ z
      go (value v) (a_value next) h = same h
      go (value v) (a_handle places) h = differ h
      go (value v) (a_split a m place b m' place') h = differ h
      go (handle n) (a_value next) h = differ h
      go (handle n) (a_handle places) h = chosen n _ (ltb n (length places)) h
      go (handle n) (a_split a m place b m' place') h = differ h

  split_tells : (first second r : ℕ) (w : Option Waiter) → printed_meeting p (split_against first second r w) ≡ some z
      → item_printed p (last (split_item first second)) ≡ z
  split_tells first second r none h = differ h
  split_tells first second r (some w) h = go w.wait.wanted h
    where
      go : (x : Wanted) → printed_meeting p (meet_split first second r w.held x) ≡ some z
          → item_printed p (last (split_item first second)) ≡ z
      go (a_value next) h = differ h
      go (a_handle places) h = differ h
      go (a_split a m place b m' place') h = same h

  module _ (st : State) (e f : ℕ) where
    -- a wait is told by what stands opposite
    pub opposite_tells : (x y : Item) → is_wait x ≡ true → printed_meeting p (meet_heads st e f (some x) (some y)) ≡ some z
        → item_printed p y ≡ z
    opposite_tells (last (wait_item r)) (datum d) w h = datum_tells f e r d (waiter_in st.code (record_at st r)) h
    opposite_tells (last (wait_item r)) (last (split_item x y)) w h = split_tells x y r (waiter_in st.code (record_at st r)) h
    opposite_tells (last (wait_item r)) (last close_item) w h = differ h
    opposite_tells (last (wait_item r)) (last (wait_item r')) w h = differ h
    opposite_tells (datum d) y w h = true_is_not_false w refl
    opposite_tells (last (split_item x x')) y w h = true_is_not_false w refl
    opposite_tells (last close_item) y w h = true_is_not_false w refl

    -- anything else tells itself
    pub tells_itself : (x y : Item) → is_wait x ≡ false → printed_meeting p (meet_heads st e f (some x) (some y)) ≡ some z
        → item_printed p x ≡ z
    tells_itself (datum d) (datum d') w h = differ h
    tells_itself (datum d) (last close_item) w h = differ h
    tells_itself (datum d) (last (split_item y y')) w h = differ h
    tells_itself (datum d) (last (wait_item r)) w h = datum_tells e f r d (waiter_in st.code (record_at st r)) h
    tells_itself (last (split_item x x')) (datum d) w h = differ h
    tells_itself (last (split_item x x')) (last close_item) w h = differ h
    tells_itself (last (split_item x x')) (last (split_item y y')) w h = differ h
    tells_itself (last (split_item x x')) (last (wait_item r)) w h = split_tells x x' r (waiter_in st.code (record_at st r)) h
    tells_itself (last close_item) (datum d) w h = differ h
    tells_itself (last close_item) (last close_item) w h = same h
    tells_itself (last close_item) (last (split_item y y')) w h = differ h
    tells_itself (last close_item) (last (wait_item r)) w h = differ h
    tells_itself (last (wait_item r)) y w h = true_is_not_false refl w

-- ---- a position

-- what an end prints is read off its two heads
pub end_prints : (st : State) (p e f : ℕ) (x y : Item) (z : Printed) → record_count ≤ p → e ≡ p - record_count
    → head_of (end_at st e) ≡ some x → f ≡ partner_in st e → head_of (end_at st f) ≡ some y → printed_at st p ≡ some z
    → printed_meeting p (meet_heads st e f (some x) (some y)) ≡ some z
unfolding printed_at meeting
end_prints st p e f x y z l is own partner other h =
    let there = subst (λ (k : ℕ). head_of (end_at st k) ≡ some y) partner other in
    let here = rw (le-ltb p record_count l, sym is, own, there) at h in
    subst (λ (k : ℕ). printed_meeting p (meet_heads st e k (some x) (some y)) ≡ some z) (sym partner) here

-- an end with an empty queue prints nothing, nor does one whose partner has one
pub own_empty : {A : Type 0} (st : State) (p e : ℕ) (z : Printed) → record_count ≤ p → e ≡ p - record_count
    → head_of (end_at st e) ≡ none → printed_at st p ≡ some z → A
unfolding printed_at meeting
own_empty st p e z l is own h = differ (rw (le-ltb p record_count l, sym is, own) at h)

pub partner_empty : {A : Type 0} (st : State) (p e f : ℕ) (x : Item) (z : Printed) → record_count ≤ p → e ≡ p - record_count
    → head_of (end_at st e) ≡ some x → f ≡ partner_in st e → head_of (end_at st f) ≡ none → printed_at st p ≡ some z → A
unfolding printed_at meeting
partner_empty st p e f x z l is own partner other h =
    let there = subst (λ (k : ℕ). head_of (end_at st k) ≡ none) partner other in
    differ (rw (le-ltb p record_count l, sym is, own, there) at h)

-- an end with a head is in use
pub head_in_use : (y : EndState) {x : Item} → head_of y ≡ some x → is_free_end y ≡ false
head_in_use free_end h = absurd (let z : ◌≡◌ {A = ℕ} 0 1 = cc in omega arith)
head_in_use (used m ds l) h = refl

-- what a record prints is read off what is decoded at its place
pub record_prints : (st : State) (p place : ℕ) (d : Option Decoded) (z : Printed) → p < record_count
    → place ≡ (registers_in (record_at st p)).place → d ≡ decode st.code place → printed_at st p ≡ some z → printed_decoded p d ≡ some z
unfolding printed_at
record_prints st p place d z l at is h = go (record_at st p) at (rw (lt-ltb p record_count l) at h)
  where
    go : (x : RecordState) → place ≡ (registers_in x).place → printed_record st.code p x ≡ some z → printed_decoded p d ≡ some z
    go free_record q k = differ k
    go (waiting g) q k = differ k
    go (running g) q k = ap (printed_decoded p) (is ∙ ap (decode st.code) q) ∙ k

-- the position that is printed is the one asked
pub told_position : (st : State) (p : ℕ) (z : Printed) → printed_at st p ≡ some z → z.position ≡ p
unfolding printed_at
told_position st p z h = go (ltb p record_count) h
  where
    decoded : (d : Option Decoded) → printed_decoded p d ≡ some z → z.position ≡ p
    decoded none k = differ k
    decoded (some d) k = ap (λ (x : Printed). x.position) (sym (same k))

    of_record : (y : RecordState) → printed_record st.code p y ≡ some z → z.position ≡ p
    of_record free_record k = differ k
    of_record (waiting g) k = differ k
    of_record (running g) k = decoded (decode st.code g.place) k

    of_end : (v : Meeting) → printed_meeting p v ≡ some z → z.position ≡ p
    of_end mismatch k = differ k
    of_end (delivers from to r (value v) g) k = ap (λ (x : Printed). x.position) (sym (same k))
    of_end (delivers from to r (handle n) g) k = ap (λ (x : Printed). x.position) (sym (same k))
    of_end (divides r g g') k = ap (λ (x : Printed). x.position) (sym (same k))
    of_end closes k = ap (λ (x : Printed). x.position) (sym (same k))

    go : (b : Bool) → pick_printed b (printed_record st.code p (record_at st p))
        (printed_meeting p (meeting st (p - record_count))) ≡ some z
        → z.position ≡ p
    go true k = of_record (record_at st p) k
    go false k = of_end (meeting st (p - record_count)) k

-- ---- a step that is done

-- it prints something
pub record Prints (st : State) (p : ℕ) : Type 0 where
  pub what : Printed
  pub prints : printed_at st p ≡ some what

met_prints : (p : ℕ) (v : Meeting) → is_mismatch v ≡ false → (x : Printed) × (printed_meeting p v ≡ some x)
met_prints p mismatch h = true_is_not_false refl h
met_prints p (delivers from to r (value v) g) h = (_, refl)
met_prints p (delivers from to r (handle n) g) h = (_, refl)
met_prints p (divides r g g') h = (_, refl)
met_prints p closes h = (_, refl)

end_done : (st : State) (p e : ℕ) (st' : State) → ask_end st e ≡ done st' → (x : Printed) × (printed_meeting p (meeting st e) ≡ some x)
unfolding ask_end end_causes
end_done st p e st' h = met_prints p (meeting st e) (all_passed _ _ st' h).0.1.1.1.1.0

record_done : (st : State) (p : ℕ) (st' : State) → ask_record st p ≡ done st'
    → (x : Printed) × (printed_record st.code p (record_at st p) ≡ some x)
unfolding ask_record
record_done st p st' h = go (record_at st p) h
  where
    decoded : (g : Registers) (d : Option Decoded) → ask_decoded st p g d ≡ done st' → (x : Printed) × (printed_decoded p d ≡ some x)
    decoded g none k = absurd (let z : ◌≡◌ {A = ℕ} 0 1 = cc in omega arith)
    decoded g (some d) k = (_, refl)

    go : (y : RecordState) → ask_in st p y ≡ done st' → (x : Printed) × (printed_record st.code p y ≡ some x)
    go free_record k = absurd (let z : ◌≡◌ {A = ℕ} 0 1 = cc in omega arith)
    go (waiting g) k = absurd (let z : ◌≡◌ {A = ℕ} 0 1 = cc in omega arith)
    go (running g) k = decoded g (decode st.code g.place) k

pub done_prints : (st : State) (p : ℕ) (st' : State) → ask st p ≡ done st' → Prints st p
unfolding ask printed_at
done_prints st p st' h = let x = go (ltb p record_count) h in record { what = x.0; prints = x.1 }
  where
    go : (b : Bool) → pick_answer b (ask_record st p) (ask_end st (p - record_count)) ≡ done st'
        → (x : Printed)
        × (pick_printed b (printed_record st.code p (record_at st p)) (printed_meeting p (meeting st (p - record_count))) ≡ some x)
    go true k = record_done st p st' k
    go false k = end_done st p (p - record_count) st' k
