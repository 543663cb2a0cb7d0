-- S1 to S5 as statements (`Sound`) and as a test that computes (`sound_test`) are the same: `sound_of_test` and `test_of_sound`.
-- On the way: in a sound state every end and record that is named is within the limits. Assumes nothing.
use mathlib.Core.Path.{◌≡◌, refl, sym, ap, ◌∙◌, subst}
use mathlib.Core.Bool.{true, not}
use mathlib.Core.Option.{Option, none, some}
use mathlib.Core.List.{List, [], ◌∷◌}
use Prim.Native.Nat.{ℕ, ◌≤◌, ◌<◌}
use native.Mathlib.Decide.{dec_lt}
use native.Mathlib.Omega.{arith}
use lib.ListN.{length, get_or, get_or-eq_default}
use lib.IntN.{pos}
use lib.Signed.{mag}
use lib.Dec.{eqb, ltb}
use borrow.Author.Tests.{ltb-true, leb-true, eqb-true, eqb-false, not-true, lt-ltb, le-leb, eq-eqb, ne_eqb}
use Rattle.rules.specs.Limits.{record_count, end_count, value_bound, handle_count}
use Rattle.rules.specs.State.{State, Value, Datum, value, handle, Last, split_item, close_item, wait_item, EndState, free_end, used}
use Rattle.rules.specs.State.{Registers, RecordState, free_record, running, waiting, record_at, end_at, queue_length, last_of, partner_of}
use Rattle.rules.specs.State.{slot_at}
use Rattle.rules.specs.Refusal.{no_cause}
use Rattle.rules.specs.Instruction.{Decoded, decode}
use Rattle.rules.specs.Causes.{own_causes, names}
use Rattle.rules.specs.EndStep.{Wait, wait_of}
use Rattle.rules.specs.Count.{total}
use Rattle.rules.specs.Sound.{ValueWithin, DatumWithin, RegistersWithin, RecordWithin, EndWithin, Within, Paired, in_slot, held_in}
use Rattle.rules.specs.Sound.{in_last, carried_by, in_use, places_of, named_by, waits_naming, is_waiting, StandsAt, Sound}
use Rattle.rules.specs.SoundTest.{all, every, value_within, datum_within, slot_within, registers_within, record_within, last_within}
use Rattle.rules.specs.SoundTest.{end_within, byte_within, within, paired_in, paired_test, places_test, waits_test, stands_named}
use Rattle.rules.specs.SoundTest.{stands_decoded, stands_in, stands_last, stands_test, sound_test}
use Rattle.rules.proofs.CountLaws.{δ-same, δ-ne, total_one, total_zero, weighs_in}
use Rattle.rules.proofs.TestLaws.{true_is_not_false, both, left_of, right_of, AllTrue, all_true_read, all_true_write, all_at}
use Rattle.rules.proofs.TestLaws.{all_from, every_at, every_from, names_read, names_write, no_cause_read, no_cause_write}

-- ---- from the test: S1

datum_read : (d : Datum) → datum_within d ≡ true → DatumWithin d
unfolding datum_within
datum_read (value v) h = ltb-true (mag v) value_bound h
datum_read (handle n) h = ltb-true n handle_count h

values_read : (l : List Value) → all value_within l ≡ true → (i : ℕ) → ValueWithin (get_or l i (pos 0))
unfolding value_within
values_read l h i = ltb-true (mag (get_or l i (pos 0))) value_bound (all_at value_within (pos 0) refl l h i)

registers_read : (g : Registers) → registers_within g ≡ true → RegistersWithin g
unfolding registers_within
registers_read g h =
    let t = all_true_read _ h in
    record {
      place_within = ltb-true g.place _ t.0;
      stack_within = leb-true (length g.stack) _ t.1.0;
      environment_within = leb-true (length g.environment) _ t.1.1.0;
      stack_values = values_read g.stack t.1.1.1.0;
      environment_values = values_read g.environment t.1.1.1.1.0;
      slots_within = eqb-true (length g.slots) _ t.1.1.1.1.1.0;
    }

record_read : (x : RecordState) → record_within x ≡ true → RecordWithin x
unfolding record_within
record_read free_record h = tt
record_read (running g) h = registers_read g h
record_read (waiting g) h = registers_read g h

end_read : (x : EndState) → end_within x ≡ true → EndWithin x
unfolding end_within datum_within
end_read free_end h = tt
end_read (used m ds l) h =
    let t = all_true_read _ h in (
      leb-true (queue_length (used m ds l)) _ t.0,
      λ i. datum_read (get_or ds i (handle 0))
          (all_at datum_within (handle 0) refl ds t.1.0 i),
    )

pub within_read : (st : State) → within st ≡ true → Within st
unfolding within byte_within record_within end_within
within_read st h =
    let t = all_true_read _ h in
    record {
      code_within = leb-true (length st.code) _ t.0;
      code_bytes = λ i. ltb-true (get_or st.code i 0) _ (all_at byte_within 0 refl st.code t.1.0 i);
      record_count_is = eqb-true (length st.records) _ t.1.1.0;
      end_count_is = eqb-true (length st.ends) _ t.1.1.1.0;
      records_within = λ r. record_read (record_at st r) (all_at record_within free_record refl st.records t.1.1.1.1.0 r);
      ends_within = λ e. end_read (end_at st e) (all_at end_within free_end refl st.ends t.1.1.1.1.1.0 e);
    }

-- ---- from the test: S2 to S5. A number over the limits shows as free

end_over : (st : State) → Within st → (e : ℕ) → end_count ≤ e → end_at st e ≡ free_end
end_over st w e h = get_or-eq_default st.ends free_end (omega (arith, w.end_count_is))

record_over : (st : State) → Within st → (r : ℕ) → record_count ≤ r → record_at st r ≡ free_record
record_over st w r h = get_or-eq_default st.records free_record (omega (arith, w.record_count_is))

paired_read : (st : State) (e : ℕ) (x : EndState) → paired_in st e x ≡ true → Paired st e x
unfolding paired_in
paired_read st e free_end h = tt
paired_read st e (used m ds l) h =
    let differ = left_of (not (eqb m e)) (names (partner_of (end_at st m)) e) h in
    let returned = right_of (not (eqb m e)) (names (partner_of (end_at st m)) e) h in
    (eqb-false m e (not-true (eqb m e) differ), names_read (partner_of (end_at st m)) e returned)

-- no slot of a record within the limits holds an end over them
slots_over : (e : ℕ) → end_count ≤ e → (l : List (Option ℕ)) → all slot_within l ≡ true → total (in_slot e) l ≡ 0
unfolding slot_within
slots_over e h l t = total_zero (in_slot e) l none (λ i. go (get_or l i none) (all_at slot_within none refl l t i))
  where
    go : (x : Option ℕ) → slot_within x ≡ true → in_slot e x ≡ 0
    go none q = refl
    go (some f) q = δ-ne e f (λ z. absurd (let k = ltb-true f end_count q in omega arith))

held_over : (e : ℕ) → end_count ≤ e → (x : RecordState) → record_within x ≡ true → held_in e x ≡ 0
unfolding record_within registers_within
held_over e h free_record t = refl
held_over e h (running g) t = slots_over e h g.slots (all_true_read _ t).1.1.1.1.1.1.0
held_over e h (waiting g) t = slots_over e h g.slots (all_true_read _ t).1.1.1.1.1.1.0

last_over : (e : ℕ) → end_count ≤ e → (l : Option Last) → last_within l ≡ true → in_last e l ≡ 0
unfolding last_within
last_over e h none t = refl
last_over e h (some (split_item p q)) t =
    let p_within = ltb-true p end_count (left_of (ltb p end_count) (ltb q end_count) t) in
    let q_within = ltb-true q end_count (right_of (ltb p end_count) (ltb q end_count) t) in
    omega (arith, δ-ne e p (λ z. absurd (omega arith)), δ-ne e q (λ z. absurd (omega arith)))
last_over e h (some close_item) t = refl
last_over e h (some (wait_item r)) t = refl

carried_over : (e : ℕ) → end_count ≤ e → (x : EndState) → end_within x ≡ true → carried_by e x ≡ 0
unfolding end_within
carried_over e h free_end t = refl
carried_over e h (used m ds l) t = last_over e h l (all_true_read _ t).1.1.0

named_over : (r : ℕ) → record_count ≤ r → (x : EndState) → end_within x ≡ true → named_by r x ≡ 0
unfolding end_within last_within
named_over r h free_end t = refl
named_over r h (used m ds none) t = refl
named_over r h (used m ds (some (split_item p q))) t = refl
named_over r h (used m ds (some close_item)) t = refl
named_over r h (used m ds (some (wait_item k))) t =
    let k_within = ltb-true k record_count (all_true_read _ t).1.1.0 in δ-ne r k (λ z. absurd (omega arith))

stands_named_lem : (code : List ℕ) (e : ℕ) (g : Registers) (d : Decoded) → decode code g.place ≡ some d → (w : Option Wait)
    → wait_of d.instruction d.next ≡ w → stands_named e g d.instruction w ≡ true → StandsAt code e (waiting g)
unfolding stands_named
stands_named_lem code e g d q none p t = true_is_not_false t refl
stands_named_lem code e g d q (some w) p t =
    let holds = left_of (names (slot_at g w.slot) e) (no_cause (own_causes g d.instruction)) t in
    let free = right_of (names (slot_at g w.slot) e) (no_cause (own_causes g d.instruction)) t in
    record {
      held = g;
      waits = refl;
      there = d;
      decoded = q;
      wait = w;
      named = p;
      holds = names_read (slot_at g w.slot) e holds;
      no_cause_is = no_cause_read (own_causes g d.instruction) free;
    }

stands_read : (code : List ℕ) (e : ℕ) (x : RecordState) → stands_in code e x ≡ true → StandsAt code e x
unfolding stands_in stands_decoded
stands_read code e free_record t = true_is_not_false t refl
stands_read code e (running g) t = true_is_not_false t refl
stands_read code e (waiting g) t = go (decode code g.place) refl t
  where
    go : (d : Option Decoded) → decode code g.place ≡ d → stands_decoded e g d ≡ true → StandsAt code e (waiting g)
    go none q t = true_is_not_false t refl
    go (some d) q t = stands_named_lem code e g d q (wait_of d.instruction d.next) refl t

-- the test passes: the state is sound
pub sound_of_test : (st : State) → sound_test st ≡ true → Sound st
unfolding sound_test within places_of waits_naming paired_test places_test waits_test stands_test stands_last record_within end_within
sound_of_test st h = record {
  S1 = w;
  S2 = λ e. two e (dec_lt e end_count);
  S3 = λ e. three e (dec_lt e end_count);
  S4 = λ r. four r
      (dec_lt r record_count);
  S5 = λ e r q. five e r q (dec_lt e end_count);
}
  where
    t : AllTrue (within st ∷ every (paired_test st) end_count ∷ every (places_test st) end_count ∷ every (waits_test st) record_count
        ∷ every (stands_test st) end_count ∷ [])
    t = all_true_read _ h

    w : Within st
    w = within_read st t.0

    records_test : (r : ℕ) → record_within (record_at st r) ≡ true
    records_test r = all_at record_within free_record refl st.records (all_true_read _ t.0).1.1.1.1.0 r

    ends_test : (e : ℕ) → end_within (end_at st e) ≡ true
    ends_test e = all_at end_within free_end refl st.ends (all_true_read _ t.0).1.1.1.1.1.0 e

    two : (e : ℕ) → Dec (e < end_count) → Paired st e (end_at st e)
    two e (yes l) = paired_read st e (end_at st e) (every_at (paired_test st) end_count t.1.0 e l)
    two e (no n) = rw (end_over st w e (omega arith)) tt

    three : (e : ℕ) → Dec (e < end_count) → places_of st e ≡ in_use (end_at st e)
    three e (yes l) = eqb-true (places_of st e) (in_use (end_at st e)) (every_at (places_test st) end_count t.1.1.0 e l)
    three e (no n) =
        let over : end_count ≤ e = omega arith in
        rw (end_over st w e over) (omega (
          arith,
          total_zero (held_in e) st.records free_record (λ r. held_over e over (record_at st r) (records_test r)),
          total_zero (carried_by e) st.ends free_end (λ f. carried_over e over (end_at st f) (ends_test f)),
        ))

    four : (r : ℕ) → Dec (r < record_count) → waits_naming st r ≡ is_waiting (record_at st r)
    four r (yes l) = eqb-true (waits_naming st r) (is_waiting (record_at st r)) (every_at (waits_test st) record_count t.1.1.1.0 r l)
    four r (no n) =
        let over : record_count ≤ r = omega arith in
        rw (record_over st w r over) (total_zero (named_by r) st.ends free_end (λ e. named_over r over (end_at st e) (ends_test e)))

    five : (e r : ℕ) → last_of (end_at st e) ≡ some (wait_item r) → Dec (e < end_count) → StandsAt st.code e (record_at st r)
    five e r q (yes l) =
        let passed = every_at (stands_test st) end_count t.1.1.1.1.0 e l in
        stands_read st.code e (record_at st r) (subst (λ (x : Option Last). stands_last st e x ≡ true) q passed)
    five e r q (no n) =
        let z : none ≡ some (wait_item r) = ap last_of (sym (end_over st w e (omega arith)))
        ∙ q in absurd (let k : ◌≡◌ {A = ℕ} 0 1 = cc in omega arith)

-- ---- in a sound state what is named is within the limits

pub used_within : (st : State) → Sound st → (e : ℕ) → 0 < in_use (end_at st e) → e < end_count
used_within st s e h = omega (arith, weighs_in in_use st.ends e free_end refl h, s.S1.end_count_is)

pub held_within : (st : State) → Sound st → (r e : ℕ) → 0 < held_in e (record_at st r) → e < end_count
unfolding places_of
held_within st s r e h = used_within st s e (omega (arith, s.S3 e, total_one (held_in e) st.records r free_record refl))

pub carried_within : (st : State) → Sound st → (f e : ℕ) → 0 < carried_by e (end_at st f) → e < end_count
unfolding places_of
carried_within st s f e h = used_within st s e (omega (arith, s.S3 e, total_one (carried_by e) st.ends f free_end refl))

pub named_within : (st : State) → Sound st → (e r : ℕ) → 0 < named_by r (end_at st e) → r < record_count
unfolding waits_naming
named_within st s e r h =
    let is_waiting_lem : 0 < is_waiting (record_at st r) = omega (arith, s.S4 r, total_one (named_by r) st.ends e free_end refl) in
    omega (arith, weighs_in is_waiting st.records r free_record refl is_waiting_lem, s.S1.record_count_is)

-- a slot that holds an end counts
pub slot_counts : (l : List (Option ℕ)) (c e : ℕ) → get_or l c none ≡ some e → 0 < total (in_slot e) l
slot_counts l c e h = omega (arith, total_one (in_slot e) l c none refl, ap (in_slot e) h, δ-same e)

-- ---- from soundness to the test

values_write : (l : List Value) → ((i : ℕ) → ValueWithin (get_or l i (pos 0))) → all value_within l ≡ true
unfolding value_within
values_write l h = all_from value_within (pos 0) l (λ i. lt-ltb (mag (get_or l i (pos 0))) value_bound (h i))

datum_write : (d : Datum) → DatumWithin d → datum_within d ≡ true
unfolding datum_within
datum_write (value v) h = lt-ltb (mag v) value_bound h
datum_write (handle n) h = lt-ltb n handle_count h

registers_write : (g : Registers) → RegistersWithin g → ((e : ℕ) → 0 < total (in_slot e) g.slots → e < end_count) → registers_within g
    ≡ true
unfolding registers_within slot_within
registers_write g w held = all_true_write _ (
  lt-ltb g.place _ w.place_within,
  (
    le-leb (length g.stack) _ w.stack_within,
    (
      le-leb (length g.environment) _ w.environment_within,
      (
        values_write g.stack w.stack_values,
        (
          values_write g.environment w.environment_values,
          (
            eq-eqb (length g.slots) _ w.slots_within,
            (all_from slot_within none g.slots (λ c. go c (get_or g.slots c none) refl), tt),
          ),
        ),
      ),
    ),
  ),
)
  where
    go : (c : ℕ) (x : Option ℕ) → get_or g.slots c none ≡ x → slot_within x ≡ true
    go c none q = refl
    go c (some e) q = lt-ltb e end_count (held e (slot_counts g.slots c e q))

record_write : (x : RecordState) → RecordWithin x → ((e : ℕ) → 0 < held_in e x → e < end_count) → record_within x ≡ true
unfolding record_within
record_write free_record w held = refl
record_write (running g) w held = registers_write g w held
record_write (waiting g) w held = registers_write g w held

end_write : (x : EndState) → EndWithin x → ((e : ℕ) → 0 < carried_by e x → e < end_count) → ((r : ℕ) → 0 < named_by r x → r < record_count)
    → end_within x ≡ true
unfolding end_within last_within
end_write free_end w carried named = refl
end_write (used m ds l) w carried named = all_true_write _ (
  le-leb (queue_length (used m ds l)) _ w.0,
  (all_from datum_within (handle 0) ds (λ i. datum_write (get_or ds i (handle 0)) (w.1 i)), (go l carried named, tt)),
)
  where
    go : (l : Option Last) → ((e : ℕ) → 0 < in_last e l → e < end_count) → ((r : ℕ) → 0 < named_by r (used m ds l) → r < record_count)
        → last_within l ≡ true
    go none carried named = refl
    go (some (split_item p q)) carried named =
        both (lt-ltb p end_count (carried p (omega (arith, δ-same p)))) (lt-ltb q end_count (carried q (omega (arith, δ-same q))))
    go (some close_item) carried named = refl
    go (some (wait_item r)) carried named = lt-ltb r record_count (named r (omega (arith, δ-same r)))

within_write : (st : State) → Sound st → within st ≡ true
unfolding within byte_within
within_write st s =
    let w = s.S1 in
    all_true_write _ (
      le-leb (length st.code) _ w.code_within,
      (
        all_from byte_within 0 st.code (λ i. lt-ltb (get_or st.code i 0) _ (w.code_bytes i)),
        (
          eq-eqb (length st.records) _ w.record_count_is,
          (
            eq-eqb (length st.ends) _ w.end_count_is,
            (
              all_from record_within free_record st.records
                  (λ r. record_write (record_at st r) (w.records_within r) (held_within st s r)),
              (
                all_from end_within free_end st.ends (λ e. end_write (end_at st e) (w.ends_within e) (carried_within st s e)
                    (named_within st s e)),
                tt,
              ),
            ),
          ),
        ),
      ),
    )

paired_write : (st : State) (e : ℕ) (x : EndState) → Paired st e x → paired_in st e x ≡ true
unfolding paired_in
paired_write st e free_end h = refl
paired_write st e (used m ds l) h = both (ap not (ne_eqb m e h.0)) (names_write (partner_of (end_at st m)) e h.1)

stands_write : (code : List ℕ) (e : ℕ) (x : RecordState) → StandsAt code e x → stands_in code e x ≡ true
unfolding stands_in stands_decoded stands_named
stands_write code e x s =
    rw (s.waits, s.decoded, s.named)
    (both (names_write (slot_at s.held s.wait.slot) e s.holds)
    (no_cause_write (own_causes s.held s.there.instruction) s.no_cause_is))

-- the state is sound: the test passes
pub test_of_sound : (st : State) → Sound st → sound_test st ≡ true
unfolding sound_test paired_test places_test waits_test stands_test stands_last
test_of_sound st s = all_true_write _ (
  within_write st s,
  (
    every_from (paired_test st) end_count (λ e. paired_write st e (end_at st e) (s.S2 e)),
    (
      every_from (places_test st) end_count (λ e. eq-eqb (places_of st e) (in_use (end_at st e)) (s.S3 e)),
      (
        every_from (waits_test st) record_count (λ r. eq-eqb (waits_naming st r) (is_waiting (record_at st r)) (s.S4 r)),
        (every_from (stands_test st) end_count (λ e. go e (last_of (end_at st e)) refl), tt),
      ),
    ),
  ),
)
  where
    go : (e : ℕ) (l : Option Last) → last_of (end_at st e) ≡ l → stands_last st e l ≡ true
    go e none q = refl
    go e (some (split_item p q')) q = refl
    go e (some close_item) q = refl
    go e (some (wait_item r)) q = stands_write st.code e (record_at st r) (s.S5 e r q)
