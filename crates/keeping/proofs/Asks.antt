-- Every ask that is done is a move: of a record (`record_move`), of an end (`end_move`), of a position (`ask_move`). Assumes nothing.
use mathlib.Core.Path.{◌≡◌, refl, sym, ap, ◌∙◌, subst}
use mathlib.Core.Logic.{◌≢◌}
use mathlib.Core.Bool.{Bool, true, false}
use mathlib.Core.Option.{Option, none, some}
use mathlib.Core.List.{List, [], ◌∷◌, ◌++◌}
use Prim.Native.Nat.{ℕ, ◌+◌, ◌-◌, ◌<◌}
use native.Mathlib.Omega.{arith}
use lib.ListN.{length, get_or}
use lib.Seq.{set_comm}
use lib.IntN.{pos}
use lib.Dec.{ltb}
use borrow.Author.Tests.{leb-false}
use Rattle.rules.specs.Limits.{record_count, stack_depth, slot_count, place_count}
use Rattle.rules.specs.State.{State, Datum, value, handle, Last, split_item, close_item, wait_item, EndState, free_end, used, Registers}
use Rattle.rules.specs.State.{registers, RecordState, free_record, running, waiting, record_at, end_at, slot_at, head_of, last_of}
use Rattle.rules.specs.State.{is_free_end}
use Rattle.rules.specs.State.{lowest_free_record}
use Rattle.rules.specs.Refusal.{Row, refused, done, NoCause}
use Rattle.rules.specs.Instruction.{Instruction, cst, access, store, add, mul, leq, put, get, split, fork, plug, close, halt, same, hput}
use Rattle.rules.specs.Instruction.{hcase, run, Decoded, decode}
use Rattle.rules.specs.Causes.{stack_full, no_free_record, own_causes, shared_causes}
use Rattle.rules.specs.RecordStep.{lowest_free, branch, partner_in}
use Rattle.rules.specs.EndStep.{Wanted, a_value, a_handle, a_split, Wait, wait_of, Waiter, waiter_in, Meeting, mismatch, delivers}
use Rattle.rules.specs.EndStep.{handle_chosen, meet_datum, meet_split, datum_against, split_against, meet_heads, meeting, is_mismatch}
use Rattle.rules.specs.EndStep.{is_division}
use Rattle.rules.specs.EndStep.{only_if, end_causes, after_meeting}
use Rattle.rules.specs.Ask.{answer_to, ask_decoded, ask_in, ask_record, ask_end, pick_answer, ask}
use Rattle.rules.specs.Slots.{over, emptied}
use Rattle.rules.specs.Count.{δ, total}
use Rattle.rules.specs.Sound.{ValueWithin, DatumWithin, EndWithin, RecordWithin, RegistersWithin, in_slot, Sound}
use Rattle.rules.specs.Events.{taken_from, instruction_events, decoded_events, record_events_in, record_events, meeting_events, end_events}
use Rattle.rules.specs.Events.{pick_events, events}
use Rattle.rules.proofs.CountLaws.{δ-sym}
use Rattle.rules.proofs.Rows.{all_passed}
use Rattle.rules.proofs.TestLaws.{true_is_not_false}
use Rattle.keeping.proofs.Move.{Move}
use Rattle.keeping.proofs.FreeLaws.{record_free, lowest_serve}
use Rattle.keeping.proofs.SlotLaws.{emptied_total, kept_total, kept_emptied, overlap_emptied}
use Rattle.keeping.proofs.DecodeLaws.{OperandsWithin, decoded_within}
use Rattle.keeping.proofs.ValueLaws.{all_cons}
use Rattle.keeping.proofs.Creating.{branch_within, branch_total}
use Rattle.keeping.proofs.Joining.{partner_of_lem}
use Rattle.keeping.proofs.Steps.{instruction_move}
use Rattle.keeping.proofs.Meetings.{deliver_move, divide_move, close_move}

-- ---- an answer that is done

pub refused_is_not_done : {A B : Type 0} {n : ℕ} {a : A} → refused n ≡ done a → B
refused_is_not_done h = absurd (let z : ◌≡◌ {A = ℕ} 0 1 = cc in omega arith)

pub done_is : {A : Type 0} {a b : A} → done a ≡ done b → a ≡ b
done_is {a = a} {b = b} h = cc

no_cause_left : (xs ys : List Row) → NoCause (xs ++ ys) → NoCause xs
no_cause_left [] ys h = tt
no_cause_left (x ∷ xs) ys h = (h.0, no_cause_left xs ys h.1)

no_cause_right : (xs ys : List Row) → NoCause (xs ++ ys) → NoCause ys
no_cause_right [] ys h = h
no_cause_right (x ∷ xs) ys h = no_cause_right xs ys h.1

-- ---- a record

pub record_move : (st : State) → Sound st → (r : ℕ) (st' : State) → ask_record st r ≡ done st' → Move st st' (record_events st r)
unfolding ask_record answer_to record_events
record_move st s r st' h = asked (record_at st r) refl h
  where
    decoded : (g : Registers) → record_at st r ≡ running g → (x : Option Decoded) → decode st.code g.place ≡ x → ask_decoded st r g x
        ≡ done st'
        → Move st st' (decoded_events g (lowest_free st) x)
    decoded g is none q h = refused_is_not_done h
    decoded g is (some d) q h =
        let rows = all_passed (own_causes g d.instruction ++ shared_causes st g d.instruction) _ st' h in
        let own = no_cause_left (own_causes g d.instruction) (shared_causes st g d.instruction) rows.0 in
        let shared = no_cause_right (own_causes g d.instruction) (shared_causes st g d.instruction) rows.0 in
        subst (λ (z : State). Move st z (instruction_events g (lowest_free st) d.instruction)) (done_is rows.1)
        (instruction_move st s r g is (lowest_free st) d q d.instruction refl own shared (lowest_serve st g d.instruction shared))

    asked : (x : RecordState) → record_at st r ≡ x → ask_in st r x ≡ done st' → Move st st' (record_events_in st x)
    asked free_record q h = refused_is_not_done h
    asked (waiting g) q h = refused_is_not_done h
    asked (running g) q h = decoded g q (decode st.code g.place) refl h

-- ---- an end

-- what a waiting record wants, and what its own causes leave: room for a value, places within the limits, a fork's slots shared out
abbrev WantedWithin : Registers → (slot : ℕ) → Wanted → Type 0
WantedWithin g c (a_value next) = (next < place_count) × (stack_full g ≡ false)
WantedWithin g c (a_handle places) = (i : ℕ) → get_or places i 0 < place_count
WantedWithin g c (a_split a m place b m' place') = (place < place_count) × (place' < place_count) × NoCause
    (own_causes g (fork c a m place b m' place'))

no_such_wait : {A : Type 0} {w : Wait} → none ≡ some w → A
no_such_wait h = absurd (let z : ◌≡◌ {A = ℕ} 0 1 = cc in omega arith)

wait_is : {v w : Wait} → some v ≡ some w → v ≡ w
wait_is {v} {w} h = cc

wanted_within : (g : Registers) (i : Instruction) (next : ℕ) → OperandsWithin i → next < place_count → NoCause (own_causes g i) → (w : Wait)
    → wait_of i next ≡ some w
    → WantedWithin g w.slot w.wanted
unfolding own_causes
wanted_within g (cst v) next o n own w h = no_such_wait h
wanted_within g (access k) next o n own w h = no_such_wait h
wanted_within g store next o n own w h = no_such_wait h
wanted_within g add next o n own w h = no_such_wait h
wanted_within g mul next o n own w h = no_such_wait h
wanted_within g leq next o n own w h = no_such_wait h
wanted_within g (put c) next o n own w h = no_such_wait h
wanted_within g (get c) next o n own w h = subst (λ (z : Wait). WantedWithin g z.slot z.wanted) (wait_is h) (n, own.0)
wanted_within g (split c a b) next o n own w h = no_such_wait h
wanted_within g (fork c a m place b m' place') next o n own w h = subst (λ (z : Wait). WantedWithin g z.slot z.wanted) (wait_is h)
    (o.0, o.1, own)
wanted_within g (plug a m place m' place') next o n own w h = no_such_wait h
wanted_within g (close c) next o n own w h = no_such_wait h
wanted_within g (halt c) next o n own w h = no_such_wait h
wanted_within g (same c b) next o n own w h = no_such_wait h
wanted_within g (hput c k) next o n own w h = no_such_wait h
wanted_within g (hcase c places) next o n own w h = subst (λ (z : Wait). WantedWithin g z.slot z.wanted) (wait_is h) o
wanted_within g (run place k cs) next o n own w h = no_such_wait h

-- the record that a wait on end e names, as S5 has it
record Waits (st : State) (e r : ℕ) : Type 0 where
  held : Registers
  wait : Wait
  is : record_at st r ≡ waiting held
  found : waiter_in st.code (record_at st r) ≡ some (record { held = held; wait = wait })
  holds : slot_at held wait.slot ≡ some e
  registers_ok : RegistersWithin held
  wanted_ok : WantedWithin held wait.slot wait.wanted

waits_there : (st : State) → Sound st → (e r : ℕ) → last_of (end_at st e) ≡ some (wait_item r) → Waits st e r
waits_there st s e r q =
    let there = s.S5 e r q in
    let decoded = decoded_within st.code s.S1.code_bytes there.held.place there.there there.decoded in
    record {
      held = there.held;
      wait = there.wait;
      is = there.waits;
      found = rw (there.waits, there.decoded, there.named);
      holds = there.holds;
      registers_ok = subst RecordWithin there.waits (s.S1.records_within r);
      wanted_ok = wanted_within there.held there.there.instruction there.there.next decoded.operands
          (omega (arith, decoded.next_in_code, s.S1.code_within)) there.no_cause_is there.wait there.named;
    }

-- what a meeting comes to
abbrev MeetingMove : State → (e f : ℕ) → Meeting → Type 0
MeetingMove st e f v = is_mismatch v ≡ false → only_if (is_division v) (no_free_record st) ≡ false
    → Move st (after_meeting st e f (lowest_free_record st) v) (meeting_events v)

mismatched : (st : State) (e f : ℕ) → MeetingMove st e f mismatch
mismatched st e f h k = true_is_not_false refl h

-- a datum heads the queue of `from`, a wait for record r is alone on that of `to`
module _ (st : State) (s : Sound st) (e f from to r : ℕ) (differ : from ≢ to) (ds : List Datum) (l : Option Last)
    (to_was : end_at st to ≡ used from [] (some (wait_item r))) (x : Waits st to r) where
  meet_datum_lem : (d : Datum) → end_at st from ≡ used to (d ∷ ds) l → DatumWithin d → (wanted : Wanted)
      → WantedWithin x.held x.wait.slot wanted
      → MeetingMove st e f (meet_datum from to r d x.held wanted)
  unfolding after_meeting meeting_events
  meet_datum_lem (value v) from_was dw (a_value next) ok h k =
      let g = x.held in
      let w = x.registers_ok in
      rw (from_was, to_was)
      (deliver_move st s from to r g to_was x.is (value v) ds l (registers next (v ∷ g.stack) g.environment g.slots) from_was
      differ
      (record {
        place_within = ok.0;
        stack_within = leb-false stack_depth (length g.stack) ok.1;
        environment_within = w.environment_within;
        stack_values = all_cons ValueWithin (pos 0) v g.stack dw w.stack_values;
        environment_values = w.environment_values;
        slots_within = w.slots_within;
      })
      (λ j. refl))
  meet_datum_lem (value v) from_was dw (a_handle places) ok h k = true_is_not_false refl h
  meet_datum_lem (value v) from_was dw (a_split a m place b m' place') ok h k = true_is_not_false refl h
  meet_datum_lem (handle n) from_was dw (a_value next) ok h k = true_is_not_false refl h
  meet_datum_lem (handle n) from_was dw (a_handle places) ok h k = go (ltb n (length places)) h k
    where
      moved : Move st (after_meeting st e f (lowest_free_record st)
          (delivers from to r (handle n) (registers (get_or places n 0) x.held.stack x.held.environment x.held.slots)))
          (taken_from from (handle n) ∷ [])
      moved =
          let w = x.registers_ok in
          rw (from_was, to_was)
          (deliver_move st s from to r x.held to_was x.is (handle n) ds l
          (registers (get_or places n 0) x.held.stack x.held.environment x.held.slots) from_was differ
          (record {
            place_within = ok n;
            stack_within = w.stack_within;
            environment_within = w.environment_within;
            stack_values = w.stack_values;
            environment_values = w.environment_values;
            slots_within = w.slots_within;
          })
          (λ j. refl))

      go : (b : Bool) → MeetingMove st e f (handle_chosen b
          (delivers from to r (handle n) (registers (get_or places n 0) x.held.stack x.held.environment x.held.slots)))
      go true h k = moved
      go false h k = true_is_not_false refl h
  meet_datum_lem (handle n) from_was dw (a_split a m place b m' place') ok h k = true_is_not_false refl h

-- a split is alone on the queue of `from`, a wait for record r on that of `to`
module _ (st : State) (s : Sound st) (from to r p q : ℕ) (differ : from ≢ to)
    (from_was : end_at st from ≡ used to [] (some (split_item p q))) (to_was : end_at st to ≡ used from [] (some (wait_item r)))
    (x : Waits st to r) where
  meet_split_lem : (wanted : Wanted) → WantedWithin x.held x.wait.slot wanted → MeetingMove st from to (meet_split p q r x.held wanted)
  unfolding after_meeting meeting_events own_causes
  meet_split_lem (a_value next) ok h k = true_is_not_false refl h
  meet_split_lem (a_handle places) ok h k = true_is_not_false refl h
  meet_split_lem (a_split a m place b m' place') ok h k =
      let g = x.held in
      let w = x.registers_ok in
      divide_move st s from to r g to_was x.is p q (lowest_free_record st) (branch g a m place p) (branch g b m' place' q) from_was differ
      (record_free st k) (branch_within g w a m place p ok.0) (branch_within g w b m' place' q ok.1) shared_out
    where
      in_slots : (i : ℕ) → over i ≡ false → i < length x.held.slots
      in_slots i o = omega (arith, leb-false slot_count i o, x.registers_ok.slots_within)

      own : NoCause (own_causes x.held (fork x.wait.slot a m place b m' place'))
      own = ok.2

      shared_out : (k : ℕ) → total (in_slot k) (branch x.held a m place p).slots + total (in_slot k)
          (branch x.held b m' place' q).slots + δ to k
          ≡ total (in_slot k) x.held.slots + δ k p + δ k q
      shared_out k =
          let slots = x.held.slots in
          let same = kept_emptied m m' slots x.wait.slot own.1.1.1.1.1.1.1.0 in
          omega (
            arith,
            branch_total x.held a m place p (in_slots a own.1.0) own.1.1.1.1.0 k,
            branch_total x.held b m' place' q (in_slots b own.1.1.0) own.1.1.1.1.1.0 k,
            ap (total (in_slot k)) same.0,
            ap (total (in_slot k)) same.1,
            kept_total (in_slot k) refl m m' (emptied slots x.wait.slot)
                (overlap_emptied m m' slots x.wait.slot ∙ own.1.1.1.1.1.1.0) own.1.1.1.1.1.1.1.0,
            emptied_total (in_slot k) refl slots x.wait.slot (in_slots x.wait.slot own.0),
            ap (in_slot k) x.holds,
            δ-sym k to,
          )

  -- the same step, asked by the other end
  split_asked_there : (wanted : Wanted) → WantedWithin x.held x.wait.slot wanted
      → MeetingMove st to from (meet_split p q r x.held wanted)
  unfolding after_meeting
  split_asked_there (a_value next) ok h k = true_is_not_false refl h
  split_asked_there (a_handle places) ok h k = true_is_not_false refl h
  split_asked_there (a_split a m place b m' place') ok h k =
      rw (set_comm st.ends to from free_end free_end (λ z. differ (sym z))) (meet_split_lem (a_split a m place b m' place') ok h k)

-- the heads of an end and its partner
meet_heads_lem : (st : State) → Sound st → (e f : ℕ) → e ≢ f → (ds ds' : List Datum) (l l' : Option Last) → end_at st e ≡ used f ds l
    → end_at st f ≡ used e ds' l'
    → MeetingMove st e f (meet_heads st e f (head_of (used f ds l)) (head_of (used e ds' l')))
unfolding after_meeting meeting_events
meet_heads_lem st s e f n [] ds' none l' p q = mismatched st e f
meet_heads_lem st s e f n [] [] (some l) none p q = mismatched st e f
meet_heads_lem st s e f n (d ∷ ds) [] l none p q = mismatched st e f
meet_heads_lem st s e f n (d ∷ ds) (d' ∷ ds') l l' p q = mismatched st e f
meet_heads_lem st s e f n (d ∷ ds) [] l (some close_item) p q = mismatched st e f
meet_heads_lem st s e f n (d ∷ ds) [] l (some (split_item x y)) p q = mismatched st e f
meet_heads_lem st s e f n (d ∷ ds) [] l (some (wait_item r)) p q =
    let x = waits_there st s f r (ap last_of q) in
    subst (λ (z : Option Waiter). MeetingMove st e f (datum_against e f r d z)) (sym x.found)
    (meet_datum_lem st s e f e f r n ds l q x d p ((subst EndWithin p (s.S1.ends_within e)).1 0) x.wait.wanted x.wanted_ok)
meet_heads_lem st s e f n [] (d' ∷ ds') (some close_item) l' p q = mismatched st e f
meet_heads_lem st s e f n [] (d' ∷ ds') (some (split_item x y)) l' p q = mismatched st e f
meet_heads_lem st s e f n [] (d' ∷ ds') (some (wait_item r)) l' p q =
    let x = waits_there st s e r (ap last_of p) in
    subst (λ (z : Option Waiter). MeetingMove st e f (datum_against f e r d' z)) (sym x.found)
    (meet_datum_lem st s e f f e r (λ z. n (sym z)) ds' l' p x d' q ((subst EndWithin q (s.S1.ends_within f)).1 0) x.wait.wanted
    x.wanted_ok)
meet_heads_lem st s e f n [] [] (some close_item) (some close_item) p q = λ h k. close_move st s e f p q n
meet_heads_lem st s e f n [] [] (some close_item) (some (split_item x y)) p q = mismatched st e f
meet_heads_lem st s e f n [] [] (some close_item) (some (wait_item r)) p q = mismatched st e f
meet_heads_lem st s e f n [] [] (some (split_item x y)) (some close_item) p q = mismatched st e f
meet_heads_lem st s e f n [] [] (some (split_item x y)) (some (split_item x' y')) p q = mismatched st e f
meet_heads_lem st s e f n [] [] (some (split_item a b)) (some (wait_item r)) p q =
    let x = waits_there st s f r (ap last_of q) in
    subst (λ (z : Option Waiter). MeetingMove st e f (split_against a b r z)) (sym x.found)
    (meet_split_lem st s e f r a b n p q x x.wait.wanted x.wanted_ok)
meet_heads_lem st s e f n [] [] (some (wait_item r)) (some close_item) p q = mismatched st e f
meet_heads_lem st s e f n [] [] (some (wait_item r)) (some (split_item a b)) p q =
    let x = waits_there st s e r (ap last_of p) in
    subst (λ (z : Option Waiter). MeetingMove st e f (split_against a b r z)) (sym x.found)
    (split_asked_there st s f e r a b (λ z. n (sym z)) q p x x.wait.wanted x.wanted_ok)
meet_heads_lem st s e f n [] [] (some (wait_item r)) (some (wait_item r')) p q = mismatched st e f

pub end_move : (st : State) → Sound st → (e : ℕ) (st' : State) → ask_end st e ≡ done st' → Move st st' (end_events st e)
unfolding ask_end end_events end_causes meeting
end_move st s e st' h = asked (end_at st e) refl
  where
    rows : NoCause (end_causes st e) × (done (after_meeting st e (partner_in st e) (lowest_free_record st) (meeting st e)) ≡ done st')
    rows = all_passed (end_causes st e) (done (after_meeting st e (partner_in st e) (lowest_free_record st) (meeting st e))) st' h

    asked : (x : EndState) → end_at st e ≡ x → Move st st' (meeting_events (meeting st e))
    asked free_end q = true_is_not_false refl (subst (λ (x : EndState). is_free_end x ≡ false) q rows.0.1.0)
    asked (used f ds l) q =
        let partner = partner_of_lem st s e f ds l q in
        let met : meeting st e ≡ meet_heads st e f (head_of (used f ds l)) (head_of (used e partner.queued partner.final)) = rw
        (q, partner.was) in
        let here : partner_in st e ≡ f = rw q in
        subst (λ (z : State). Move st z (meeting_events (meeting st e))) (done_is rows.1)
        (subst (λ (z : ℕ). Move st (after_meeting st e z (lowest_free_record st) (meeting st e)) (meeting_events (meeting st e))) (sym here)
        (subst (λ (z : Meeting). MeetingMove st e f z) (sym met)
        (meet_heads_lem st s e f (λ z. partner.differs (sym z)) ds partner.queued l partner.final q partner.was)
        rows.0.1.1.1.1.0 rows.0.1.1.1.1.1.0))

-- ---- a position

pub ask_move : (st : State) → Sound st → (p : ℕ) (st' : State) → ask st p ≡ done st' → Move st st' (events st p)
unfolding ask events
ask_move st s p st' h = go (ltb p record_count) h
  where
    go : (b : Bool) → pick_answer b (ask_record st p) (ask_end st (p - record_count)) ≡ done st'
        → Move st st' (pick_events b (record_events st p) (end_events st (p - record_count)))
    go true h = record_move st s p st' h
    go false h = end_move st s (p - record_count) st' h
