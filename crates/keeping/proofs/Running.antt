-- What is known of a running record in a sound state: it is in the list, its registers are within the limits, and the end in each of
-- its slots is in use with no last item. And the moves that every instruction is made of: registers put anew (`quiet_move`), a datum
-- appended (`datum_move`), a last item appended (`last_move`). Assumes nothing.
use mathlib.Core.Path.{◌≡◌, refl, sym, ap, ◌∙◌, subst}
use mathlib.Core.Logic.{◌≢◌}
use mathlib.Core.Option.{Option, none, some}
use mathlib.Core.List.{List, [], ◌∷◌, ◌++◌}
use Prim.Native.Nat.{ℕ, zero, suc, ◌+◌, ◌*◌, ◌≤◌, ◌<◌}
use native.Mathlib.Omega.{arith}
use lib.ListN.{length, get_or, set, length-append}
use borrow.Author.Tests.{eq-eqb, ne_eqb}
use Rattle.rules.specs.Limits.{queue_depth}
use Rattle.rules.specs.State.{State, Datum, handle, Last, split_item, close_item, wait_item, EndState, free_end, used, Registers}
use Rattle.rules.specs.State.{RecordState, free_record, running, waiting, record_at, end_at, set_record, set_end, slot_at, last_of}
use Rattle.rules.specs.Count.{δ, total}
use Rattle.rules.specs.Sound.{DatumWithin, RegistersWithin, RecordWithin, in_slot, held_in, in_last, gives_up, given_up, in_use, places_of}
use Rattle.rules.specs.Sound.{named_by_last, is_waiting, StandsAt, Sound}
use Rattle.rules.specs.Events.{put_on}
use Rattle.rules.proofs.CountLaws.{total_one, total_two, weighs_in}
use Rattle.rules.proofs.SoundLaws.{slot_counts}
use Rattle.keeping.specs.Queues.{about}
use Rattle.keeping.proofs.Pairs.{mates, mated_of_paired}
use Rattle.keeping.proofs.Move.{Move}

-- ---- small laws

pub used_not_free : {A : Type 0} {m : ℕ} {ds : List Datum} {l : Option Last} → used m ds l ≡ free_end → A
used_not_free h = absurd (let z : ◌≡◌ {A = ℕ} 1 0 = ap in_use h in omega arith)

-- a record in use is in the list, and so is an end in use
busy : RecordState → ℕ
busy free_record = 0
busy (running g) = 1
busy (waiting g) = 1

pub running_in_list : (st : State) (r : ℕ) (g : Registers) → record_at st r ≡ running g → r < length st.records
unfolding busy
running_in_list st r g q = weighs_in busy st.records r free_record refl (omega (arith, ap busy q))

pub waiting_in_list : (st : State) (r : ℕ) (g : Registers) → record_at st r ≡ waiting g → r < length st.records
unfolding busy
waiting_in_list st r g q = weighs_in busy st.records r free_record refl (omega (arith, ap busy q))

pub used_in_list : (st : State) (e m : ℕ) (ds : List Datum) (l : Option Last) → end_at st e ≡ used m ds l → e < length st.ends
used_in_list st e m ds l q = weighs_in in_use st.ends e free_end refl (omega (arith, ap in_use q))

-- a list of data within the limits, with one more behind
pub data_more : (ds : List Datum) (d : Datum) → ((i : ℕ) → DatumWithin (get_or ds i (handle 0))) → DatumWithin d → (i : ℕ)
    → DatumWithin (get_or (ds ++ d ∷ []) i (handle 0))
data_more [] d h w zero = w
data_more [] d h w (suc i) = omega arith
data_more (x ∷ xs) d h w zero = h 0
data_more (x ∷ xs) d h w (suc i) = data_more xs d (λ j. h (suc j)) w i

-- ---- a running record

module _ (st : State) (s : Sound st) (r : ℕ) (g : Registers) (is : record_at st r ≡ running g) where
  pub registers_within_lem : RegistersWithin g
  registers_within_lem = subst RecordWithin is (s.S1.records_within r)

  -- the end in a slot is held once
  pub held_here : (c e : ℕ) → slot_at g c ≡ some e → 0 < held_in e (record_at st r)
  held_here c e h = rw is (slot_counts g.slots c e h)

  -- the end in a slot of a running record: in use, nothing last on its queue
  pub record OwnEnd (e : ℕ) : Type 0 where
    pub partner : ℕ
    pub queued : List Datum
    pub was : end_at st e ≡ used partner queued none

  -- no wait stands on it: the record that waits there would hold it too
  no_wait : (c e r' : ℕ) → slot_at g c ≡ some e → last_of (end_at st e) ≡ some (wait_item r') → ⊥
  unfolding places_of
  no_wait c e r' h q =
      let there = s.S5 e r' q in
      let also : 0 < held_in e (record_at st r') = rw there.waits (slot_counts there.held.slots there.wait.slot e there.holds)
      in
      let differ : r ≢ r' = λ z. absurd (omega (arith, ap is_waiting (sym is ∙ ap (record_at st) z ∙ there.waits))) in
      let one : in_use (end_at st e) ≤ 1 = le_one (end_at st e) in
      omega (arith, total_two (held_in e) st.records r r' free_record refl differ, held_here c e h, s.S3 e)
    where
      le_one : (x : EndState) → in_use x ≤ 1
      le_one free_end = omega arith
      le_one (used m ds l) = omega arith

  pub own_end : (c e : ℕ) → slot_at g c ≡ some e → OwnEnd e
  unfolding places_of
  own_end c e h = go (end_at st e) refl
    where
      held : 0 < total (held_in e) st.records
      held = omega (arith, total_one (held_in e) st.records r free_record refl, held_here c e h)

      go : (x : EndState) → end_at st e ≡ x → OwnEnd e
      go free_end q = absurd (omega (arith, held, s.S3 e, ap in_use q))
      go (used m ds none) q = record { partner = m; queued = ds; was = q }
      go (used m ds (some (split_item p p'))) q = absurd (omega (arith, held, s.S3 e, ap in_use q, ap given_up q))
      go (used m ds (some close_item)) q = absurd (omega (arith, held, s.S3 e, ap in_use q, ap given_up q))
      go (used m ds (some (wait_item r'))) q = absurd (no_wait c e r' h (ap last_of q))

  -- ---- registers put anew that hold what was held

  pub quiet_move : (g' : Registers) → RegistersWithin g' → ((k : ℕ) → total (in_slot k) g'.slots ≡ total (in_slot k) g.slots)
      → Move st (set_record st r (running g')) []
  unfolding about
  quiet_move g' w q = record {
    ends = [];
    records = (r, running g, running g') ∷ [];
    is = refl;
    meets = record {
      ends_were = tt;
      records_were = (is, running_in_list st r g is, tt, tt);
      ends_ok = tt;
      records_ok = (w, tt);
      apart_ok = tt;
      mutual_ok = λ k f. refl;
      places_ok = λ k. omega (arith, q k);
      waits_ok = λ k. refl;
      waits_were = (refl, tt);
      stands_ok = tt;
    };
    queues = tt;
    others = λ e o. refl;
  }

  -- ---- an item appended to the queue of a slot's end

  module _ (e m : ℕ) (ds : List Datum) (was : end_at st e ≡ used m ds none) (room : length ds < queue_depth) where
    end_apart : mates e (used m ds none) ≡ 0
    end_apart = subst (λ (x : EndState). mates e x ≡ 0) was ((mated_of_paired st s.S2).apart e)

    queued_within : (i : ℕ) → DatumWithin (get_or ds i (handle 0))
    queued_within = (subst Rattle.rules.specs.Sound.EndWithin was (s.S1.ends_within e)).1

    -- a datum; the record goes on with registers that hold what was held
    pub datum_move : (d : Datum) (g' : Registers) → DatumWithin d → RegistersWithin g'
        → ((k : ℕ) → total (in_slot k) g'.slots ≡ total (in_slot k) g.slots)
        → Move st (set_record (set_end st e (used m (ds ++ d ∷ []) none)) r (running g')) (put_on e d ∷ [])
    unfolding about
    datum_move d g' wd w q = record {
      ends = (e, used m ds none, used m (ds ++ d ∷ []) none) ∷ [];
      records = (r, running g, running g') ∷ [];
      is = refl;
      meets = record {
        ends_were = (was, used_in_list st e m ds none was, tt, tt);
        records_were = (is, running_in_list st r g is, tt, tt);
        ends_ok = ((omega (arith, length-append ds (d ∷ [])), data_more ds d queued_within wd), tt);
        records_ok = (w, tt);
        apart_ok = (end_apart, tt);
        mutual_ok = λ k f. omega arith;
        places_ok = λ k. omega (arith, q k);
        waits_ok = λ k. refl;
        waits_were = (refl, tt);
        stands_ok = ((λ r' z. absurd (let n : ◌≡◌ {A = ℕ} 0 1 = cc in omega arith)), tt);
      };
      queues = (rw (eq-eqb e e refl) (refl, refl, refl), tt);
      others = λ k o. rw (ne_eqb e k (λ (z : e ≡ k). o.0 (sym z)));
    }

    -- a last item; the record becomes y
    pub last_move : (l : Last) (y : RecordState) → RecordWithin y
        → ((k : ℕ) → held_in k y + in_last k (some l) + δ e k * gives_up (some l) ≡ total (in_slot k) g.slots)
        → ((k : ℕ) → named_by_last k (some l) ≡ δ r k * is_waiting y)
        → ((r' : ℕ) → some l ≡ some (wait_item r') → StandsAt st.code e (get_or (set st.records r y) r' free_record))
        → Move st (set_record (set_end st e (used m ds (some l))) r y) []
    unfolding about
    last_move l y w places waits stands = record {
      ends = (e, used m ds none, used m ds (some l)) ∷ [];
      records = (r, running g, y) ∷ [];
      is = refl;
      meets = record {
        ends_were = (was, used_in_list st e m ds none was, tt, tt);
        records_were = (is, running_in_list st r g is, tt, tt);
        ends_ok = ((room, queued_within), tt);
        records_ok = (w, tt);
        apart_ok = (end_apart, tt);
        mutual_ok = λ k f. omega arith;
        places_ok = λ k. omega (arith, places k);
        waits_ok = λ k. omega (arith, waits k);
        waits_were = (refl, tt);
        stands_ok = (stands, tt);
      };
      queues = ((refl, λ z. used_not_free z), tt);
      others = λ k o. refl;
    }
