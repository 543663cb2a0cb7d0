-- Each instruction that no cause stops is a move: sound states stay sound, its events are the changes of the queues. One law for each
-- instruction, over any fresh names. Assumes nothing.
use mathlib.Core.Path.{◌≡◌, refl, sym, ap, ◌∙◌, subst}
use mathlib.Core.Logic.{◌≢◌}
use mathlib.Core.Bool.{Bool, true, false}
use mathlib.Core.Option.{Option, none, some}
use mathlib.Core.List.{List, [], ◌∷◌, reverse}
use Prim.Native.Nat.{ℕ, suc, ◌+◌, ◌≤◌, ◌<◌}
use native.Mathlib.Nat.{min-le_right}
use native.Mathlib.Omega.{arith}
use lib.ListN.{length, get_or, set, take, drop, length-set, length-drop, length-take, length-reverse}
use lib.Seq.{get_or-set_same, get_or-set_other}
use lib.IntN.{pos, ◌+ℤ◌, ◌*ℤ◌}
use lib.Signed.{mag, le_z}
use lib.Dec.{leb, ltb, eqb}
use borrow.Author.Tests.{leb-false, ltb-false, eqb-false}
use Rattle.rules.specs.Limits.{end_count, queue_depth, slot_count, stack_depth, environment_depth, place_count, value_bound}
use Rattle.rules.specs.State.{State, Value, Datum, value, handle, close_item, wait_item, EndState, used, Registers, registers, RecordState}
use Rattle.rules.specs.State.{free_record, running, waiting, record_at, end_at, set_record, slot_at, end_in, end_or, partner_of}
use Rattle.rules.specs.State.{queue_length}
use Rattle.rules.specs.Refusal.{NoCause}
use Rattle.rules.specs.Instruction.{Instruction, cst, access, store, add, mul, leq, put, get, split, fork, plug, close, halt, same, hput}
use Rattle.rules.specs.Instruction.{hcase, run, Decoded, decode}
use Rattle.rules.specs.Causes.{top, below, fewer, empty, names, partners, queue_full, queue_not_empty, others_than_both_held, own_causes}
use Rattle.rules.specs.Causes.{shared_causes}
use Rattle.rules.specs.RecordStep.{Fresh, yes_or_no, waits, after}
use Rattle.rules.specs.EndStep.{a_value, a_handle, a_split, Wait, wait_of}
use Rattle.rules.specs.Slots.{over, emptied, callee_slots}
use Rattle.rules.specs.Count.{δ, total}
use Rattle.rules.specs.Sound.{ValueWithin, RegistersWithin, EndWithin, in_slot, held_in, in_use, places_of, StandsAt, Sound}
use Rattle.rules.specs.Events.{instruction_events}
use Rattle.rules.proofs.CountLaws.{δ-same, δ-sym, total_one}
use Rattle.keeping.proofs.Pairs.{mates, mated_of_paired}
use Rattle.keeping.proofs.Move.{Move}
use Rattle.keeping.proofs.FreeLaws.{TwoFree, FourFree, FreeRecord, FreshFor}
use Rattle.keeping.proofs.Creating.{split_slots, length_split, split_total, split_move, plug_move, branch_within, branch_total}
use Rattle.keeping.proofs.Joining.{partner_of_lem, same_move}
use Rattle.keeping.proofs.SlotLaws.{held_slot, emptied_total, none_held, kept_total, callee_total, length_callee}
use Rattle.keeping.proofs.DecodeLaws.{OperandsWithin, decoded_within}
use Rattle.keeping.proofs.ValueLaws.{all_cons, all_drop, all_take, all_reverse}
use Rattle.keeping.proofs.Running.{running_in_list, registers_within_lem, OwnEnd, own_end, quiet_move, datum_move, last_move}

zero_within : ValueWithin (pos 0)
zero_within = omega arith

answer_within : (b : Bool) → ValueWithin (yes_or_no b)
answer_within true = omega arith
answer_within false = omega arith

module _ (st : State) (s : Sound st) (r : ℕ) (g : Registers) (is : record_at st r ≡ running g) (new : Fresh) (d : Decoded)
    (there : decode st.code g.place ≡ some d) where
  w : RegistersWithin g
  w = registers_within_lem st s r g is

  next_within : d.next < place_count
  next_within = omega (arith, (decoded_within st.code s.S1.code_bytes g.place d there).next_in_code, s.S1.code_within)

  -- the registers at the next place with another stack
  stack_within : (l : List Value) → length l ≤ stack_depth → ((i : ℕ) → ValueWithin (get_or l i (pos 0)))
      → RegistersWithin (registers d.next l g.environment g.slots)
  stack_within l n v = record {
    place_within = next_within;
    stack_within = n;
    environment_within = w.environment_within;
    stack_values = v;
    environment_values = w.environment_values;
    slots_within = w.slots_within;
  }

  -- one value pushed, after n were popped
  pushed : (n : ℕ) (v : Value) → ValueWithin v → suc (length (drop n g.stack)) ≤ stack_depth
      → Move st (set_record st r (running (registers d.next (v ∷ drop n g.stack) g.environment g.slots))) []
  pushed n v h k =
      quiet_move st s r g is (registers d.next (v ∷ drop n g.stack) g.environment g.slots)
      (stack_within (v ∷ drop n g.stack) k (all_cons ValueWithin (pos 0) v (drop n g.stack) h
      (all_drop ValueWithin (pos 0) n g.stack w.stack_values)))
      (λ k. refl)

  -- ---- numbers

  cst_step : (v : Value) → d.instruction ≡ cst v → NoCause (own_causes g (cst v)) → Move st (after st r d.next g new (cst v)) []
  unfolding after own_causes
  cst_step v q own =
      let v_within : ValueWithin v = subst OperandsWithin q (decoded_within st.code s.S1.code_bytes g.place d there).operands in
      pushed 0 v v_within (leb-false stack_depth (length g.stack) own.0)

  access_step : (n : ℕ) → NoCause (own_causes g (access n)) → Move st (after st r d.next g new (access n)) []
  unfolding after own_causes
  access_step n own = pushed 0 (get_or g.environment n (pos 0)) (w.environment_values n)
      (leb-false stack_depth (length g.stack) own.0)

  -- two values popped leave room for one
  two_popped : fewer 2 g ≡ false → suc (length (drop 2 g.stack)) ≤ stack_depth
  two_popped h = omega (arith, ltb-false (length g.stack) 2 h, length-drop 2 g.stack, w.stack_within)

  add_step : NoCause (own_causes g add) → Move st (after st r d.next g new add) []
  unfolding after own_causes
  add_step own = pushed 2 (top g +ℤ below g) (leb-false value_bound (mag (top g +ℤ below g)) own.1.0) (two_popped own.0)

  mul_step : NoCause (own_causes g mul) → Move st (after st r d.next g new mul) []
  unfolding after own_causes
  mul_step own = pushed 2 (top g *ℤ below g) (leb-false value_bound (mag (top g *ℤ below g)) own.1.0) (two_popped own.0)

  leq_step : NoCause (own_causes g leq) → Move st (after st r d.next g new leq) []
  unfolding after own_causes
  leq_step own = pushed 2 (yes_or_no (le_z (top g) (below g))) (answer_within (le_z (top g) (below g))) (two_popped own.0)

  store_step : NoCause (own_causes g store) → Move st (after st r d.next g new store) []
  unfolding after own_causes
  store_step own =
      quiet_move st s r g is (registers d.next (drop 1 g.stack) (top g ∷ g.environment) g.slots)
      (record {
        place_within = next_within;
        stack_within = omega (arith, length-drop 1 g.stack, w.stack_within);
        environment_within = leb-false environment_depth (length g.environment) own.1.0;
        stack_values = all_drop ValueWithin (pos 0) 1 g.stack w.stack_values;
        environment_values = all_cons ValueWithin (pos 0) (top g) g.environment (w.stack_values 0) w.environment_values;
        slots_within = w.slots_within;
      })
      (λ k. refl)

  run_step : (place n : ℕ) (cs : List ℕ) → d.instruction ≡ run place n cs → NoCause (own_causes g (run place n cs))
      → Move st (after st r d.next g new (run place n cs)) []
  unfolding after own_causes
  run_step place n cs q own =
      quiet_move st s r g is (registers place (drop n g.stack) (reverse (take n g.stack)) (callee_slots g.slots cs))
      (record {
        place_within = subst OperandsWithin q (decoded_within st.code s.S1.code_bytes g.place d there).operands;
        stack_within = omega (arith, length-drop n g.stack, w.stack_within);
        environment_within = omega (
          arith,
          length-reverse (take n g.stack),
          length-take n g.stack,
          min-le_right n
              (length g.stack),
          w.stack_within,
        );
        stack_values = all_drop ValueWithin (pos 0) n g.stack w.stack_values;
        environment_values =
            all_reverse ValueWithin (pos 0) (take n g.stack) zero_within
            (all_take ValueWithin (pos 0) n g.stack zero_within w.stack_values);
        slots_within = length_callee g.slots cs;
      })
      (λ k. callee_total (in_slot k) refl g.slots cs w.slots_within own.1.0 own.1.1.0 own.1.1.1.0 own.1.1.1.1.0)

  -- ---- an item on the queue of a slot's end

  -- slot c of the record: the end in it, which is the record's own
  record Named (c : ℕ) : Type 0 where
    end : ℕ
    holds : slot_at g c ≡ some end
    own : OwnEnd st s r g is end
    in_list : c < length g.slots

  named_slot : (c : ℕ) → over c ≡ false → empty c g ≡ false → Named c
  named_slot c o h =
      let held = held_slot (slot_at g c) h in
      record {
        end = held.0;
        holds = held.1;
        own = own_end st s r g is c held.0 held.1;
        in_list = omega (arith, leb-false slot_count c o, w.slots_within);
      }

  -- its queue has room for one item more
  room : (c : ℕ) (n : Named c) → queue_full st c g ≡ false → length n.own.queued < queue_depth
  room c n h =
      let full : leb queue_depth (queue_length (end_at st n.end)) ≡ false = subst
      (λ (x : Option ℕ). leb queue_depth (queue_length (end_at st (end_or end_count x))) ≡ false) n.holds h in
      leb-false queue_depth (length n.own.queued) (subst (λ (x : EndState). leb queue_depth (queue_length x) ≡ false) n.own.was full)

  put_step : (c : ℕ) → NoCause (own_causes g (put c)) → NoCause (shared_causes st g (put c))
      → Move st (after st r d.next g new (put c)) (instruction_events g new (put c))
  unfolding after own_causes shared_causes instruction_events
  put_step c own shared =
      let n = named_slot c own.1.0 own.1.1.0 in
      rw (n.holds, n.own.was)
      (datum_move st s r g is n.end n.own.partner n.own.queued n.own.was (room c n shared.0) (value (top g))
      (registers d.next (drop 1 g.stack) g.environment g.slots) (w.stack_values 0)
      (stack_within (drop 1 g.stack) (omega (arith, length-drop 1 g.stack, w.stack_within))
      (all_drop ValueWithin (pos 0) 1 g.stack w.stack_values))
      (λ k. refl))

  hput_step : (c h : ℕ) → d.instruction ≡ hput c h → NoCause (own_causes g (hput c h)) → NoCause (shared_causes st g (hput c h))
      → Move st (after st r d.next g new (hput c h)) (instruction_events g new (hput c h))
  unfolding after own_causes shared_causes instruction_events
  hput_step c h q own shared =
      let n = named_slot c own.0 own.1.0 in
      let h_within = subst OperandsWithin q (decoded_within st.code s.S1.code_bytes g.place d there).operands in
      rw (n.holds, n.own.was)
      (datum_move st s r g is n.end n.own.partner n.own.queued n.own.was (room c n shared.0) (handle h)
      (registers d.next g.stack g.environment g.slots) h_within (stack_within g.stack w.stack_within w.stack_values)
      (λ k. refl))

  -- what slot c holds and what the other slots hold
  slot_out : (c : ℕ) (n : Named c) (k : ℕ) → total (in_slot k) (emptied g.slots c) + δ n.end k ≡ total (in_slot k) g.slots
  slot_out c n k = omega (arith, emptied_total (in_slot k) refl g.slots c n.in_list, ap (in_slot k) n.holds, δ-sym k n.end)

  no_wait_here : (e r' : ℕ) (y : RecordState) → some close_item ≡ some (wait_item r')
      → StandsAt st.code e (get_or (set st.records r y) r' free_record)
  no_wait_here e r' y z = absurd (let n : ◌≡◌ {A = ℕ} 0 1 = cc in omega arith)

  close_step : (c : ℕ) → NoCause (own_causes g (close c)) → NoCause (shared_causes st g (close c))
      → Move st (after st r d.next g new (close c)) []
  unfolding after own_causes shared_causes
  close_step c own shared =
      let n = named_slot c own.0 own.1.0 in
      let gone = registers d.next g.stack g.environment (emptied g.slots c) in
      rw (n.holds, n.own.was)
      (last_move st s r g is n.end n.own.partner n.own.queued n.own.was (room c n shared.0) close_item (running gone)
      (record {
        place_within = next_within;
        stack_within = w.stack_within;
        environment_within = w.environment_within;
        stack_values = w.stack_values;
        environment_values = w.environment_values;
        slots_within = length-set g.slots c none ∙ w.slots_within;
      })
      (λ k. omega (arith, slot_out c n k)) (λ k. omega arith) (λ r'. no_wait_here n.end r' (running gone)))

  halt_step : (c : ℕ) → NoCause (own_causes g (halt c)) → NoCause (shared_causes st g (halt c))
      → Move st (after st r d.next g new (halt c)) []
  unfolding after own_causes shared_causes
  halt_step c own shared =
      let n = named_slot c own.0 own.1.0 in
      rw (n.holds, n.own.was)
      (last_move st s r g is n.end n.own.partner n.own.queued n.own.was (room c n shared.0) close_item free_record tt
      (λ k. omega (arith, slot_out c n k, none_held (in_slot k) refl (emptied g.slots c) own.1.1.0)) (λ k. omega arith)
      (λ r'. no_wait_here n.end r' free_record))

  -- ---- waiting

  wait_is : {a b : ℕ} → some (wait_item a) ≡ some (wait_item b) → a ≡ b
  wait_is {a} {b} h = cc

  -- get, hcase and fork: the record stands at the end on which its wait is
  wait_step : (wt : Wait) → wait_of d.instruction d.next ≡ some wt → over wt.slot ≡ false → empty wt.slot g ≡ false
      → NoCause (own_causes g d.instruction) → queue_full st wt.slot g ≡ false → Move st (waits st r g wt.slot) []
  wait_step wt named o h own full =
      let n = named_slot wt.slot o h in
      rw (n.holds, n.own.was)
      (last_move st s r g is n.end n.own.partner n.own.queued n.own.was (room wt.slot n full) (wait_item r) (waiting g) w
      (λ k. omega arith) (λ k. omega (arith, δ-sym k r))
      (λ r' z. subst (λ (q : ℕ). StandsAt st.code n.end (get_or (set st.records r (waiting g)) q free_record)) (wait_is z)
      (stands n.end n.holds)))
    where
      stands : (e : ℕ) → slot_at g wt.slot ≡ some e → StandsAt st.code e (get_or (set st.records r (waiting g)) r free_record)
      stands e q = record {
        held = g;
        waits = get_or-set_same st.records r (waiting g) free_record (running_in_list st r g is);
        there = d;
        decoded = there;
        wait = wt;
        named = named;
        holds = q;
        no_cause_is = own;
      }

  -- ---- new channels

  -- the slots with an end more, and one end out
  slots_for : (l : List (Option ℕ)) → length l ≡ length g.slots → RegistersWithin (registers d.next g.stack g.environment l)
  slots_for l n = record {
    place_within = next_within;
    stack_within = w.stack_within;
    environment_within = w.environment_within;
    stack_values = w.stack_values;
    environment_values = w.environment_values;
    slots_within = n ∙ w.slots_within;
  }

  in_slots : (c : ℕ) → over c ≡ false → c < length g.slots
  in_slots c o = omega (arith, leb-false slot_count c o, w.slots_within)

  split_step : (c a b : ℕ) → NoCause (own_causes g (split c a b)) → NoCause (shared_causes st g (split c a b))
      → FourFree st new.p new.q new.s new.t
      → Move st (after st r d.next g new (split c a b)) (instruction_events g new (split c a b))
  unfolding after own_causes shared_causes instruction_events
  split_step c a b own shared free =
      let n = named_slot c own.0 own.1.1.1.0 in
      let e_data = (subst EndWithin n.own.was (s.S1.ends_within n.end)).1 in
      let e_apart = subst (λ (x : EndState). mates n.end x ≡ 0) n.own.was ((mated_of_paired st s.S2).apart n.end) in
      let slots = split_slots g c a b new.p new.s in
      let total = split_total g c a b new.p new.s n.end n.holds n.in_list (in_slots a own.1.0)
      (in_slots b own.1.1.0)
      (eqb-false a b own.1.1.1.1.0) own.1.1.1.1.1.0 own.1.1.1.1.1.1.0 in
      rw (n.holds, n.own.was)
      (split_move st s r g is (registers d.next g.stack g.environment slots) n.end n.own.partner n.own.queued
      n.own.was
      new.p new.q new.s new.t free (room c n shared.0, e_data) e_apart
      (slots_for slots (length_split g c a b new.p new.s)) total)

  plug_step : (a m place m' place' : ℕ) → d.instruction ≡ plug a m place m' place' → NoCause (own_causes g (plug a m place m' place'))
      → TwoFree st new.p new.q → FreeRecord st new.record'
      → Move st (after st r d.next g new (plug a m place m' place')) (instruction_events g new (plug a m place m' place'))
  unfolding after own_causes instruction_events
  plug_step a m place m' place' q own free record_free =
      let operands = subst OperandsWithin q (decoded_within st.code s.S1.code_bytes g.place d there).operands in
      let l = in_slots a own.0 in
      plug_move st s r g is a m place m' place' new.p new.q new.record' free record_free
      (branch_within g w a m place new.p operands.0) (branch_within g w a m' place' new.q operands.1)
      (λ k. omega (
        arith,
        branch_total g a m place new.p l own.1.0 k,
        branch_total g a m' place' new.q l own.1.1.0 k,
        kept_total (in_slot k) refl m m' g.slots own.1.1.1.0 own.1.1.1.1.0,
      ))

  -- ---- same

  -- an own queue that is empty
  emptied_end : (c : ℕ) (n : Named c) → queue_not_empty st c g ≡ false → end_at st n.end ≡ used n.own.partner [] none
  emptied_end c n h =
      n.own.was ∙ ap (λ (ds : List Datum). used n.own.partner ds none)
      (go n.own.queued (subst (λ (x : EndState). ltb 0 (queue_length x) ≡ false) n.own.was
      (subst (λ (x : Option ℕ). ltb 0 (queue_length (end_at st (end_or end_count x))) ≡ false) n.holds h)))
    where
      go : (ds : List Datum) → ltb 0 (length ds) ≡ false → ds ≡ []
      go [] h = refl
      go (x ∷ xs) h = absurd (omega (arith, ltb-false 0 (length (x ∷ xs)) h))

  both_out : (c b : ℕ) (x : Named c) (y : Named b) → c ≢ b → others_than_both_held c b g ≡ false → (k : ℕ) → total (in_slot k) g.slots
      ≡ δ x.end k + δ y.end k
  both_out c b x y differ h k =
      let b_in : b < length (emptied g.slots c) = rw (length-set g.slots c none) y.in_list in
      let b_is = get_or-set_other g.slots c b none none (λ (z : b ≡ c). differ (sym z)) ∙ y.holds in
      omega (
        arith,
        slot_out c x k,
        emptied_total (in_slot k) refl (emptied g.slots c) b b_in,
        ap (in_slot k) b_is,
        δ-sym k y.end,
        none_held (in_slot k) refl (emptied (emptied g.slots c) b) h,
      )

  same_step : (c b : ℕ) → NoCause (own_causes g (same c b)) → NoCause (shared_causes st g (same c b))
      → Move st (after st r d.next g new (same c b)) []
  unfolding after own_causes shared_causes places_of
  same_step c b own shared =
      let x = named_slot c own.0 own.1.1.0 in
      let y = named_slot b own.1.0 own.1.1.1.0 in
      let out = both_out c b x y (eqb-false c b shared.0) own.1.1.1.1.0 in
      let x_was = emptied_end c x shared.1.1.0 in
      let y_was = emptied_end b y shared.1.1.1.0 in
      let differ : x.end ≢ y.end = λ z. absurd (omega (
        arith,
        out x.end,
        δ-same x.end,
        ap (λ (k : ℕ). δ k x.end) (sym z),
        ap (held_in x.end) is,
        total_one (held_in x.end) st.records r free_record refl,
        s.S3 x.end,
        ap in_use x_was,
      )) in
      let pm = partner_of_lem st s x.end x.own.partner [] none x_was in
      let pn = partner_of_lem st s y.end y.own.partner [] none y_was in
      let apart : x.own.partner ≢ y.end = eqb-false x.own.partner y.end (unmated c b x y x_was shared.1.0) in
      rw (x.holds, y.holds, x_was, y_was, pm.was, pn.was)
      (same_move st s r g is x.end y.end x.own.partner y.own.partner x_was y_was differ apart pm pn out)
    where
      unmated : (c b : ℕ) (x : Named c) (y : Named b) → end_at st x.end ≡ used x.own.partner [] none → partners st c b g ≡ false
          → eqb x.own.partner y.end ≡ false
      unmated c b x y was h =
          subst (λ (z : EndState). names (partner_of z) y.end ≡ false) was
          (subst (λ (z : Option ℕ). names (partner_of (end_at st (end_or end_count z))) y.end ≡ false) x.holds
          (subst (λ (z : Option ℕ). names (partner_of (end_at st (end_in g c))) (end_or end_count z) ≡ false) y.holds h))

  -- ---- every instruction

  pub instruction_move : (i : Instruction) → d.instruction ≡ i → NoCause (own_causes g i) → NoCause (shared_causes st g i)
      → FreshFor st new i
      → Move st (after st r d.next g new i) (instruction_events g new i)
  unfolding after instruction_events own_causes shared_causes
  instruction_move (cst v) q own shared free = cst_step v q own
  instruction_move (access n) q own shared free = access_step n own
  instruction_move store q own shared free = store_step own
  instruction_move add q own shared free = add_step own
  instruction_move mul q own shared free = mul_step own
  instruction_move leq q own shared free = leq_step own
  instruction_move (put c) q own shared free = put_step c own shared
  instruction_move (get c) q own shared free =
      wait_step (record { slot = c; wanted = a_value d.next }) (ap (λ (i : Instruction). wait_of i d.next) q) own.1.0
      own.1.1.0
      (subst (λ (i : Instruction). NoCause (own_causes g i)) (sym q) own) shared.0
  instruction_move (split c a b) q own shared free = split_step c a b own shared free
  instruction_move (fork c a m place b m' place') q own shared free =
      wait_step (record { slot = c; wanted = a_split a m place b m' place' }) (ap (λ (i : Instruction). wait_of i d.next) q) own.0
      own.1.1.1.0
      (subst (λ (i : Instruction). NoCause (own_causes g i)) (sym q) own) shared.0
  instruction_move (plug a m place m' place') q own shared free = plug_step a m place m' place' q own free.0 free.1
  instruction_move (close c) q own shared free = close_step c own shared
  instruction_move (halt c) q own shared free = halt_step c own shared
  instruction_move (same c b) q own shared free = same_step c b own shared
  instruction_move (hput c n) q own shared free = hput_step c n q own shared
  instruction_move (hcase c places) q own shared free =
      wait_step (record { slot = c; wanted = a_handle places }) (ap (λ (i : Instruction). wait_of i d.next) q) own.0 own.1.0
      (subst (λ (i : Instruction). NoCause (own_causes g i)) (sym q) own) shared.0
  instruction_move (run place n cs) q own shared free = run_step place n cs q own
