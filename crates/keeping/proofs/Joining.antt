-- same is a move: two ends with empty queues go out of use, their partners become partners of each other, and nothing queued moves.
-- Assumes nothing.
use mathlib.Core.Path.{◌≡◌, refl, sym, ap, ◌∙◌, subst}
use mathlib.Core.Logic.{◌≢◌}
use mathlib.Core.Option.{Option, none, some}
use mathlib.Core.List.{List, [], ◌∷◌}
use Prim.Native.Nat.{ℕ, ◌+◌}
use native.Mathlib.Omega.{arith}
use lib.ListN.{get_or, set}
use lib.Seq.{get_or-set_other}
use Rattle.rules.specs.State.{State, Datum, Last, wait_item, EndState, free_end, used, Registers, free_record, running, record_at, end_at}
use Rattle.rules.specs.State.{set_record, set_end, last_of, partner_of}
use Rattle.rules.specs.Count.{δ, total}
use Rattle.rules.specs.Sound.{EndWithin, in_slot, named_by, waits_naming, is_waiting, Paired, StandsAt, Sound}
use Rattle.rules.proofs.CountLaws.{δ-ne, total_one}
use Rattle.keeping.specs.Queues.{about}
use Rattle.keeping.proofs.Move.{Move}
use Rattle.keeping.proofs.Running.{used_not_free, used_in_list, running_in_list}
use Rattle.keeping.proofs.Creating.{swapped, no_last}

-- the partner of an end in use, as the state has it
pub record PartnerOf (st : State) (e m : ℕ) : Type 0 where
  pub queued : List Datum
  pub final : Option Last
  pub was : end_at st m ≡ used e queued final
  pub differs : m ≢ e

pub partner_of_lem : (st : State) → Sound st → (e m : ℕ) (ds : List Datum) (l : Option Last) → end_at st e ≡ used m ds l → PartnerOf st e m
partner_of_lem st s e m ds l was = go (end_at st m) refl
  where
    pair : (m ≢ e) × (partner_of (end_at st m) ≡ some e)
    pair = subst (Paired st e) was (s.S2 e)

    go : (x : EndState) → end_at st m ≡ x → PartnerOf st e m
    go free_end q = absurd (let z : none ≡ some e = sym (ap partner_of q) ∙ pair.1 in let n : ◌≡◌ {A = ℕ} 0 1 = cc in omega arith)
    go (used e' ds' l') q =
        let z : some e' ≡ some e = sym (ap partner_of q) ∙ pair.1 in
        let same : e' ≡ e = cc in
        record { queued = ds'; final = l'; was = q ∙ ap (λ (k : ℕ). used k ds' l') same; differs = pair.0 }

-- what names a partner names one end
one_partner : {a b : ℕ} {ds es : List Datum} {k l : Option Last} → used a ds k ≡ used b es l → a ≡ b
one_partner h = let z : some _ ≡ some _ = ap partner_of h in some_is z
  where
    some_is : {a b : ℕ} → some a ≡ some b → a ≡ b
    some_is {a} {b} h = cc

module _ (st : State) (s : Sound st) (r : ℕ) (g : Registers) (is : record_at st r ≡ running g) (x y m n : ℕ)
    (x_was : end_at st x ≡ used m [] none) (y_was : end_at st y ≡ used n [] none) (differ : x ≢ y) (apart : m ≢ y)
    (pm : PartnerOf st x m) (pn : PartnerOf st y n) (places : (k : ℕ) → total (in_slot k) g.slots ≡ δ x k + δ y k) where
  nx : n ≢ x
  nx z = apart (one_partner (sym x_was ∙ ap (end_at st) (sym z) ∙ pn.was))

  mn : m ≢ n
  mn z = differ (one_partner (sym pm.was ∙ ap (end_at st) z ∙ pn.was))

  -- no wait names the record, as it runs
  unnamed : (e q : ℕ) (ds : List Datum) (l : Option Last) → end_at st e ≡ used q ds l → named_by r (used q ds l) ≡ 0
  unfolding waits_naming
  unnamed e q ds l was =
      omega (arith, ap (named_by r) was, total_one (named_by r) st.ends e free_end refl, s.S4 r, ap is_waiting is)

  -- a wait on an end that is joined names another record, which stays
  still_stands : (e q : ℕ) (ds : List Datum) (l : Option Last) → end_at st e ≡ used q ds l → (r' : ℕ) → l ≡ some (wait_item r')
      → StandsAt st.code e (get_or (set st.records r free_record) r' free_record)
  still_stands e q ds l was r' z =
      let there = s.S5 e r' (ap last_of was ∙ z) in
      let other : r' ≢ r = λ (k : r' ≡ r). absurd (omega (arith, ap is_waiting (sym there.waits ∙ ap (record_at st) k ∙ is))) in
      rw (get_or-set_other st.records r r' free_record free_record other) there

  pub same_move : Move st
      (set_record (set_end (set_end (set_end (set_end st x free_end) y free_end) m (used n pm.queued pm.final)) n
      (used m pn.queued pn.final)) r free_record)
      []
  unfolding about
  same_move = record {
    ends =
        (x, used m [] none, free_end)
        ∷ (y, used n [] none, free_end)
        ∷ (m, used x pm.queued pm.final, used n pm.queued pm.final)
        ∷ (n, used y pn.queued pn.final, used m pn.queued pn.final)
        ∷ [];
    records = (r, running g, free_record) ∷ [];
    is = refl;
    meets = record {
      ends_were = (
        x_was,
        used_in_list st x m [] none x_was,
        (differ, ((λ z. pm.differs (sym z)), ((λ z. nx (sym z)), tt))),
        (
          y_was,
          used_in_list st y n [] none y_was,
          ((λ z. apart (sym z)), ((λ z. pn.differs (sym z)), tt)),
          (
            pm.was,
            used_in_list st m x pm.queued pm.final
                pm.was,
            (mn, tt),
            (pn.was, used_in_list st n y pn.queued pn.final pn.was, tt, tt),
          ),
        ),
      );
      records_were = (is, running_in_list st r g is, tt, tt);
      ends_ok = (tt, (tt, (kept m x pm.queued pm.final pm.was n, (kept n y pn.queued pn.final pn.was m, tt))));
      records_ok = (tt, tt);
      apart_ok = (refl, (refl, (δ-ne m n mn, (δ-ne n m (λ z. mn (sym z)), tt))));
      mutual_ok = λ k f. omega (
        arith,
        swapped m n k f,
        swapped n m k f,
        swapped x m k f,
        swapped m x k f,
        swapped y n k f,
        swapped n y k
            f,
      );
      places_ok = λ k. omega (arith, places k);
      waits_ok = λ k. omega arith;
      waits_were = (omega (arith, unnamed m x pm.queued pm.final pm.was, unnamed n y pn.queued pn.final pn.was), tt);
      stands_ok = (
        (λ r' z. no_last z),
        (
          (λ r' z. no_last z),
          (still_stands m x pm.queued pm.final pm.was, (still_stands n y pn.queued pn.final pn.was, tt)),
        ),
      );
    };
    queues = ((refl, λ z. refl), ((refl, λ z. refl), ((refl, λ z. used_not_free z), ((refl, λ z. used_not_free z), tt))));
    others = λ k o. refl;
  }
    where
      -- another partner leaves a queue within the limits
      kept : (e q : ℕ) (ds : List Datum) (l : Option Last) → end_at st e ≡ used q ds l → (q' : ℕ) → EndWithin (used q' ds l)
      kept e q ds l was q' = same_queue ds l (subst EndWithin was (s.S1.ends_within e))
        where
          same_queue : (ds : List Datum) (l : Option Last) → EndWithin (used q ds l) → EndWithin (used q' ds l)
          same_queue ds none h = h
          same_queue ds (some k) h = h
