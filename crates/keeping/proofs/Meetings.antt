-- The steps at an end are moves: a datum delivered, a split divided, two closes. Assumes nothing.
use mathlib.Core.Path.{◌≡◌, refl, sym, ap, ◌∙◌, subst}
use mathlib.Core.Logic.{◌≢◌}
use mathlib.Core.Option.{Option, none, some}
use mathlib.Core.List.{List, [], ◌∷◌}
use Prim.Native.Nat.{ℕ, suc, ◌+◌}
use native.Mathlib.Omega.{arith}
use lib.ListN.{get_or, set}
use lib.Seq.{get_or-set_other}
use borrow.Author.Tests.{eq-eqb, ne_eqb}
use Rattle.rules.specs.State.{State, Datum, Last, split_item, close_item, wait_item, EndState, free_end, used, Registers, free_record}
use Rattle.rules.specs.State.{running, waiting, record_at, end_at, set_record, set_end, last_of}
use Rattle.rules.specs.Count.{δ, total}
use Rattle.rules.specs.Sound.{EndWithin, RegistersWithin, in_slot, named_by, waits_naming, is_waiting, StandsAt, Sound}
use Rattle.rules.specs.Events.{taken_from}
use Rattle.rules.proofs.CountLaws.{δ-same, δ-ne, δ-sym, total_two}
use Rattle.keeping.specs.Queues.{about}
use Rattle.keeping.proofs.Pairs.{mates, mated_of_paired}
use Rattle.keeping.proofs.Move.{Move}
use Rattle.keeping.proofs.FreeLaws.{FreeRecord}
use Rattle.keeping.proofs.Running.{used_not_free, used_in_list, waiting_in_list}
use Rattle.keeping.proofs.Creating.{swapped, no_last}

-- ---- a pair of ends, the second with a wait for record r alone on its queue

module _ (st : State) (s : Sound st) (e f r : ℕ) (g : Registers) (f_was : end_at st f ≡ used e [] (some (wait_item r)))
    (is : record_at st r ≡ waiting g) where
  -- the other waits that name the record: there are none
  unnamed : (k m : ℕ) (ds : List Datum) (l : Option Last) → k ≢ f → end_at st k ≡ used m ds l → named_by r (used m ds l) ≡ 0
  unfolding waits_naming
  unnamed k m ds l differ was = omega (
    arith,
    total_two (named_by r) st.ends k f free_end refl differ,
    ap (named_by r) was,
    ap (named_by r) f_was,
    δ-same r,
    s.S4 r,
    ap is_waiting is,
  )

  f_apart : mates f (used e [] none) ≡ 0
  f_apart = subst (λ (x : EndState). mates f x ≡ 0) f_was ((mated_of_paired st s.S2).apart f)

  -- a datum: it is taken from the head of e, the wait is removed, the record runs with the registers g'
  pub deliver_move : (d : Datum) (ds : List Datum) (l : Option Last) (g' : Registers) → end_at st e ≡ used f (d ∷ ds) l → e ≢ f
      → RegistersWithin g'
      → ((k : ℕ) → total (in_slot k) g'.slots ≡ total (in_slot k) g.slots)
      → Move st (set_record (set_end (set_end st e (used f ds l)) f (used e [] none)) r (running g')) (taken_from e d ∷ [])
  unfolding about
  deliver_move d ds l g' e-was differ w places = record {
    ends = (e, used f (d ∷ ds) l, used f ds l) ∷ (f, used e [] (some (wait_item r)), used e [] none) ∷ [];
    records = (r, waiting g, running g') ∷ [];
    is = refl;
    meets = record {
      ends_were = (
        e-was,
        used_in_list st e f (d ∷ ds) l
            e-was,
        (differ, tt),
        (f_was, used_in_list st f e [] (some (wait_item r)) f_was, tt, tt),
      );
      records_were = (is, waiting_in_list st r g is, tt, tt);
      ends_ok = (shorter l (subst EndWithin e-was (s.S1.ends_within e)), ((omega arith, λ i. omega arith), tt));
      records_ok = (w, tt);
      apart_ok = (subst (λ (x : EndState). mates e x ≡ 0) e-was ((mated_of_paired st s.S2).apart e), (f_apart, tt));
      mutual_ok = λ k j. omega arith;
      places_ok = λ k. omega (arith, places k);
      waits_ok = λ k. omega (arith, δ-sym k r);
      waits_were = (omega (arith, unnamed e f (d ∷ ds) l differ e-was, δ-same r), tt);
      stands_ok = (still, ((λ k z. no_last z), tt));
    };
    queues = (
      rw (eq-eqb e e refl) (refl, refl, refl),
      (rw (ne_eqb e f differ) (refl, λ z. used_not_free z), tt),
    );
    others = λ k o. rw (ne_eqb e k (λ z. o.0 (sym z)));
  }
    where
      shorter : (l : Option Last) → EndWithin (used f (d ∷ ds) l) → EndWithin (used f ds l)
      shorter none h = (omega (arith, h.0), λ i. h.1 (suc i))
      shorter (some k) h = (omega (arith, h.0), λ i. h.1 (suc i))

      -- a wait behind the datum names another record, which stays
      still : (k : ℕ) → l ≡ some (wait_item k) → StandsAt st.code e (get_or (set st.records r (running g')) k free_record)
      still k z =
          let there = s.S5 e k (ap last_of e-was ∙ z) in
          let other : k ≢ r = λ (q : k ≡ r). absurd
          (omega (
            arith,
            unnamed e f (d ∷ ds) l differ e-was,
            ap (λ (x : Option Last). named_by r (used f (d ∷ ds) x)) z,
            ap
                (δ r) q,
            δ-same r,
          )) in
          rw (get_or-set_other st.records r k (running g') free_record other) there

  -- a split: both ends of the pair go out of use, the record runs with the first branch, a free one with the second
  pub divide_move : (p q r' : ℕ) (g₁ g₂ : Registers) → end_at st e ≡ used f [] (some (split_item p q)) → e ≢ f → FreeRecord st r'
      → RegistersWithin g₁ → RegistersWithin g₂
      → ((k : ℕ) → total (in_slot k) g₁.slots + total (in_slot k) g₂.slots + δ f k ≡ total (in_slot k) g.slots + δ k p + δ k q)
      → Move st (set_record (set_record (set_end (set_end st e free_end) f free_end) r (running g₁)) r' (running g₂)) []
  unfolding about
  divide_move p q r' g₁ g₂ e-was differ free w₁ w₂ places = record {
    ends = (e, used f [] (some (split_item p q)), free_end) ∷ (f, used e [] (some (wait_item r)), free_end) ∷ [];
    records = (r, waiting g, running g₁) ∷ (r', free_record, running g₂) ∷ [];
    is = refl;
    meets = record {
      ends_were = (
        e-was,
        used_in_list st e f []
            (some (split_item p q)) e-was,
        (differ, tt),
        (f_was, used_in_list st f e [] (some (wait_item r)) f_was, tt, tt),
      );
      records_were = (is, waiting_in_list st r g is, (other, tt), (free.is_free, free.in_list, tt, tt));
      ends_ok = (tt, (tt, tt));
      records_ok = (w₁, (w₂, tt));
      apart_ok = (refl, (refl, tt));
      mutual_ok = λ k j. omega (arith, swapped e f k j, swapped f e k j);
      places_ok = λ k. omega (arith, places k);
      waits_ok = λ k. omega (arith, δ-sym k r);
      waits_were = (omega (arith, δ-same r), (unnamed_free, tt));
      stands_ok = ((λ k z. no_last z), ((λ k z. no_last z), tt));
    };
    queues = ((refl, λ z. refl), ((refl, λ z. refl), tt));
    others = λ k o. refl;
  }
    where
      other : r ≢ r'
      other z = absurd (omega (arith, ap is_waiting (sym is ∙ ap (record_at st) z ∙ free.is_free)))

      unnamed_free : 0 ≡ 0 + (δ r' r + 0)
      unnamed_free = omega (arith, δ-ne r' r (λ z. other (sym z)))

-- ---- close against close

pub close_move : (st : State) → Sound st → (e f : ℕ) → end_at st e ≡ used f [] (some close_item) → end_at st f ≡ used e [] (some close_item)
    → e ≢ f
    → Move st (set_end (set_end st e free_end) f free_end) []
unfolding about
close_move st s e f e-was f_was differ = record {
  ends = (e, used f [] (some close_item), free_end) ∷ (f, used e [] (some close_item), free_end) ∷ [];
  records = [];
  is = refl;
  meets = record {
    ends_were = (
      e-was,
      used_in_list st e f []
          (some close_item) e-was,
      (differ, tt),
      (f_was, used_in_list st f e [] (some close_item) f_was, tt, tt),
    );
    records_were = tt;
    ends_ok = (tt, (tt, tt));
    records_ok = tt;
    apart_ok = (refl, (refl, tt));
    mutual_ok = λ k j. omega (arith, swapped e f k j, swapped f e k j);
    places_ok = λ k. omega arith;
    waits_ok = λ k. refl;
    waits_were = tt;
    stands_ok = ((λ k z. no_last z), ((λ k z. no_last z), tt));
  };
  queues = ((refl, λ z. refl), ((refl, λ z. refl), tt));
  others = λ k o. refl;
}
