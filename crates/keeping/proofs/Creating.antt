-- split and plug are moves: new ends come in pairs, each with a place, and are the events `created`. Assumes nothing.
use mathlib.Core.Path.{◌≡◌, refl, sym, ap, ◌∙◌, subst}
use mathlib.Core.Logic.{◌≢◌}
use mathlib.Core.Bool.{Bool, false, not}
use mathlib.Core.Option.{Option, none, some}
use mathlib.Core.List.{List, [], ◌∷◌}
use Prim.Native.Nat.{ℕ, ◌+◌, ◌*◌, ◌<◌}
use native.Mathlib.Decide.{ℕ_discrete}
use native.Mathlib.Omega.{arith}
use lib.ListN.{length, get_or, length-set}
use lib.Seq.{get_or-set_same, get_or-set_other}
use borrow.Author.Tests.{eq-eqb, ne_eqb}
use Rattle.rules.specs.Limits.{place_count}
use Rattle.rules.specs.State.{State, Datum, Last, split_item, wait_item, free_end, used, fresh_end, Registers, free_record, running}
use Rattle.rules.specs.State.{record_at, end_at, set_record, set_end, slot_at}
use Rattle.rules.specs.Causes.{empty, taken, unless_same}
use Rattle.rules.specs.RecordStep.{branch}
use Rattle.rules.specs.Slots.{Slots, is_held, emptied, holding, in_set, kept_by}
use Rattle.rules.specs.Count.{δ, total}
use Rattle.rules.specs.Sound.{EndWithin, RegistersWithin, in_slot, Sound}
use Rattle.rules.specs.Events.{created}
use Rattle.rules.proofs.CountLaws.{δ-ne, δ-sym}
use Rattle.rules.proofs.TestLaws.{true_is_not_false}
use Rattle.keeping.specs.Queues.{about}
use Rattle.keeping.proofs.Move.{Move}
use Rattle.keeping.proofs.FreeLaws.{FreeEnd, FreeRecord, TwoFree, FourFree}
use Rattle.keeping.proofs.SlotLaws.{emptied_total, holding_total, kept_outside, length_kept}
use Rattle.keeping.proofs.Running.{used_not_free, used_in_list, running_in_list}

-- ---- small laws

-- being each other's partners is mutual
pub swapped : (p q k f : ℕ) → δ p k * δ f q ≡ δ q f * δ k p
swapped p q k f = rw (δ-sym p k, δ-sym f q) (omega arith)

fresh_within : (m : ℕ) → EndWithin (fresh_end m)
fresh_within m = (omega arith, λ i. omega arith)

pub no_last : {A : Type 0} {r : ℕ} → none ≡ some (wait_item r) → A
no_last z = absurd (let n : ◌≡◌ {A = ℕ} 0 1 = cc in omega arith)

no_split : {A : Type 0} {p q r : ℕ} → some (split_item p q) ≡ some (wait_item r) → A
no_split z = absurd (let n : ◌≡◌ {A = ℕ} 0 1 = cc in omega arith)

-- an end in use is no free one, a running record no free one
pub not_free : (st : State) (e p m : ℕ) (ds : List Datum) (l : Option Last) → end_at st e ≡ used m ds l → FreeEnd st p → e ≢ p
not_free st e p m ds l was f z = used_not_free (sym was ∙ ap (end_at st) z ∙ f.is_free)

running_not_free : (st : State) (r k : ℕ) (g : Registers) → record_at st r ≡ running g → FreeRecord st k → r ≢ k
running_not_free st r k g is f z = absurd
    (let n : running g ≡ free_record = sym is ∙ ap (record_at st) z ∙ f.is_free in let one : ◌≡◌ {A = ℕ} 0 1 = cc in omega arith)

-- slot a is empty once c is emptied, unless it was taken
taken_empty : (g : Registers) (a c : ℕ) → c < length g.slots → taken a c g ≡ false → get_or (emptied g.slots c) a none ≡ none
taken_empty g a c l h = go (ℕ_discrete a c)
  where
    empty_is : (x : Option ℕ) → not (not (is_held x)) ≡ false → x ≡ none
    empty_is none q = refl
    empty_is (some e) q = true_is_not_false refl q

    go : Dec (a ≡ c) → get_or (emptied g.slots c) a none ≡ none
    go (yes e) = rw e (get_or-set_same g.slots c none none l)
    go (no n) = get_or-set_other g.slots c a none none n
        ∙ empty_is (slot_at g a) (subst (λ (b : Bool). unless_same b (not (empty a g)) ≡ false) (ne_eqb a c n) h)

-- ---- branches

-- a branch is within the limits
pub branch_within : (g : Registers) → RegistersWithin g → (a m place e : ℕ) → place < place_count → RegistersWithin (branch g a m place e)
branch_within g w a m place e h = record {
  place_within = h;
  stack_within = omega arith;
  environment_within = w.environment_within;
  stack_values = λ i. omega arith;
  environment_values = w.environment_values;
  slots_within = length-set (kept_by m g.slots) a (some e) ∙ length_kept m g.slots ∙ w.slots_within;
}

-- a branch holds the slots of its m and the new end
pub branch_total : (g : Registers) (a m place e : ℕ) → a < length g.slots → in_set m a ≡ false → (k : ℕ)
    → total (in_slot k) (branch g a m place e).slots ≡ total (in_slot k) (kept_by m g.slots) + δ k e
branch_total g a m place e l h k =
    holding_total (in_slot k) refl (kept_by m g.slots) a e (omega (arith, length_kept m g.slots)) (kept_outside m g.slots a h)

-- ---- split

-- the slots afterwards: c emptied, then p in a and u in b
abbrev pub split_slots : Registers → (c a b p u : ℕ) → Slots
split_slots g c a b p u = holding (holding (emptied g.slots c) a p) b u

pub length_split : (g : Registers) (c a b p u : ℕ) → length (split_slots g c a b p u) ≡ length g.slots
length_split g c a b p u =
    length-set (holding (emptied g.slots c) a p) b (some u) ∙ length-set (emptied g.slots c) a (some p) ∙ length-set g.slots c none

pub split_total : (g : Registers) (c a b p u e : ℕ) → slot_at g c ≡ some e → c < length g.slots → a < length g.slots
    → b < length g.slots → a ≢ b
    → taken a c g ≡ false → taken b c g ≡ false → (k : ℕ) → total (in_slot k) (split_slots g c a b p u) + δ e k
    ≡ total (in_slot k) g.slots + δ k p + δ k u
split_total g c a b p u e holds lc la lb differ ta tb k =
    let b_empty = get_or-set_other (emptied g.slots c) a b (some p) none (λ (z : b ≡ a). differ (sym z)) ∙ taken_empty g b c lc tb in
    let lb' : b < length (holding (emptied g.slots c) a p) = rw
    (length-set (emptied g.slots c) a (some p), length-set g.slots c none) lb in
    let la' : a < length (emptied g.slots c) = rw (length-set g.slots c none) la in
    omega (
      arith,
      holding_total (in_slot k) refl (holding (emptied g.slots c) a p) b u lb' b_empty,
      holding_total (in_slot k) refl (emptied g.slots c) a p la' (taken_empty g a c lc ta),
      emptied_total (in_slot k) refl g.slots c lc,
      ap (in_slot k) holds,
      δ-sym k e,
    )

module _ (st : State) (s : Sound st) (r : ℕ) (g : Registers) (is : record_at st r ≡ running g) where
  module _ (g' : Registers) (e m : ℕ) (ds : List Datum) (was : end_at st e ≡ used m ds none) (p q u t : ℕ)
      (free : FourFree st p q u t) where
    pub split_move : EndWithin (used m ds (some (split_item q t))) → δ e m ≡ 0 → RegistersWithin g'
        → ((k : ℕ) → total (in_slot k) g'.slots + δ e k ≡ total (in_slot k) g.slots + δ k p + δ k u)
        → Move st
        (set_record
        (set_end (set_end (set_end (set_end (set_end st e (used m ds (some (split_item q t)))) p (fresh_end q)) q (fresh_end p)) u
        (fresh_end t)) t (fresh_end u))
        r
        (running g'))
        (created p ∷ created q ∷ created u ∷ created t ∷ [])
    unfolding about
    split_move e-within e_apart w places = record {
      ends =
          (e, used m ds none, used m ds (some (split_item q t)))
          ∷ (p, free_end, fresh_end q)
          ∷ (q, free_end, fresh_end p)
          ∷ (u, free_end, fresh_end t)
          ∷ (t, free_end, fresh_end u)
          ∷ [];
      records = (r, running g, running g') ∷ [];
      is = refl;
      meets = record {
        ends_were = (
          was,
          used_in_list st e m ds none was,
          (ep, (eq, (eu, (et, tt)))),
          (
            fp.is_free,
            fp.in_list,
            (pq, (pu, (pt, tt))),
            (fq.is_free, fq.in_list, (qu, (qt, tt)), (fu.is_free, fu.in_list, (ut, tt), (ft.is_free, ft.in_list, tt, tt))),
          ),
        );
        records_were = (is, running_in_list st r g is, tt, tt);
        ends_ok = (e-within, (fresh_within q, (fresh_within p, (fresh_within t, (fresh_within u, tt)))));
        records_ok = (w, tt);
        apart_ok = (e_apart, (δ-ne p q pq, (δ-ne q p (λ z. pq (sym z)), (δ-ne u t ut, (δ-ne t u (λ z. ut (sym z)), tt)))));
        mutual_ok = λ k f. omega (arith, swapped p q k f, swapped q p k f, swapped u t k f, swapped t u k f);
        places_ok = λ k. omega (arith, places k, δ-sym k p, δ-sym k q, δ-sym k u, δ-sym k t);
        waits_ok = λ k. omega arith;
        waits_were = (refl, tt);
        stands_ok = ((λ k z. no_split z), ((λ k z. no_last z), ((λ k z. no_last z), ((λ k z. no_last z), ((λ k z. no_last z), tt)))));
      };
      queues = (
        rw (ne_eqb p e (λ z. ep (sym z)), ne_eqb q e (λ z. eq (sym z)), ne_eqb u e (λ z. eu (sym z)), ne_eqb t e (λ z. et (sym z)))
            (refl, λ z. used_not_free z),
        (
          rw (eq-eqb p p refl, ne_eqb q p (λ z. pq (sym z)), ne_eqb u p (λ z. pu (sym z)), ne_eqb t p (λ z. pt (sym z))) (refl, refl, refl),
          (
            rw (ne_eqb p q pq, eq-eqb q q refl, ne_eqb u q (λ z. qu (sym z)), ne_eqb t q (λ z. qt (sym z))) (refl, refl, refl),
            (
              rw (ne_eqb p u pu, ne_eqb q u qu, eq-eqb u u refl, ne_eqb t u (λ z. ut (sym z))) (refl, refl, refl),
              (rw (ne_eqb p t pt, ne_eqb q t qt, ne_eqb u t ut, eq-eqb t t refl) (refl, refl, refl), tt),
            ),
          ),
        ),
      );
      others = λ k o. rw (
        ne_eqb p k (λ z. o.1.0 (sym z)),
        ne_eqb q k (λ z. o.1.1.0 (sym z)),
        ne_eqb u k (λ z. o.1.1.1.0 (sym z)),
        ne_eqb t k (λ z. o.1.1.1.1.0 (sym z)),
      );
    }
      where
        fp : FreeEnd st p
        fp = free.first_two.p_free

        fq : FreeEnd st q
        fq = free.first_two.q_free

        fu : FreeEnd st u
        fu = free.last_two.p_free

        ft : FreeEnd st t
        ft = free.last_two.q_free

        ep : e ≢ p
        ep = not_free st e p m ds none was fp

        eq : e ≢ q
        eq = not_free st e q m ds none was fq

        eu : e ≢ u
        eu = not_free st e u m ds none was fu

        et : e ≢ t
        et = not_free st e t m ds none was ft

        pq : p ≢ q
        pq z = omega (arith, free.first_two.p_below_q)

        pu : p ≢ u
        pu z = omega (arith, free.first_two.p_below_q, free.q_below_s)

        pt : p ≢ t
        pt z = omega (arith, free.first_two.p_below_q, free.q_below_s, free.last_two.p_below_q)

        qu : q ≢ u
        qu z = omega (arith, free.q_below_s)

        qt : q ≢ t
        qt z = omega (arith, free.q_below_s, free.last_two.p_below_q)

        ut : u ≢ t
        ut z = omega (arith, free.last_two.p_below_q)

  -- ---- plug

  module _ (a m place m' place' p q k' : ℕ) (free : TwoFree st p q) (record_free : FreeRecord st k') where
    pub plug_move : RegistersWithin (branch g a m place p) → RegistersWithin (branch g a m' place' q)
        → ((k : ℕ) → total (in_slot k) (branch g a m place p).slots + total (in_slot k) (branch g a m' place' q).slots
        ≡ total (in_slot k) g.slots + δ k p + δ k q)
        → Move st
        (set_record (set_record (set_end (set_end st p (fresh_end q)) q (fresh_end p)) r (running (branch g a m place p))) k'
        (running (branch g a m' place' q)))
        (created p ∷ created q ∷ [])
    unfolding about
    plug_move w w' places = record {
      ends = (p, free_end, fresh_end q) ∷ (q, free_end, fresh_end p) ∷ [];
      records = (r, running g, running (branch g a m place p)) ∷ (k', free_record, running (branch g a m' place' q)) ∷ [];
      is = refl;
      meets = record {
        ends_were = (free.p_free.is_free, free.p_free.in_list, (pq, tt), (free.q_free.is_free, free.q_free.in_list, tt, tt));
        records_were = (is, running_in_list st r g is, (rk, tt), (record_free.is_free, record_free.in_list, tt, tt));
        ends_ok = (fresh_within q, (fresh_within p, tt));
        records_ok = (w, (w', tt));
        apart_ok = (δ-ne p q pq, (δ-ne q p (λ z. pq (sym z)), tt));
        mutual_ok = λ k f. omega (arith, swapped p q k f, swapped q p k f);
        places_ok = λ k. omega (arith, places k, δ-sym k p, δ-sym k q);
        waits_ok = λ k. omega arith;
        waits_were = (refl, (refl, tt));
        stands_ok = ((λ k z. no_last z), ((λ k z. no_last z), tt));
      };
      queues = (
        rw (eq-eqb p p refl, ne_eqb q p (λ z. pq (sym z)))
            (refl, refl, refl),
        (rw (ne_eqb p q pq, eq-eqb q q refl) (refl, refl, refl), tt),
      );
      others = λ k o. rw (ne_eqb p k (λ z. o.0 (sym z)), ne_eqb q k (λ z. o.1.0 (sym z)));
    }
      where
        pq : p ≢ q
        pq z = omega (arith, free.p_below_q)

        rk : r ≢ k'
        rk = running_not_free st r k' g is record_free
