-- same over plain variables: which ends stand in its two slots, what its rows say of them, and the state with the two joined. Assumes
-- nothing.
use mathlib.Core.Path.{◌≡◌, refl, sym, ap, ◌∙◌, subst}
use mathlib.Core.Logic.{◌≢◌}
use mathlib.Core.Bool.{false}
use mathlib.Core.Option.{none}
use mathlib.Core.List.{List, [], ◌∷◌}
use Prim.Native.Nat.{ℕ}
use native.Mathlib.Omega.{arith}
use lib.Dec.{ltb}
use borrow.Author.Tests.{eqb-false, ltb-false}
use Rattle.rules.specs.State.{State, Datum, EndState, used, Registers, free_record, running, record_at, end_at, set_record}
use Rattle.rules.specs.State.{end_in, queue_length, partner_of}
use Rattle.rules.specs.Refusal.{refused, done, NoCause}
use Rattle.rules.specs.Instruction.{same}
use Rattle.rules.specs.Causes.{names, own_causes, shared_causes}
use Rattle.rules.specs.RecordStep.{lowest_free, after, joined}
use Rattle.rules.specs.Ask.{answer_to}
use Rattle.rules.specs.Count.{δ}
use Rattle.rules.specs.Sound.{in_slot, held_in, in_use, places_of, Sound}
use Rattle.rules.proofs.CountLaws.{δ-same, total_one, total_two}
use Rattle.keeping.proofs.LayoutLaws.{Sized}
use Rattle.ends.proofs.Changes.{sized_anew}
use Rattle.causes.specs.Own.{own_reply}
use Rattle.causes.proofs.Shared.{none_holds, one_holds, goes_on, own_done}
use Rattle.stepping.proofs.OwnEnds.{SlotEnd, slot_end}
use Rattle.processes.specs.Joinable.{shared_reply, Joinable}

-- ---- same c d, with none of the rows 5 to 11 holding

module _ (st : State) (s : Sound st) (r : ℕ) (g : Registers) (is : record_at st r ≡ running g) where
  module _ (c d : ℕ) (passes : own_reply g (same c d) ≡ done tt) where
    own : NoCause (own_causes g (same c d))
    own = none_holds (own_causes g (same c d)) passes

    pub first_end : SlotEnd st g c
    unfolding own_causes
    first_end = slot_end st s r g is c own.1.1.0

    pub second_end : SlotEnd st g d
    unfolding own_causes
    second_end = slot_end st s r g is d own.1.1.1.0

    -- one end is in one slot
    two_ends : c ≢ d → end_in g c ≢ end_in g d
    unfolding places_of
    two_ends n z =
        let x = end_in g c in
        absurd (omega (
          arith,
          total_two (in_slot x) g.slots c d none refl n,
          ap (in_slot x) first_end.holds,
          ap (in_slot x) second_end.holds,
          ap (δ x) (sym z),
          δ-same x,
          ap (held_in x) is,
          total_one (held_in x) st.records r free_record refl,
          s.S3 x,
          ap in_use first_end.was,
        ))

    nothing_queued : (e m : ℕ) (ds : List Datum) → end_at st e ≡ used m ds none → ltb 0 (queue_length (end_at st e)) ≡ false
        → end_at st e ≡ used m [] none
    nothing_queued e m [] was h = was
    nothing_queued e m (x ∷ ds) was h = absurd (omega (arith, ltb-false 0 (queue_length (end_at st e)) h, ap queue_length was))

    pub joinable : shared_reply st g (same c d) ≡ done tt → Joinable st (end_in g c) (end_in g d)
    unfolding shared_causes
    joinable e =
        let free = none_holds (shared_causes st g (same c d)) e in
        let mated = subst (λ (y : EndState). names (partner_of y) (end_in g d) ≡ false) first_end.was free.1.0 in
        record {
          x_partner = first_end.partner;
          y_partner = second_end.partner;
          x_was = nothing_queued _ _ _ first_end.was free.1.1.0;
          y_was = nothing_queued _ _ _ second_end.was free.1.1.1.0;
          differ = two_ends (eqb-false c d free.0);
          apart = eqb-false first_end.partner (end_in g d) mated;
        }

    pub shared_refused : (next n : ℕ) → shared_reply st g (same c d) ≡ refused n → answer_to st r next g (same c d) ≡ refused n
    shared_refused next n e = own_done st r next g (same c d) passes ∙ one_holds (shared_causes st g (same c d)) _ n e

    pub same_done : (next : ℕ) → shared_reply st g (same c d) ≡ done tt
        → answer_to st r next g (same c d) ≡ done (after st r next g (lowest_free st) (same c d))
    same_done next e = own_done st r next g (same c d) passes ∙ goes_on (shared_causes st g (same c d)) _ e

-- ---- the state with two ends joined

pub sized_joined : (st : State) (x y : ℕ) → Sized st → Sized (joined st x y)
sized_joined st x y z = sized_anew _ _ _ (sized_anew _ _ _ (sized_anew _ y _ (sized_anew st x _ z)))

-- the state after same c d, by the ends that the code found in c and d
pub same_after : (st : State) (r next : ℕ) (g : Registers) (c d x y : ℕ) → x ≡ end_in g c → y ≡ end_in g d
    → set_record (joined st x y) r free_record ≡ after st r next g (lowest_free st) (same c d)
unfolding after
same_after st r next g c d x y xe ye = rw (xe, ye)
