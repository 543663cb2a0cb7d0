-- Which test leads to which answer at an end, over plain variables: 16 to 19 in their order, or the state after. Assumes nothing.
use mathlib.Core.Path.{◌≡◌, subst, sym}
use mathlib.Core.Bool.{true, false}
use mathlib.Core.Option.{none, some}
use Prim.Native.Nat.{ℕ}
use lib.Dec.{leb}
use Rattle.rules.specs.Limits.{end_count}
use Rattle.rules.specs.State.{State, Datum, Item, Registers, running, end_at, set_record, set_end, head_of, behind_head, is_free_end}
use Rattle.rules.specs.State.{lowest_free_record}
use Rattle.rules.specs.Refusal.{refused, done, unless}
use Rattle.rules.specs.Causes.{no_free_record}
use Rattle.rules.specs.RecordStep.{partner_in}
use Rattle.rules.specs.EndStep.{Meeting, mismatch, delivers, divides, closes, meet_heads, meeting, freed, end_causes, after_meeting}
use Rattle.rules.specs.Ask.{ask_end}
use Rattle.meetings.specs.Stepped.{ask_met}

-- ---- once both heads are there

module _ (st : State) (e f : ℕ) {v : Meeting} where
  pub met_mismatch : v ≡ mismatch → ask_met st e f v ≡ refused 18
  unfolding ask_met unless
  met_mismatch q = rw q

  pub met_delivers : {from to r : ℕ} {d : Datum} {g : Registers} → v ≡ delivers from to r d g
      → ask_met st e f v
      ≡ done (set_record (set_end (set_end st from (behind_head (end_at st from))) to (behind_head (end_at st to))) r (running g))
  unfolding ask_met unless after_meeting
  met_delivers q = rw q

  pub met_divides : {r new : ℕ} {g g' : Registers} → v ≡ divides r g g' → no_free_record st ≡ false → new ≡ lowest_free_record st
      → ask_met st e f v ≡ done (set_record (set_record (freed st e f) r (running g)) new (running g'))
  unfolding ask_met unless after_meeting
  met_divides q h z = rw (q, h, z)

  pub met_no_record : {r : ℕ} {g g' : Registers} → v ≡ divides r g g' → no_free_record st ≡ true → ask_met st e f v ≡ refused 19
  unfolding ask_met unless
  met_no_record q h = rw (q, h)

  pub met_closes : v ≡ closes → ask_met st e f v ≡ done (freed st e f)
  unfolding ask_met unless after_meeting
  met_closes q = rw q

-- ---- an end

module _ (st : State) (e : ℕ) where
  pub over_the_last : leb end_count e ≡ true → ask_end st e ≡ refused 16
  unfolding ask_end end_causes unless
  over_the_last over = rw over

  module _ (within : leb end_count e ≡ false) where
    pub end_free : is_free_end (end_at st e) ≡ true → ask_end st e ≡ refused 16
    unfolding ask_end end_causes unless
    end_free free = rw (within, free)

    module _ (in_use : is_free_end (end_at st e) ≡ false) where
      pub own_empty : head_of (end_at st e) ≡ none → ask_end st e ≡ refused 17
      unfolding ask_end end_causes unless
      own_empty h = rw (within, in_use, h)

      -- f is the partner
      module _ (f : ℕ) (partner : f ≡ partner_in st e) {x : Item} (own : head_of (end_at st e) ≡ some x) where
        pub partner_empty : head_of (end_at st f) ≡ none → ask_end st e ≡ refused 17
        unfolding ask_end end_causes unless
        partner_empty h = rw (within, in_use, own, subst (λ (k : ℕ). head_of (end_at st k) ≡ none) partner h)

        pub both_head : {y : Item} → head_of (end_at st f) ≡ some y → ask_end st e ≡ ask_met st e f (meet_heads st e f (some x) (some y))
        unfolding ask_end end_causes meeting ask_met unless
        both_head {y} h =
            subst (λ (k : ℕ). ask_end st e ≡ ask_met st e k (meet_heads st e k (some x) (some y))) (sym partner)
            (rw (within, in_use, own, subst (λ (k : ℕ). head_of (end_at st k) ≡ some y) partner h))
