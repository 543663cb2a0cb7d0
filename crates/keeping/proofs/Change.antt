-- A step changes a few ends and a few records at once. `Change` lists the ten things that such a patch must meet, and `change` proves, once
-- for every step, that a sound state stays sound. Each instruction only fills the record. Assumes nothing.
use mathlib.Core.Path.{◌≡◌, refl, ◌∙◌}
use mathlib.Core.Logic.{◌⊎◌, inl, inr}
use mathlib.Core.Option.{some}
use mathlib.Core.List.{List}
use Prim.Native.Nat.{ℕ, ◌+◌, ◌*◌}
use native.Mathlib.Omega.{arith}
use lib.ListN.{get_or}
use Rattle.rules.specs.Count.{δ}
use Rattle.rules.specs.State.{State, EndState, free_end, RecordState, free_record, record_at, end_at, last_of, wait_item}
use Rattle.rules.specs.Sound.{RecordWithin, EndWithin, Within, held_in, carried_by, given_up, in_use, places_of, named_by, waits_naming}
use Rattle.rules.specs.Sound.{is_waiting}
use Rattle.rules.specs.Sound.{StandsAt, Sound}
use Rattle.rules.proofs.CountLaws.{δ-same}
use Rattle.keeping.proofs.Patch.{Put, patched, olds, news, Outside, Valid, AllNew, AllOld, length_patched, total_patch, at_patch}
use Rattle.keeping.proofs.Patch.{patched_out, patched_all, total_rest, outside_or}
use Rattle.keeping.proofs.Pairs.{mates, Mated, mated_of_paired, paired_of_mated}

-- the ends and the records that a step puts anew: place, old, new
abbrev pub EndPatch : Type 0
EndPatch = List (Put EndState)

abbrev pub RecordPatch : Type 0
RecordPatch = List (Put RecordState)

-- the state with those put anew
abbrev pub patched_state : State → EndPatch → RecordPatch → State
patched_state st es rs = record { code = st.code; records = patched rs st.records; ends = patched es st.ends }

pub record Change (st : State) (es : EndPatch) (rs : RecordPatch) : Type 0 where
  -- the places differ, and the old ones are what stands there
  pub ends_were : Valid free_end st.ends es
  pub records_were : Valid free_record st.records rs
  -- each new one is within the limits
  pub ends_ok : AllNew (λ e x. EndWithin x) es
  pub records_ok : AllNew (λ r x. RecordWithin x) rs
  -- no new end is its own partner, and who is whose partner stays mutual
  pub apart_ok : AllNew (λ e x. mates e x ≡ 0) es
  pub mutual_ok : (k f : ℕ)
      → news (λ e x. δ e k * mates f x) es + olds (λ e x. δ e f * mates k x) es
      ≡ news (λ e x. δ e f * mates k x) es + olds (λ e x. δ e k * mates f x) es
  -- what is gained in places is gained in use
  pub places_ok : (k : ℕ)
      → news (λ r. held_in k) rs + news (λ e. carried_by k) es + news (λ e x. δ e k * given_up x) es + olds (λ e x. δ e k * in_use x) es
      ≡ olds (λ r. held_in k) rs + olds (λ e. carried_by k) es + olds (λ e x. δ e k * given_up x) es + news (λ e x. δ e k * in_use x) es
  -- what is gained in waits is gained in waiting
  pub waits_ok : (k : ℕ)
      → news (λ e. named_by k) es + olds (λ r x. δ r k * is_waiting x) rs ≡ olds (λ e. named_by k) es + news
      (λ r x. δ r k * is_waiting x) rs
  -- every wait for a record put anew stood on an end put anew
  pub waits_were : AllOld (λ r x. is_waiting x ≡ olds (λ e. named_by r) es) rs
  -- each new end with a wait names a record that stands there
  pub stands_ok : AllNew (λ e x. (r : ℕ) → last_of x ≡ some (wait_item r)
      → StandsAt st.code e (get_or (patched rs st.records) r free_record)) es

-- ---- the theorem

named_last : (r : ℕ) (x : EndState) → last_of x ≡ some (wait_item r) → named_by r x ≡ 1
named_last r x h = rw h (δ-same r)

module _ (st : State) (es : EndPatch) (rs : RecordPatch) (s : Sound st) (c : Change st es rs) where
  within_after : Within (patched_state st es rs)
  within_after = record {
    code_within = s.S1.code_within;
    code_bytes = s.S1.code_bytes;
    record_count_is = length_patched st.records rs ∙ s.S1.record_count_is;
    end_count_is = length_patched st.ends es ∙ s.S1.end_count_is;
    records_within = patched_all (λ r x. RecordWithin x) free_record st.records rs c.records_were c.records_ok
        (λ r o. s.S1.records_within r);
    ends_within = patched_all (λ e x. EndWithin x) free_end st.ends es c.ends_were c.ends_ok (λ e o. s.S1.ends_within e);
  }

  mated_after : Mated (patched_state st es rs)
  mated_after =
      let m = mated_of_paired st s.S2 in
      record {
        apart = patched_all (λ e x. mates e x ≡ 0) free_end st.ends es c.ends_were c.apart_ok (λ e o. m.apart e);
        mutually = λ e f. omega (
          arith,
          at_patch (mates f) free_end st.ends es e c.ends_were,
          at_patch (mates e) free_end st.ends es f c.ends_were,
          c.mutual_ok e f,
          m.mutually e f,
        );
      }

  places_after : (e : ℕ) → places_of (patched_state st es rs) e ≡ in_use (end_at (patched_state st es rs) e)
  unfolding places_of
  places_after e = omega (
    arith,
    total_patch (held_in e) free_record st.records rs c.records_were,
    total_patch (carried_by e) free_end st.ends es c.ends_were,
    at_patch given_up free_end st.ends es e c.ends_were,
    at_patch in_use free_end st.ends es e c.ends_were,
    c.places_ok e,
    s.S3 e,
  )

  waits_after : (r : ℕ) → waits_naming (patched_state st es rs) r ≡ is_waiting (record_at (patched_state st es rs) r)
  unfolding waits_naming
  waits_after r = omega (
    arith,
    total_patch (named_by r) free_end st.ends es c.ends_were,
    at_patch is_waiting free_record st.records rs r c.records_were,
    c.waits_ok r,
    s.S4 r,
  )

  -- a record named by a wait on an end that is left alone is left alone
  stands_left : (e : ℕ) → Outside e es → (r : ℕ) → last_of (end_at st e) ≡ some (wait_item r)
      → StandsAt st.code e (get_or (patched rs st.records) r free_record)
  unfolding waits_naming
  stands_left e o r q =
      go (outside_or (λ r x. is_waiting x ≡ olds (λ e. named_by r) es) free_record st.records rs c.records_were c.waits_were r)
    where
      go : Outside r rs ⊎ (is_waiting (record_at st r) ≡ olds (λ e. named_by r) es)
          → StandsAt st.code e (get_or (patched rs st.records) r free_record)
      go (inl p) = rw (patched_out free_record st.records rs r p) (s.S5 e r q)
      go (inr p) = absurd (omega (
        arith,
        total_rest (named_by r) free_end st.ends es e refl c.ends_were o,
        named_last r (end_at st e) q,
        s.S4 r,
        p,
      ))

  -- a sound state stays sound
  pub change : Sound (patched_state st es rs)
  change = record {
    S1 = within_after;
    S2 = paired_of_mated (patched_state st es rs) mated_after;
    S3 = places_after;
    S4 = waits_after;
    S5 = patched_all
        (λ e x. (r : ℕ) → last_of x ≡ some (wait_item r) → StandsAt st.code e (get_or (patched rs st.records) r free_record))
        free_end st.ends es c.ends_were c.stands_ok stands_left;
  }
