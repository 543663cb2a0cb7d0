-- The verdict of a state: whether every record is free, record by record, whether every end is, by the word of free ends, and what the
-- three cases are. Assumes nothing.
use mathlib.Core.Path.{◌≡◌, refl, sym, ap, ◌∙◌}
use mathlib.Core.Bool.{Bool, true, false, ◌&&◌}
use mathlib.Core.Option.{Option, none, some}
use mathlib.Core.List.{List, [], ◌∷◌}
use Prim.Native.Nat.{ℕ, zero, suc, ◌+◌, ◌*◌, ◌<◌}
use native.Mathlib.Nat.{add-zero}
use native.Mathlib.Decide.{ℕ_discrete}
use native.Mathlib.Omega.{arith}
use mathlib.Core.Logic.{◌≢◌}
use lib.ListN.{length, get_or}
use lib.Dec.{eqb}
use borrow.Author.Tests.{eq-eqb, ne_eqb}
use denote.Enum.Bare.{sameb}
use Rattle.std.specs.List.{list_all, range_with_len}
use Rattle.rules.specs.Limits.{end_count}
use Rattle.rules.specs.State.{State, EndState, free_end, used, is_free_end, is_free_record}
use Rattle.rules.specs.State.{RecordState, free_record, running, waiting}
use Rattle.rules.specs.EndStep.{only_if}
use Rattle.registers.specs.declared.records.Status.{Status}
use Rattle.registers.specs.declared.records.Status.TheVariants.{Free}
use Rattle.registers.specs.contracts.records.Status.{the_type}
use Rattle.registers.specs.Registers.{status_of}
use Rattle.rules.specs.SoundTest.{all}
use Rattle.rules.specs.Run.{Step, nothing_in_use, next_step, verdict_of}
use Rattle.rules.specs.Layout.{free_word}
use Rattle.rules.proofs.TestLaws.{true_is_not_false}
use Rattle.std.specs.Prelude.{Option as Maybe, is_some}
use Rattle.runner.specs.declared.verdict.Verdict.TheVariants.{Spent, Finished, Stuck}
use Rattle.runner.specs.Runs.{verdict_code, stepped_by}

-- ---- every record, every end is free

-- a record is free exactly if its status says so
pub free_told : (x : RecordState) {s : Status} → s ≡ status_of x → sameb the_type s Free ≡ is_free_record x
free_told free_record e = ap (λ (s : Status). sameb the_type s Free) e
free_told (running g) e = ap (λ (s : Status). sameb the_type s Free) e
free_told (waiting g) e = ap (λ (s : Status). sameb the_type s Free) e

-- a test on every element of a list is what `all` says of it over the places, counted on from n
module _ {A : Type 0} (test : A → Bool) (d : A) (f : ℕ → Bool) where
  joined : (a b : Bool) → (a && b) ≡ only_if a b
  joined true b = refl
  joined false b = refl

  places_from : (l : List A) (n : ℕ) → ((k : ℕ) → k < length l → f (n + k) ≡ test (get_or l k d))
      → list_all f (range_with_len n (length l)) ≡ all test l
  unfolding all
  places_from [] n h = refl
  places_from (x ∷ l) n h =
      let here : f n ≡ test x = ap f (sym (add-zero n)) ∙ h 0 (omega arith) in
      (λ i. here i && places_from l (n + 1) (λ k p. ap f (omega arith) ∙ h (suc k) (omega arith)) i) ∙ joined (test x) (all test l)

  pub places_all : (l : List A) {n : ℕ} → length l ≡ n → ((k : ℕ) → f k ≡ test (get_or l k d))
      → list_all f (range_with_len 0 n) ≡ all test l
  places_all l e h =
      ap (λ (n : ℕ). list_all f (range_with_len 0 n)) (sym e) ∙ places_from l 0 (λ k p. ap f (omega arith) ∙ h k)

-- the word of n ends that are all free
unfoldable all_set : ℕ → ℕ
all_set zero = 0
all_set (suc n) = 1 + 2 * all_set n

all_set_lem : all_set end_count ≡ 18446744073709551615
unfolding all_set
all_set_lem = refl

-- the word of free ends is that exactly if every end is free
word_of_free : (l : List EndState) → all is_free_end l ≡ true → free_word l ≡ all_set (length l)
unfolding all free_word all_set
word_of_free [] h = refl
word_of_free (free_end ∷ l) h = ap (λ (k : ℕ). 1 + 2 * k) (word_of_free l h)
word_of_free (used m ds x ∷ l) h = true_is_not_false h refl

free_of_word : (l : List EndState) → free_word l ≡ all_set (length l) → all is_free_end l ≡ true
unfolding all free_word all_set
free_of_word [] h = refl
free_of_word (free_end ∷ l) h = free_of_word l (omega (arith, h))
free_of_word (used m ds x ∷ l) h = absurd (omega (arith, h))

module _ (st : State) (n : length st.ends ≡ end_count) {word : ℕ} (is : word ≡ free_word st.ends) where
  full : free_word st.ends ≡ 18446744073709551615 → free_word st.ends ≡ all_set (length st.ends)
  full e = e ∙ sym all_set_lem ∙ ap all_set (sym n)

  ends_free : word ≡ 18446744073709551615 → all is_free_end st.ends ≡ true
  ends_free e = free_of_word st.ends (full (sym is ∙ e))

  end_used : word ≢ 18446744073709551615 → all is_free_end st.ends ≡ false
  end_used e = go (all is_free_end st.ends) refl
    where
      go : (b : Bool) → all is_free_end st.ends ≡ b → all is_free_end st.ends ≡ false
      go true q = absurd (e (is ∙ word_of_free st.ends q ∙ ap all_set n ∙ all_set_lem))
      go false q = q

  -- one look at the word tells
  pub word_tells : eqb word 18446744073709551615 ≡ all is_free_end st.ends
  word_tells = go (ℕ_discrete word 18446744073709551615)
    where
      go : Dec (word ≡ 18446744073709551615) → eqb word 18446744073709551615 ≡ all is_free_end st.ends
      go (yes e) = eq-eqb word 18446744073709551615 e ∙ sym (ends_free e)
      go (no n) = ne_eqb word 18446744073709551615 n ∙ sym (end_used n)

-- ---- the verdict

module _ (st : State) where
  -- where a step would be made, as the code found it
  module _ {found : Maybe ℕ} (tried : found ≡ stepped_by (next_step st 0)) where
    pub is_spent : true ≡ is_some found → Spent ≡ verdict_code (verdict_of st)
    unfolding verdict_of
    is_spent e = go (next_step st 0) refl
      where
        go : (x : Option Step) → next_step st 0 ≡ x → Spent ≡ verdict_code (verdict_of st)
        go (some s) q = rw q
        go none q = true_is_not_false refl (e ∙ ap is_some (tried ∙ ap stepped_by q))

    nothing_steps : false ≡ is_some found → next_step st 0 ≡ none
    nothing_steps e = go (next_step st 0) refl
      where
        go : (x : Option Step) → next_step st 0 ≡ x → next_step st 0 ≡ none
        go (some s) q = true_is_not_false refl (sym (e ∙ ap is_some (tried ∙ ap stepped_by q)))
        go none q = q

    pub is_finished : false ≡ is_some found → nothing_in_use st ≡ true → Finished ≡ verdict_code (verdict_of st)
    unfolding verdict_of
    is_finished e h = rw (nothing_steps e, h)

    pub is_stuck : false ≡ is_some found → nothing_in_use st ≡ false → Stuck ≡ verdict_code (verdict_of st)
    unfolding verdict_of
    is_stuck e h = rw (nothing_steps e, h)
