-- Laws of the free ends and records: those listed as free are free and differ. A step's new names are taken from these. Assumes nothing.
use mathlib.Core.Path.{◌≡◌, refl, subst}
use mathlib.Core.Bool.{Bool, true, false}
use mathlib.Core.List.{List, [], ◌∷◌}
use Prim.Native.Nat.{ℕ, suc, ◌+◌, ◌≤◌, ◌<◌}
use native.Mathlib.Omega.{arith}
use lib.ListN.{length, get_or}
use borrow.Author.Tests.{ltb-false, eqb-false}
use Rattle.rules.specs.Limits.{record_count, end_count}
use Rattle.rules.specs.State.{State, Registers, EndState, free_end, used, RecordState, free_record, running, waiting, is_free_end}
use Rattle.rules.specs.State.{is_free_record, prepend_if, places_from, free_ends, free_records, end_at, record_at}
use Rattle.rules.specs.Causes.{few_free_ends, no_free_record, shared_causes}
use Rattle.rules.specs.Refusal.{NoCause}
use Rattle.rules.specs.Instruction.{Instruction, cst, access, store, add, mul, leq, put, get, split, fork, plug, close, halt, same, hput}
use Rattle.rules.specs.Instruction.{hcase, run}
use Rattle.rules.specs.RecordStep.{Fresh, lowest_free}
use Rattle.rules.proofs.TestLaws.{true_is_not_false}

-- each number of a list is the place, counted from k, of an element that passes, and they rise
abbrev Passing : {A : Type 0} → ℕ → (A → Bool) → A → List A → List ℕ → Type 0
Passing k test d l [] = Unit {0}
Passing k test d l (p ∷ ps) = ((j : ℕ) × (p ≡ k + j) × (j < length l) × (test (get_or l j d) ≡ true)) × Passing k test d l ps

abbrev Above : ℕ → List ℕ → Type 0
Above k [] = Unit {0}
Above k (p ∷ ps) = (k ≤ p) × Above (suc p) ps

module _ {A : Type 0} (test : A → Bool) (d : A) where
  shifted : (k : ℕ) (x : A) (xs : List A) (ps : List ℕ) → Passing (suc k) test d xs ps → Passing k test d (x ∷ xs) ps
  shifted k x xs [] h = tt
  shifted k x xs (p ∷ ps) h = ((suc h.0.0, omega (arith, h.0.1), omega (arith, h.0.2), h.0.3), shifted k x xs ps h.1)

  passing : (k : ℕ) (l : List A) → Passing k test d l (places_from k test l)
  unfolding places_from
  passing k [] = tt
  passing k (x ∷ xs) = go (test x) refl (shifted k x xs (places_from (suc k) test xs) (passing (suc k) xs))
    where
      go : (b : Bool) → test x ≡ b → Passing k test d (x ∷ xs) (places_from (suc k) test xs)
          → Passing k test d (x ∷ xs) (prepend_if b k (places_from (suc k) test xs))
      go true q h = ((0, omega arith, omega arith, q), h)
      go false q h = h

  lower : (k : ℕ) (ps : List ℕ) → Above (suc k) ps → Above k ps
  lower k [] h = tt
  lower k (p ∷ ps) h = (omega (arith, h.0), h.1)

  rising : (k : ℕ) (l : List A) → Above k (places_from k test l)
  unfolding places_from
  rising k [] = tt
  rising k (x ∷ xs) = go (test x) (rising (suc k) xs)
    where
      go : (b : Bool) → Above (suc k) (places_from (suc k) test xs) → Above k (prepend_if b k (places_from (suc k) test xs))
      go true h = (omega arith, h)
      go false h = lower k (places_from (suc k) test xs) h

-- ---- a free end, a free record

pub record FreeEnd (st : State) (e : ℕ) : Type 0 where
  pub is_free : end_at st e ≡ free_end
  pub in_list : e < length st.ends

pub record FreeRecord (st : State) (r : ℕ) : Type 0 where
  pub is_free : record_at st r ≡ free_record
  pub in_list : r < length st.records

free_end_is : (x : EndState) → is_free_end x ≡ true → x ≡ free_end
free_end_is free_end h = refl
free_end_is (used m ds l) h = true_is_not_false h refl

free_record_is : (x : RecordState) → is_free_record x ≡ true → x ≡ free_record
free_record_is free_record h = refl
free_record_is (running g) h = true_is_not_false h refl
free_record_is (waiting g) h = true_is_not_false h refl

free_end_at : (st : State) (e : ℕ) → ((j : ℕ) × (e ≡ 0 + j) × (j < length st.ends) × (is_free_end (get_or st.ends j free_end) ≡ true))
    → FreeEnd st e
free_end_at st e h =
    let q : h.0 ≡ e = omega (arith, h.1) in
    record { is_free = subst (λ (j : ℕ). end_at st j ≡ free_end) q (free_end_is (end_at st h.0) h.3); in_list = omega (arith, h.2) }

free_record_at : (st : State) (r : ℕ) → ((j : ℕ) × (r ≡ 0 + j) × (j < length st.records) ×
    (is_free_record (get_or st.records j free_record) ≡ true)) → FreeRecord st r
free_record_at st r h =
    let q : h.0 ≡ r = omega (arith, h.1) in
    record {
      is_free = subst (λ (j : ℕ). record_at st j ≡ free_record) q (free_record_is (record_at st h.0) h.3);
      in_list = omega
          (arith, h.2);
    }

-- ---- the names that the machine passes

pub record TwoFree (st : State) (p q : ℕ) : Type 0 where
  pub p_free : FreeEnd st p
  pub q_free : FreeEnd st q
  pub p_below_q : p < q

pub record FourFree (st : State) (p q s t : ℕ) : Type 0 where
  pub first_two : TwoFree st p q
  pub last_two : TwoFree st s t
  pub q_below_s : q < s

pub two_free : (st : State) → few_free_ends 2 st ≡ false → TwoFree st (lowest_free st).p (lowest_free st).q
unfolding lowest_free free_ends
two_free st h = go (free_ends st) (passing is_free_end free_end 0 st.ends) (rising is_free_end free_end 0 st.ends)
    (ltb-false (length (free_ends st)) 2 h)
  where
    go : (l : List ℕ) → Passing 0 is_free_end free_end st.ends l → Above 0 l → 2 ≤ length l
        → TwoFree st (get_or l 0 end_count) (get_or l 1 end_count)
    go [] f a n = absurd (omega arith)
    go (p ∷ []) f a n = absurd (omega arith)
    go (p ∷ q ∷ l) f a n = record { p_free = free_end_at st p f.0; q_free = free_end_at st q f.1.0; p_below_q = a.1.0 }

pub four_free : (st : State) → few_free_ends 4 st ≡ false
    → FourFree st (lowest_free st).p (lowest_free st).q (lowest_free st).s (lowest_free st).t
unfolding lowest_free free_ends
four_free st h = go (free_ends st) (passing is_free_end free_end 0 st.ends) (rising is_free_end free_end 0 st.ends)
    (ltb-false (length (free_ends st)) 4 h)
  where
    go : (l : List ℕ) → Passing 0 is_free_end free_end st.ends l → Above 0 l → 4 ≤ length l
        → FourFree st (get_or l 0 end_count) (get_or l 1 end_count) (get_or l 2 end_count) (get_or l 3 end_count)
    go [] f a n = absurd (omega arith)
    go (p ∷ []) f a n = absurd (omega arith)
    go (p ∷ q ∷ []) f a n = absurd (omega arith)
    go (p ∷ q ∷ s ∷ []) f a n = absurd (omega arith)
    go (p ∷ q ∷ s ∷ t ∷ l) f a n = record {
      first_two = record { p_free = free_end_at st p f.0; q_free = free_end_at st q f.1.0; p_below_q = a.1.0 };
      last_two = record { p_free = free_end_at st s f.1.1.0; q_free = free_end_at st t f.1.1.1.0; p_below_q = a.1.1.1.0 };
      q_below_s = a.1.1.0;
    }

pub record_free : (st : State) → no_free_record st ≡ false → FreeRecord st (get_or (free_records st) 0 record_count)
unfolding free_records
record_free st h = go (free_records st) (passing is_free_record free_record 0 st.records) (eqb-false (length (free_records st)) 0 h)
  where
    go : (l : List ℕ) → Passing 0 is_free_record free_record st.records l → (length l ≡ 0 → ⊥) → FreeRecord st (get_or l 0 record_count)
    go [] f n = absurd (n refl)
    go (r ∷ l) f n = free_record_at st r f.0

-- ---- the fresh names that an instruction needs

abbrev pub FreshFor : State → Fresh → Instruction → Type 0
FreshFor st new (cst v) = Unit {0}
FreshFor st new (access n) = Unit {0}
FreshFor st new store = Unit {0}
FreshFor st new add = Unit {0}
FreshFor st new mul = Unit {0}
FreshFor st new leq = Unit {0}
FreshFor st new (put c) = Unit {0}
FreshFor st new (get c) = Unit {0}
FreshFor st new (split c a b) = FourFree st new.p new.q new.s new.t
FreshFor st new (fork c a m place b m' place') = Unit {0}
FreshFor st new (plug a m place m' place') = TwoFree st new.p new.q × FreeRecord st new.record'
FreshFor st new (close c) = Unit {0}
FreshFor st new (halt c) = Unit {0}
FreshFor st new (same c d) = Unit {0}
FreshFor st new (hput c n) = Unit {0}
FreshFor st new (hcase c places) = Unit {0}
FreshFor st new (run place n cs) = Unit {0}

-- the lowest free ones serve, where 15 does not hold
pub lowest_serve : (st : State) (g : Registers) (i : Instruction) → NoCause (shared_causes st g i) → FreshFor st (lowest_free st) i
unfolding shared_causes lowest_free
lowest_serve st g (cst v) h = tt
lowest_serve st g (access n) h = tt
lowest_serve st g store h = tt
lowest_serve st g add h = tt
lowest_serve st g mul h = tt
lowest_serve st g leq h = tt
lowest_serve st g (put c) h = tt
lowest_serve st g (get c) h = tt
lowest_serve st g (split c a b) h = four_free st h.1.0
lowest_serve st g (fork c a m place b m' place') h = tt
lowest_serve st g (plug a m place m' place') h = (two_free st h.0, record_free st h.1.0)
lowest_serve st g (close c) h = tt
lowest_serve st g (halt c) h = tt
lowest_serve st g (same c d) h = tt
lowest_serve st g (hput c n) h = tt
lowest_serve st g (hcase c places) h = tt
lowest_serve st g (run place n cs) h = tt
