-- The word of free ends: its ones are the free ends of the list, lowest first (`free_ends_lem`, `agrees`); a count of ones counts them,
-- trailing zeros find the lowest, and one bit set or cleared is one end freed or taken. Each law goes by the lowest bit. Assumes nothing.
use mathlib.Core.Path.{◌≡◌, refl, ap, ◌∙◌, subst}
use mathlib.Core.Bool.{Bool, true, false}
use mathlib.Core.List.{List, [], ◌∷◌}
use Prim.Native.Nat.{ℕ, zero, suc, ◌+◌, ◌-◌, ◌*◌, ◌/◌, ◌%◌, ◌^◌, ◌<◌, min, max}
use native.Mathlib.Nat.{pow-succ', div-one, div-div-eq-div-mul, mod-eq_of_lt}
use native.Mathlib.Decide.{ℕ_discrete}
use native.Mathlib.Omega.{arith}
use lib.ListN.{length, get_or, drop, set}
use lib.Seq.{get_or-drop}
use lib.Dec.{eqb}
use lib.Bits.{bit_and, bit_or, and_step, or_step, and_self, and_mask, or_zero_r}
use lib.Pow.{pow-lt}
use lib.Count.{ones, ones_step, count_trailing_zeros}
use Rattle.rules.specs.Limits.{end_count}
use Rattle.rules.specs.Count.{one_if}
use Rattle.rules.specs.State.{State, EndState, free_end, used, is_free_end, places_from, free_ends}
use Rattle.rules.specs.RecordStep.{lowest_free}
use Rattle.rules.specs.Layout.{free_word}
use Rattle.keeping.proofs.LayoutLaws.{Sized}
use Rattle.keeping.proofs.ViewLaws.{free_word_fits}
use Rattle.ends.specs.Words.{ones_from, ends_in, Agrees}

-- ---- a number by its lowest bit

odd_low : (n : ℕ) → (1 + 2 * n) % 2 ≡ 1
odd_low n = omega arith

odd_half : (n : ℕ) → (1 + 2 * n) / 2 ≡ n
odd_half n = omega arith

even_low : (n : ℕ) → (2 * n) % 2 ≡ 0
even_low n = omega arith

even_half : (n : ℕ) → (2 * n) / 2 ≡ n
even_half n = omega arith

-- what holds of 0 in no bits, and with one bit more below, holds of every word in its bits
module _ (P : ℕ → ℕ → Type 0) (none : P 0 0) (odd : (n w : ℕ) → P n w → P (suc n) (1 + 2 * w))
    (even : (n w : ℕ) → P n w → P (suc n) (2 * w)) where
  pub by_bits : (n w : ℕ) → w < 2 ^ n → P n w
  by_bits zero w h = let e : 0 ≡ w = omega arith in subst (λ (v : ℕ). P 0 v) e none
  by_bits (suc n) w h = go (ℕ_discrete (w % 2) 1) (by_bits n (w / 2) (omega (arith, pow-succ' 2 n)))
    where
      go : Dec (w % 2 ≡ 1) → P n (w / 2) → P (suc n) w
      go (yes e) p = let s : 1 + 2 * (w / 2) ≡ w = omega arith in subst (λ (v : ℕ). P (suc n) v) s (odd n (w / 2) p)
      go (no e) p = let s : 2 * (w / 2) ≡ w = omega arith in subst (λ (v : ℕ). P (suc n) v) s (even n (w / 2) p)

ones_from_odd : (n k w : ℕ) → ones_from (suc n) k (1 + 2 * w) ≡ k ∷ ones_from n (suc k) w
unfolding ones_from
ones_from_odd n k w = rw (odd_low w, odd_half w)

ones_from_even : (n k w : ℕ) → ones_from (suc n) k (2 * w) ≡ ones_from n (suc k) w
unfolding ones_from
ones_from_even n k w = rw (even_low w, even_half w)

-- ---- the free ends of a list

ones_of_list : (k : ℕ) (l : List EndState) → ones_from (length l) k (free_word l) ≡ places_from k is_free_end l
unfolding ones_from places_from free_word
ones_of_list k [] = refl
ones_of_list k (free_end ∷ l) = ones_from_odd (length l) k (free_word l) ∙ ap (λ (r : List ℕ). k ∷ r) (ones_of_list (suc k) l)
ones_of_list k (used m ds f ∷ l) = ones_from_even (length l) k (free_word l) ∙ ones_of_list (suc k) l

-- the ends that the word of free ends names are the free ends
pub free_ends_lem : (st : State) → Sized st → ends_in (free_word st.ends) ≡ free_ends st
unfolding ends_in free_ends
free_ends_lem st z =
    subst (λ (n : ℕ). ones_from n 0 (free_word st.ends) ≡ places_from 0 is_free_end st.ends) z.ends_sized (ones_of_list 0 st.ends)

-- so the word agrees with the definitions that count in the list
pub agrees : (st : State) → Sized st → (word : ℕ) → word ≡ free_word st.ends → Agrees st word
unfolding lowest_free
agrees st z word e =
    let same : ends_in word ≡ free_ends st = ap ends_in e ∙ free_ends_lem st z in
    let place : (i : ℕ) → get_or (ends_in word) i end_count ≡ get_or (free_ends st) i end_count =
    λ i. ap (λ (l : List ℕ). get_or l i end_count) same in
    record { count = ap length same; lowest = place 0; first = place 0; second = place 1; third = place 2; fourth = place 3 }

-- ---- ones give the count

count_from : (n w : ℕ) → w < 2 ^ n → (k : ℕ) → ones w ≡ length (ones_from n k w)
unfolding ones_from ones
count_from =
    by_bits (λ n w. (k : ℕ) → ones w ≡ length (ones_from n k w)) (λ k. refl)
    (λ n w p k. ones_step (1 + 2 * w) ∙ rw (odd_low w, odd_half w, p (suc k)) (omega arith))
    (λ n w p k. ones_step (2 * w) ∙ rw (even_low w, even_half w, p (suc k)) (omega arith))

pub count_is : (w : ℕ) → w < 2 ^ end_count → ones w ≡ length (ends_in w)
unfolding ends_in
count_is w h = count_from end_count w h 0

-- ---- trailing zeros give the lowest

lowest_from : (n w : ℕ) → w < 2 ^ n → (k : ℕ) → k + count_trailing_zeros n w ≡ get_or (ones_from n k w) 0 (k + n)
unfolding ones_from count_trailing_zeros
lowest_from =
    by_bits (λ n w. (k : ℕ) → k + count_trailing_zeros n w ≡ get_or (ones_from n k w) 0 (k + n)) (λ k. refl)
    (λ n w p k. rw (odd_low w) (omega arith))
    (λ n w p k.
    let e : suc k + n ≡ k + suc n = omega arith in
    rw (even_low w, even_half w, ← e) (omega (arith, p (suc k))))

pub lowest_is : (w : ℕ) → w < 2 ^ end_count → count_trailing_zeros end_count w ≡ get_or (ends_in w) 0 end_count
unfolding ends_in
lowest_is w h = omega (arith, lowest_from end_count w h 0)

-- ---- the lowest one cleared

and_odd_even : (a b : ℕ) → bit_and (1 + 2 * a) (2 * b) ≡ 2 * bit_and a b
and_odd_even a b = and_step (1 + 2 * a) (2 * b) ∙ rw (odd_low a, odd_half a, even_low b, even_half b) (omega arith)

and_even_odd : (a b : ℕ) → bit_and (2 * a) (1 + 2 * b) ≡ 2 * bit_and a b
and_even_odd a b = and_step (2 * a) (1 + 2 * b) ∙ rw (even_low a, even_half a, odd_low b, odd_half b) (omega arith)

without_from : (n w : ℕ) → w < 2 ^ n → (k : ℕ) → 0 < w → ones_from n k (bit_and w (w - 1)) ≡ drop 1 (ones_from n k w)
without_from =
    by_bits (λ n w. (k : ℕ) → 0 < w → ones_from n k (bit_and w (w - 1)) ≡ drop 1 (ones_from n k w)) (λ k l. absurd (omega arith))
    (λ n w p k l.
    let e : 1 + 2 * w - 1 ≡ 2 * w = omega arith in
    rw (e, and_odd_even w w, and_self w, ones_from_even n k w, ones_from_odd n k w))
    (λ n w p k l.
    let e : 2 * w - 1 ≡ 1 + 2 * (w - 1) = omega arith in
    rw (e, and_even_odd w (w - 1), ones_from_even n k (bit_and w (w - 1)), ones_from_even n k w) (p (suc k) (omega arith)))

pub without_is : (w : ℕ) → w < 2 ^ end_count → 0 < w → ends_in (bit_and w (w - 1)) ≡ drop 1 (ends_in w)
unfolding ends_in
without_is w h l = without_from end_count w h 0 l

-- the next lowest is the lowest of what is left
pub next_is : (w : ℕ) {l : List ℕ} → l ≡ drop 1 (ends_in w) → (i : ℕ) → get_or l i end_count ≡ get_or (ends_in w) (suc i) end_count
next_is w e i = rw e (get_or-drop 1 (ends_in w) i end_count ∙ ap (λ (j : ℕ). get_or (ends_in w) j end_count) (omega arith))

-- ---- one end freed, taken, looked at

or_parts : (a b : ℕ) {x y p q : ℕ} → a / 2 ≡ x → b / 2 ≡ y → a % 2 ≡ p → b % 2 ≡ q → bit_or a b ≡ bit_or x y * 2 + max p q
or_parts a b h k l m = or_step a b ∙ rw (h, k, l, m)

and_parts : (a b : ℕ) {x y p q : ℕ} → a / 2 ≡ x → b / 2 ≡ y → a % 2 ≡ p → b % 2 ≡ q → bit_and a b ≡ bit_and x y * 2 + min p q
and_parts a b h k l m = and_step a b ∙ rw (h, k, l, m)

-- the lowest end's bit, and the word of the others above it
bit_laws : (b : Bool) → (one_if b < 2) × (max (one_if b) 0 ≡ one_if b) × (max (one_if b) 1 ≡ 1) × (min (one_if b) 0 ≡ 0)
    × (min (one_if b) 1 ≡ one_if b) × (eqb (one_if b) 1 ≡ b)
bit_laws true = (omega arith, refl, refl, refl, refl, refl)
bit_laws false = (omega arith, refl, refl, refl, refl, refl)

word_cons : (x : EndState) (l : List EndState) → free_word (x ∷ l) ≡ one_if (is_free_end x) + 2 * free_word l
unfolding free_word
word_cons free_end l = refl
word_cons (used m ds f) l = omega arith

word_low : (x : EndState) (l : List EndState) → free_word (x ∷ l) % 2 ≡ one_if (is_free_end x)
word_low x l = omega (arith, word_cons x l, (bit_laws (is_free_end x)).0)

word_half : (x : EndState) (l : List EndState) → free_word (x ∷ l) / 2 ≡ free_word l
word_half x l = omega (arith, word_cons x l, (bit_laws (is_free_end x)).0)

-- the bit of end e
pub word_holds : (l : List EndState) (e : ℕ) → e < length l → eqb (free_word l / 2 ^ e % 2) 1 ≡ is_free_end (get_or l e free_end)
word_holds [] e h = absurd (omega arith)
word_holds (x ∷ l) zero h = rw (div-one (free_word (x ∷ l)), word_low x l) (bit_laws (is_free_end x)).5
word_holds (x ∷ l) (suc e) h =
    rw (pow-succ' 2 e, ← div-div-eq-div-mul (free_word (x ∷ l)) 2 (2 ^ e), word_half x l) (word_holds l e (omega arith))

-- the bit of end e set: the end is freed
pub word_freed : (l : List EndState) (e : ℕ) → e < length l → bit_or (free_word l) (2 ^ e) ≡ free_word (set l e free_end)
word_freed [] e h = absurd (omega arith)
word_freed (x ∷ l) zero h =
    or_parts (free_word (x ∷ l)) 1 (word_half x l) refl (word_low x l) refl
    ∙ rw (or_zero_r (free_word l), (bit_laws (is_free_end x)).2, word_cons free_end l) (omega arith)
word_freed (x ∷ l) (suc e) h =
    rw (pow-succ' 2 e)
    (or_parts (free_word (x ∷ l)) (2 * 2 ^ e) (word_half x l) (even_half (2 ^ e)) (word_low x l) (even_low (2 ^ e))
    ∙ rw (word_freed l e (omega arith), (bit_laws (is_free_end x)).1, word_cons x (set l e free_end)) (omega arith))

-- the bit of end e cleared: the end is taken
pub word_taken : (l : List EndState) (e : ℕ) (x : EndState) → e < length l → is_free_end x ≡ false
    → bit_and (free_word l) (2 ^ length l - 1 - 2 ^ e) ≡ free_word (set l e x)
word_taken [] e x h u = absurd (omega arith)
word_taken (y ∷ l) zero x h u =
    let n : ℕ = 2 ^ length l in
    let m : 2 ^ suc (length l) - 1 - 1 ≡ 2 * (n - 1) = omega (arith, pow-succ' 2 (length l)) in
    rw m
    (and_parts (free_word (y ∷ l)) (2 * (n - 1)) (word_half y l) (even_half (n - 1)) (word_low y l) (even_low (n - 1))
    ∙ rw (and_mask (free_word l) (length l), mod-eq_of_lt (free_word_fits l), (bit_laws (is_free_end y)).3, word_cons x l, u) (omega arith))
word_taken (y ∷ l) (suc e) x h u =
    let v : ℕ = 2 ^ length l - 1 - 2 ^ e in
    let below : 2 ^ e < 2 ^ length l = pow-lt (omega arith) in
    let m : 2 ^ suc (length l) - 1 - 2 ^ suc e ≡ 1 + 2 * v = omega (arith, pow-succ' 2 (length l), pow-succ' 2 e) in
    rw m
    (and_parts (free_word (y ∷ l)) (1 + 2 * v) (word_half y l) (odd_half v) (word_low y l) (odd_low v)
    ∙ rw (word_taken l e x (omega arith) u, (bit_laws (is_free_end y)).4, word_cons y (set l e x)) (omega arith))

-- an end that stays free, or in use, changes nothing
pub word_kept : (l : List EndState) (e : ℕ) (x : EndState) → is_free_end x ≡ is_free_end (get_or l e free_end)
    → free_word (set l e x) ≡ free_word l
word_kept [] e x h = refl
word_kept (y ∷ l) zero x h = rw (word_cons x l, word_cons y l, h)
word_kept (y ∷ l) (suc e) x h = rw (word_cons y (set l e x), word_cons y l, word_kept l e x h)
