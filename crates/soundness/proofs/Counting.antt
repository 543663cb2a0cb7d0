-- Laws of counts that a loop keeps: what one call after the other adds, sums over the first i elements of a list, and that the counts stay
-- small. Assumes nothing.
use mathlib.Core.Path.{◌≡◌, refl, sym, ap, ◌∙◌}
use mathlib.Core.Option.{Option, none, some}
use mathlib.Core.List.{List, [], ◌∷◌, map}
use Prim.Native.Nat.{ℕ, zero, suc, ◌+◌, ◌*◌, ◌≤◌, ◌<◌}
use native.Mathlib.Nat.{le_of_suc-le-suc, mul-suc}
use native.Mathlib.Numerals.{add-one}
use native.Mathlib.Decide.{ℕ_discrete, dec_lt}
use native.Mathlib.Omega.{arith}
use lib.ListN.{length, get_or, set, take, replicate, length-replicate, get_or-replicate, get_or-eq_default}
use lib.Seq.{get_or-set_same, get_or-set_other}
use Rattle.rules.specs.State.{Last, split_item, close_item, wait_item}
use Rattle.rules.specs.Count.{δ, total}
use Rattle.rules.specs.Sound.{in_slot, in_last, named_by_last}
use Rattle.rules.proofs.CountLaws.{δ-same, δ-ne, δ-le}
use Rattle.soundness.specs.Counts.{Below, Added, Counted}

-- ---- sums

module _ {A : Type 0} (f : A → ℕ) where
  pub total_nil : total f [] ≡ 0
  unfolding total
  total_nil = refl

  more_from : (l : List A) (i : ℕ) (d : A) → i < length l → total f (take (suc i) l) ≡ total f (take i l) + f (get_or l i d)
  unfolding total
  more_from [] i d h = absurd (omega arith)
  more_from (x ∷ l) zero d h = omega arith
  more_from (x ∷ l) (suc i) d h = omega (arith, more_from l i d (le_of_suc-le-suc h))

  -- one more of the first i
  pub total_more : (l : List A) (i : ℕ) (d : A) → i < length l → total f (take (i + 1) l) ≡ total f (take i l) + f (get_or l i d)
  total_more l i d h = ap (λ (k : ℕ). total f (take k l)) (add-one i) ∙ more_from l i d h

  -- a sum of small numbers is small
  pub total_few : (b : ℕ) → ((x : A) → f x ≤ b) → (l : List A) → total f l ≤ b * length l
  unfolding total
  total_few b h [] = omega arith
  total_few b h (x ∷ l) = omega (arith, h x, total_few b h l, mul-suc b (length l))

pub total_map : {A B : Type 0} (f : B → ℕ) (g : A → B) (l : List A) → total f (map g l) ≡ total (λ (x : A). f (g x)) l
unfolding total
total_map f g [] = refl
total_map f g (x ∷ l) = ap (λ (k : ℕ). f (g x) + k) (total_map f g l)

pub one_few : (at k : ℕ) → δ k at ≤ 1
one_few at k = δ-le k at

pub slot_few : (e : ℕ) (x : Option ℕ) → in_slot e x ≤ 1
slot_few e none = omega arith
slot_few e (some f) = δ-le e f

pub last_few : (e : ℕ) (l : Option Last) → in_last e l ≤ 2
last_few e none = omega arith
last_few e (some (split_item p q)) = omega (arith, δ-le e p, δ-le e q)
last_few e (some close_item) = omega arith
last_few e (some (wait_item r)) = omega arith

pub name_few : (r : ℕ) (l : Option Last) → named_by_last r l ≤ 1
name_few r none = omega arith
name_few r (some (split_item p q)) = omega arith
name_few r (some close_item) = omega arith
name_few r (some (wait_item k)) = δ-le r k

-- ---- what is added

pub added_none : (n : ℕ) (f : ℕ → ℕ) (l : List ℕ) → ((k : ℕ) → f k ≡ 0) → Added n f l l
added_none n f l z = record { added = λ k h. omega (arith, z k) }

pub added_one : (n at : ℕ) (l : List ℕ) {l' : List ℕ} → length l ≡ n → at < n → l' ≡ set l at (get_or l at 0 + 1)
    → Added n (λ (k : ℕ). δ k at) l l'
added_one n at l s h e = record { added = λ k b. ap (λ (r : List ℕ). get_or r k 0) e ∙ go k (ℕ_discrete k at) }
  where
    go : (k : ℕ) → Dec (k ≡ at) → get_or (set l at (get_or l at 0 + 1)) k 0 ≡ get_or l k 0 + δ k at
    go k (yes q) = rw (q, get_or-set_same l at (get_or l at 0 + 1) 0 (omega arith), δ-same at)
    go k (no q) = rw (get_or-set_other l at k (get_or l at 0 + 1) 0 q, δ-ne k at q) (omega arith)

pub added_both : {n : ℕ} {f g : ℕ → ℕ} {a b c : List ℕ} → Added n f a b → Added n g b c → Added n (λ (k : ℕ). f k + g k) a c
added_both p q = record { added = λ k h. omega (arith, p.added k h, q.added k h) }

pub added_as : {n : ℕ} {f : ℕ → ℕ} {a b : List ℕ} (g : ℕ → ℕ) → Added n f a b → ((k : ℕ) → f k ≡ g k) → Added n g a b
added_as g p e = record { added = λ k h. omega (arith, p.added k h, e k) }

-- the counts stay small
pub added_below : {n : ℕ} {f : ℕ → ℕ} {a b : List ℕ} (x y z : ℕ) → Added n f a b → length b ≡ n → Below x a → ((k : ℕ) → f k ≤ y)
    → x + y ≤ z → Below z b
added_below {n = n} {f = f} {a = a} {b = b} x y z p s l m w k = go (dec_lt k n)
  where
    go : Dec (k < n) → get_or b k 0 ≤ z
    go (yes h) = omega (arith, p.added k h, l k, m k)
    go (no h) = let past : length b ≤ k = omega arith in omega (arith, get_or-eq_default b 0 past)

-- ---- what the counts are

pub counted_none : (n : ℕ) (f : ℕ → ℕ) → ((k : ℕ) → f k ≡ 0) → Counted n 0 f (replicate n 0)
counted_none n f z = record {
  size = length-replicate {A = ℕ} n 0;
  small = λ k. go k (dec_lt k n);
  counted = λ k h. get_or-replicate {A = ℕ} n k 0 0 h ∙ sym (z k);
}
  where
    go : (k : ℕ) → Dec (k < n) → get_or (replicate n 0) k 0 ≤ 0
    go k (yes h) = omega (arith, get_or-replicate {A = ℕ} n k 0 0 h)
    go k (no h) =
        let past : length (replicate {A = ℕ} n 0) ≤ k = omega (arith, length-replicate {A = ℕ} n 0) in
        omega (arith, get_or-eq_default {A = ℕ} (replicate n 0) 0 past)

pub counted_more : {n : ℕ} {f g : ℕ → ℕ} {a b : List ℕ} (x y z : ℕ) (h : ℕ → ℕ) → Counted n x f a → Added n g a b → length b ≡ length a
    → ((k : ℕ) → g k ≤ y) → x + y ≤ z → ((k : ℕ) → f k + g k ≡ h k) → Counted n z h b
counted_more x y z h p q s m w e = record {
  size = s ∙ p.size;
  small = added_below x y z q (s ∙ p.size) p.small m w;
  counted = λ k l. omega (arith, p.counted k l, q.added k l, e k);
}

pub counted_as : {n x : ℕ} {f : ℕ → ℕ} {a : List ℕ} (y : ℕ) (h : ℕ → ℕ) → Counted n x f a → x ≤ y → ((k : ℕ) → f k ≡ h k) → Counted n y h a
counted_as y h p w e = record {
  size = p.size;
  small = λ k. omega (arith, p.small k);
  counted = λ k l. p.counted k l ∙ e k;
}
