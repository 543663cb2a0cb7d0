-- Laws of `table`, and of a list that a loop fills from the front until it is a table. Assumes nothing.
use mathlib.Core.Path.{◌≡◌, refl, sym, ap, ◌∙◌, subst}
use mathlib.Core.List.{List}
use mathlib.Core.Logic.{⊎_elim}
use Prim.Native.Nat.{ℕ, zero, suc, ◌+◌, ◌≤◌, ◌<◌}
use native.Mathlib.Nat.{eq-or-lt_of_le, le_of_suc-le-suc, lt_irrefl}
use native.Mathlib.Numerals.{add-one}
use native.Mathlib.Omega.{arith}
use lib.ListN.{length, get_or, set, length-set}
use lib.Seq.{ext_get_or, get_or-set_same, get_or-set_other}
use denote.Param.Members.{Mut, Called}
use Rattle.std.specs.Array.{IsFromFnResult, IsFromFnResultFrom}
use Rattle.rules.specs.Bytes.{table}

pub length_table : {A : Type 0} (n : ℕ) (f : ℕ → A) → length (table n f) ≡ n
unfolding table
length_table zero f = refl
length_table (suc n) f = ap suc (length_table n (λ (k : ℕ). f (suc k)))

pub get_d_table : {A : Type 0} (n : ℕ) (f : ℕ → A) (i : ℕ) (d : A) → i < n → get_or (table n f) i d ≡ f i
unfolding table
get_d_table zero f i d h = absurd (omega arith)
get_d_table (suc n) f zero d h = refl
get_d_table (suc n) f (suc i) d h = get_d_table n (λ (k : ℕ). f (suc k)) i d (le_of_suc-le-suc h)

-- a table that agrees with a list of its length is the list
pub table_is : {A : Type 0} (d : A) (n : ℕ) (f : ℕ → A) (xs : List A) → length xs ≡ n → ((i : ℕ) → i < n → f i ≡ get_or xs i d)
    → table n f ≡ xs
table_is d n f xs e h =
    ext_get_or d (table n f) xs (length_table n f ∙ sym e)
    (λ i p. let q : i < n = rw (length_table n f) at p in get_d_table n f i d q ∙ h i q)

-- a has n elements, and the first k are f's
pub record Filled {A : Type 0} (d : A) (n : ℕ) (f : ℕ → A) (a : List A) (k : ℕ) : Type 0 where
  pub size : length a ≡ n
  pub done : (j : ℕ) → j < k → get_or a j d ≡ f j

-- before the loop, after a turn of it, and at its end
pub filled_none : {A : Type 0} {d : A} {n : ℕ} {f : ℕ → A} {a : List A} → length a ≡ n → Filled d n f a 0
filled_none e = record { size = e; done = λ j h. absurd (omega arith) }

pub filled_more : {A : Type 0} {d : A} {n : ℕ} {f : ℕ → A} {a : List A} {k : ℕ} {v : A} → Filled d n f a k → k < n → v ≡ f k
    → Filled d n f (set a k v) (k + 1)
filled_more {d = d} {f = f} {a = a} {k = k} {v = v} h l e = record {
  size = length-set a k v ∙ h.size;
  done = λ j p. ⊎_elim (here j) (there j) (eq-or-lt_of_le (le_of_suc-le-suc (rw add-one at p)));
}
  where
    here : (j : ℕ) → j ≡ k → get_or (set a k v) j d ≡ f j
    here j q = rw (q, get_or-set_same a k v d (rw h.size l)) e

    there : (j : ℕ) → j < k → get_or (set a k v) j d ≡ f j
    there j q = rw (get_or-set_other a k j v d (λ z. lt_irrefl k (rw z at q))) (h.done j q)

pub filled_all : {A : Type 0} {d : A} {n : ℕ} {f : ℕ → A} {a : List A} {k : ℕ} → Filled d n f a k → n ≤ k → a ≡ table n f
filled_all {d = d} {n = n} {f = f} {a = a} {k = k} h l =
    ext_get_or d a (table n f) (h.size ∙ sym (length_table n f))
    (λ i p. let q : i < n = rw h.size at p in h.done i (omega arith) ∙ sym (get_d_table n f i d q))

-- an array that `from_fn` filled by a closure that changes nothing: each place holds what the call there gives
pub filled_from_fn : {F A : Type 0} {g : Mut F (ℕ × Unit {0}) A} {p : F} {a : List A} {n : ℕ} (d : A) (f : ℕ → A)
    → IsFromFnResult g p a n → ((i : ℕ) (x : A) (q : F) → i < n → Called g p (i, tt) x q → (q ≡ p) × (x ≡ f i)) → Filled d n f a n
filled_from_fn {F} {A} {g} {p} {a} {n} d f r one = record {
  size = r.long;
  done = λ j h. go n 0 (omega arith) r.each j (omega arith) (omega arith);
}
  where
    go : (k i : ℕ) → i + k ≡ n → IsFromFnResultFrom g p a i k → (j : ℕ) → i ≤ j → j < n → get_or a j d ≡ f j
    go zero i e u j l h = absurd (omega arith)
    go (suc k) i e u j l h =
        let call = one i u.1 u.0 (omega arith) u.3 in
        ⊎_elim
        (λ (q : i ≡ j). subst (λ (m : ℕ). get_or a m d ≡ f m) q (u.2.1 d ∙ call.1))
        (λ (q : i < j). go k (i + 1) (omega arith) (subst (λ (s : F). IsFromFnResultFrom g s a (i + 1) k) call.0 u.4) j (omega arith) h)
        (eq-or-lt_of_le l)
