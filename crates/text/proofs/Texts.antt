-- Laws of printing: one text behind another, a text by another name, room for a text, and a signed number. Assumes nothing.
use mathlib.Core.Path.{◌≡◌, refl, sym, ap, ◌∙◌, subst}
use mathlib.Core.List.{List, [], ◌∷◌, ◌++◌}
use mathlib.Core.Bool.{true, false}
use Prim.Native.Nat.{ℕ, zero, suc, ◌-◌, ◌≤◌}
use native.Mathlib.Nat.{add-zero, le_of_suc-le-suc}
use native.Mathlib.Omega.{arith}
use borrow.Author.Tests.{ltb-true}
use lib.ListN.{length, take, drop, length-append, length-drop}
use lib.Seq.{take_all, drop-nil}
use lib.IntN.{ℤ, pos, negsuc, nat_abs}
use lib.Signed.{lt_z}
use Rattle.rules.specs.Text.{text, decimal, signed_decimal}
use Rattle.words.proofs.Parts.{length_put, put_append}
use Rattle.text.specs.declared.printing.Page.{Page}
use Rattle.text.specs.Page.{Room, Puts}

-- nothing is printed
pub written_none : (p : Page) → Puts p [] p
written_none p = record { same_buffer = refl; memory = refl; place = sym (add-zero p.at) }

-- one text behind another
pub written_more : {p q r : Page} {x y : List ℕ} → Puts p x q → Puts q y r → Puts p (x ++ y) r
written_more {p} {q} {r} {x} {y} a b = record {
  same_buffer = b.same_buffer ∙ a.same_buffer;
  memory = b.memory ∙ rw (a.memory, a.place) (sym (put_append p.out.now p.at x y));
  place = let e = a.place in let f = b.place in omega (arith, length-append x y);
}

-- the buffer is as long as before
pub printed_length : {p q : Page} {x : List ℕ} → Puts p x q → length q.out.now ≡ length p.out.now
printed_length {p} {q} {x} w = ap length w.memory ∙ length_put p.out.now p.at x

-- a text by another name
pub written_as : {p q : Page} {x y : List ℕ} → x ≡ y → Puts p x q → Puts p y q
written_as {p} {q} e w = subst (λ (t : List ℕ). Puts p t q) e w

-- room for a text by another name
pub room_as : (p : Page) {x y : List ℕ} → x ≡ y → Room p y → Room p x
room_as p e h = let l = ap length e in omega arith

-- room for a text, and for what stands behind it once it is printed
pub room_first : (p : Page) (x y : List ℕ) → Room p (x ++ y) → Room p x
room_first p x y h = omega (arith, length-append x y)

pub room_rest : {p q : Page} {x : List ℕ} (y : List ℕ) → Room p (x ++ y) → Puts p x q → Room q y
room_rest {p} {q} {x} y h w = omega (arith, length-append x y, w.place, printed_length w)

-- nothing stands behind the end
pub drop_all : (l : List ℕ) (n : ℕ) → length l ≤ n → drop n l ≡ []
drop_all [] n h = drop-nil n
drop_all (x ∷ l) zero h = absurd (omega arith)
drop_all (x ∷ l) (suc n) h = drop_all l n (le_of_suc-le-suc h)

-- all that stands behind a place
pub part_all : (l : List ℕ) (n from : ℕ) → length l ≡ n → take (n - from) (drop from l) ≡ drop from l
part_all l n from e = take_all (n - from) (drop from l) (simp length-drop (omega arith))

-- a negative number has its sign in front of its size, any other is its size. `read` is the number that the code tests
module _ (n : ℤ) {read : ℤ} {size : ℕ} (same : read ≡ n) (is : size ≡ nat_abs read) where
  pub minus_text : lt_z read (pos 0) ≡ true → 45 ∷ decimal size ≡ signed_decimal n
  unfolding signed_decimal text
  minus_text t = go n (rw same at t) (is ∙ ap nat_abs same)
    where
      go : (n : ℤ) → lt_z n (pos 0) ≡ true → size ≡ nat_abs n → 45 ∷ decimal size ≡ signed_decimal n
      go (pos k) t e = absurd (omega (arith, ltb-true k 0 t))
      go (negsuc k) t e = ap (λ (m : ℕ). 45 ∷ decimal m) e

  pub plus_text : lt_z read (pos 0) ≡ false → decimal size ≡ signed_decimal n
  unfolding signed_decimal
  plus_text t = go n (rw same at t) (is ∙ ap nat_abs same)
    where
      go : (n : ℤ) → lt_z n (pos 0) ≡ false → size ≡ nat_abs n → decimal size ≡ signed_decimal n
      go (pos k) t e = ap decimal e
      go (negsuc k) t e = absurd (let z : ◌≡◌ {A = ℕ} 0 1 = cc in omega arith)
