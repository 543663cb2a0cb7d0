-- Laws of `decimal`: one digit more in front of those that are spelled. Assumes nothing.
use mathlib.Core.Path.{◌≡◌, refl, ap, ◌∙◌}
use mathlib.Core.List.{List, [], ◌∷◌}
use Prim.Native.Nat.{ℕ, zero, suc, ◌+◌, ◌/◌, ◌%◌, ◌^◌, ◌≤◌, ◌<◌}
use native.Mathlib.Nat.{pow-suc, div-lt_iff_lt-mul}
use native.Mathlib.Omega.{arith}
use lib.ListN.{length, set, drop, length-set}
use lib.Seq.{drop-cons, get_or-set_same, drop-set-lt}
use Rattle.rules.specs.Text.{digits_before, decimal}
use Rattle.text.proofs.Texts.{drop_all}

-- the digits of what is left, none where nothing is, in front of those given
unfoldable pub digits_left : (most rest : ℕ) → List ℕ → List ℕ
digits_left most zero low = low
digits_left most (suc k) low = digits_before most (suc k) low

-- the last digit, one more, and all of them
digits_more : (most n rest : ℕ) (low : List ℕ) → n / 10 ≡ rest
    → digits_before (suc most) n low ≡ digits_left most rest ((48 + n % 10) ∷ low)
unfolding digits_before digits_left
digits_more most n zero low e = rw (e, digits_before) refl
digits_more most n (suc k) low e = rw (e, digits_before) (ap (λ (x : ℕ). digits_before most x ((48 + n % 10) ∷ low)) e)

pub digits_first : (n : ℕ) → decimal n ≡ digits_left 19 (n / 10) ((48 + n % 10) ∷ [])
unfolding decimal
digits_first n = digits_more 19 n (n / 10) [] refl

pub digits_next : (most rest : ℕ) (low : List ℕ) → 0 < rest
    → digits_left (suc most) rest low ≡ digits_left most (rest / 10) ((48 + rest % 10) ∷ low)
unfolding digits_left
digits_next most zero low h = absurd (omega arith)
digits_next most (suc k) low h = digits_more most (suc k) (suc k / 10) low refl

pub digits_all : (most : ℕ) (low : List ℕ) → digits_left most 0 low ≡ low
unfolding digits_left
digits_all most low = refl

-- a digit stored in front of a part
drop_stored : (digits : List ℕ) (from d : ℕ) → from < length digits → drop from (set digits from d) ≡ d ∷ drop (suc from) digits
drop_stored digits from d h =
    let l : from < length (set digits from d) = rw length-set h in
    rw (drop-cons (set digits from d) from 0 l, get_or-set_same digits from d 0 h, drop-set-lt (suc from) digits from d (omega arith))

-- before the loop that spells, and a turn of it
pub spell_first : (n : ℕ) (digits : List ℕ) (d : ℕ) → length digits ≡ 20 → d ≡ 48 + n % 10
    → decimal n ≡ digits_left 19 (n / 10) (drop 19 (set digits 19 d))
spell_first n digits d l e =
    let h : 19 < length digits = omega arith in
    let none : drop 20 digits ≡ [] = drop_all digits 20 (omega arith) in
    digits_first n ∙ rw (drop_stored digits 19 d h, none, e)

pub spell_next : {text : List ℕ} (from from' rest : ℕ) (digits : List ℕ) (d : ℕ) → from ≡ suc from' → from ≤ length digits → 0 < rest
    → d ≡ 48 + rest % 10 → text ≡ digits_left from rest (drop from digits)
    → text ≡ digits_left from' (rest / 10) (drop from' (set digits from' d))
spell_next from from' rest digits d p l h e t =
    let k : from' < length digits = omega arith in
    t ∙ rw (p, digits_next from' rest (drop (suc from') digits) h, drop_stored digits from' d k, e)

-- something is left only where there is room, and less is left after a digit
pub some_left : (from rest : ℕ) → 0 < rest → rest < 10 ^ from → 0 < from
some_left zero rest h l = absurd (omega arith)
some_left (suc from) rest h l = omega arith

pub less_left : (from rest : ℕ) → rest < 10 ^ suc from → rest / 10 < 10 ^ from
less_left from rest h = let pos : 0 < 10 = omega arith in (div-lt_iff_lt-mul pos).1 (rw pow-suc at h)
