-- Laws of reading a word from the front: where it ends, whether all are digits, the number that they say. Assumes nothing.
use mathlib.Core.Path.{◌≡◌, refl, sym, ap, ◌∙◌}
use mathlib.Core.List.{List, [], ◌∷◌}
use mathlib.Core.Bool.{Bool, true, false, cond, ◌&&◌}
use mathlib.Core.Option.{none, some}
use mathlib.Core.Logic.{inl, inr}
use Prim.Native.Nat.{ℕ, suc, ◌+◌, ◌-◌, ◌*◌, ◌≤◌, ◌<◌}
use native.Mathlib.Numerals.{add-one}
use native.Mathlib.Omega.{arith}
use borrow.Author.Tests.{eq-eqb, eqb-true, lt-ltb, le-ltb, le-leb, lt-leb}
use lib.ListN.{length, get_or, drop}
use lib.Seq.{drop-cons}
use lib.Dec.{leb, ltb, eqb}
use Rattle.std.specs.Prelude.{Some, None}
use Rattle.std.specs.Option.{unwrap_or}
use Rattle.std.specs.List.{list_all, position_or_len}
use Rattle.std.proofs.lemmas.List.Recursion.{is_position_or_len}
use Rattle.std.proofs.lemmas.Bool.{cases_lt}
use Rattle.text.specs.Written.{pick}
use Rattle.text.specs.Digits.{both, length_before, digit_value, all_digits, value_behind, only_if, number_in}
use Rattle.text.proofs.Texts.{drop_all}

-- ---- the end of a word

pick_is : (t : Bool) (x y : ℕ) → pick t x y ≡ cond t x y
pick_is true x y = refl
pick_is false x y = refl

-- what stands in front of the first `stop` is as long as std's `position` says, and all where there is none
pub before_is : (stop : ℕ) (text : List ℕ) → length_before stop text ≡ position_or_len (λ (b : ℕ). eqb b stop) text
unfolding length_before
before_is stop =
    is_position_or_len (length_before stop) (λ (b : ℕ). eqb b stop) refl
    (λ b rest. pick_is (eqb b stop) 0 (suc (length_before stop rest)) ∙ ap (cond (eqb b stop) 0) (omega arith))

pub place_or_length : (p l : ℕ) → p ≤ l → unwrap_or (cond (ltb p l) (Some p) None) l ≡ p
place_or_length p l h = elim (cases_lt p l) [ inl k ↦ rw (lt-ltb p l k) refl | inr k ↦ rw (le-ltb p l k) (omega arith) ]

-- ---- digits

module _ (b : ℕ) where
  pub digit_decimal : 48 ≤ b → b < 58 → b - 48 ≡ digit_value b
  unfolding digit_value
  digit_decimal h k = rw (le-ltb b 48 h, lt-ltb b 58 k)

  pub digit_upper : 65 ≤ b → b < 71 → 10 + (b - 65) ≡ digit_value b
  unfolding digit_value
  digit_upper h k = rw (le-ltb b 48 (omega arith), le-ltb b 58 (omega arith), le-ltb b 65 h, lt-ltb b 71 k) (omega arith)

  pub digit_lower : 97 ≤ b → b < 103 → 10 + (b - 97) ≡ digit_value b
  unfolding digit_value
  digit_lower h k =
      rw (le-ltb b 48 (omega arith), le-ltb b 58 (omega arith), le-ltb b 65 (omega arith), le-ltb b 71 (omega arith), le-ltb b 97 h)
      (rw (lt-ltb b 103 k) (omega arith))

  -- no digit: in front of the decimal ones, between, and behind all
  pub digit_before : b < 48 → 16 ≡ digit_value b
  unfolding digit_value
  digit_before h = rw (lt-ltb b 48 h)

  pub digit_between : 58 ≤ b → b < 65 → 16 ≡ digit_value b
  unfolding digit_value
  digit_between h k = rw (le-ltb b 48 (omega arith), le-ltb b 58 h, lt-ltb b 65 k)

  pub digit_between_cases : 71 ≤ b → b < 97 → 16 ≡ digit_value b
  unfolding digit_value
  digit_between_cases h k =
      rw (le-ltb b 48 (omega arith), le-ltb b 58 (omega arith), le-ltb b 65 (omega arith), le-ltb b 71 h, lt-ltb b 97 k)

  pub digit_behind : 103 ≤ b → 16 ≡ digit_value b
  unfolding digit_value
  digit_behind h =
      rw (
        le-ltb b 48 (omega arith),
        le-ltb b 58 (omega arith),
        le-ltb b 65 (omega arith),
        le-ltb b 71 (omega arith),
        le-ltb b 97
            (omega arith),
      )
      (rw (le-ltb b 103 h))

-- the arms of the code that reads a digit
pub ruleset digit_arms = (digit_decimal, digit_upper, digit_lower, digit_before, digit_between, digit_between_cases, digit_behind)

both_is : (a b : Bool) → both a b ≡ (a && b)
both_is true b = refl
both_is false b = refl

-- the test of all digits is std's `all`
pub digits_are : (base : ℕ) (word : List ℕ) → all_digits base word ≡ list_all (λ (b : ℕ). ltb (digit_value b) base) word
unfolding all_digits
digits_are base [] = refl
digits_are base (b ∷ word) = rw (digits_are base word) (both_is (ltb (digit_value b) base) _)

-- ---- the number that digits say

pub value_more : (word : List ℕ) (i n more : ℕ) → i < length word → value_behind 0 word ≡ value_behind n (drop i word)
    → more ≡ 10 * n + digit_value (get_or word i 0) → value_behind 0 word ≡ value_behind more (drop (i + 1) word)
unfolding value_behind
value_more word i n more h e m = e ∙ rw (add-one, drop-cons word i 0 h, m)

pub value_all : (word : List ℕ) (i n : ℕ) → length word ≤ i → value_behind 0 word ≡ value_behind n (drop i word) → value_behind 0 word ≡ n
unfolding value_behind
value_all word i n h e = e ∙ rw (drop_all word i h)

-- more digits never say less
pub value_grows : (n : ℕ) (word : List ℕ) → n ≤ value_behind n word
unfolding value_behind
value_grows n [] = omega arith
value_grows n (b ∷ word) = let g = value_grows (10 * n + digit_value b) word in omega arith

-- a number within the limit, and one that has passed it
pub value_is : (limit : ℕ) (word : List ℕ) (n : ℕ) → value_behind 0 word ≡ n → n ≤ limit
    → some n ≡ only_if (leb (value_behind 0 word) limit) (some (value_behind 0 word))
value_is limit word n e h = rw (e, le-leb n limit h)

pub value_over : (limit : ℕ) (word : List ℕ) (i more : ℕ) → value_behind 0 word ≡ value_behind more (drop (i + 1) word) → limit < more
    → none ≡ only_if (leb (value_behind 0 word) limit) (some (value_behind 0 word))
value_over limit word i more e h =
    let g = value_grows more (drop (i + 1) word) in
    rw (lt-leb (value_behind 0 word) limit (omega arith))

-- the tests in front
pub number_empty : (limit : ℕ) (word : List ℕ) → length word ≡ 0 → none ≡ number_in limit word
unfolding number_in
number_empty limit word e = rw (le-ltb 0 (length word) (omega arith)) refl

pub number_other : (limit : ℕ) (word : List ℕ) → (length word ≡ 0 → ⊥) → all_digits 10 word ≡ false → none ≡ number_in limit word
unfolding number_in
number_other limit word e d = rw (lt-ltb 0 (length word) (omega arith), d) refl

pub number_is : (limit : ℕ) (word : List ℕ) → (length word ≡ 0 → ⊥) → all_digits 10 word ≡ true
    → only_if (leb (value_behind 0 word) limit) (some (value_behind 0 word)) ≡ number_in limit word
unfolding number_in
number_is limit word e d = rw (lt-ltb 0 (length word) (omega arith), d) refl

-- ---- no word

pub none_there : (word : List ℕ) {empty : Bool} → empty ≡ eqb (length word) 0 → empty ≡ true → length word ≡ 0
none_there word e t = eqb-true (length word) 0 (sym e ∙ t)

pub some_there : (word : List ℕ) {empty : Bool} → empty ≡ eqb (length word) 0 → empty ≡ false → length word ≡ 0 → ⊥
some_there word e f z = absurd (let n : ◌≡◌ {A = ℕ} 0 1 = cc (eq-eqb (length word) 0 z) in omega arith)
