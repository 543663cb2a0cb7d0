-- Laws of the grammar: a remark, the parts of a line that the code cuts out, and a hex word in the front of the buffer. Assumes nothing.
use mathlib.Core.Path.{◌≡◌, refl, sym, ap, ◌∙◌}
use mathlib.Core.List.{List, [], ◌∷◌}
use mathlib.Core.Bool.{Bool, true, false, ◌&&◌}
use mathlib.Core.Option.{Option, none, some}
use Prim.Native.Nat.{ℕ, ◌+◌, ◌-◌, ◌/◌, ◌≤◌, ◌<◌}
use native.Mathlib.Decide.{dec_le}
use native.Mathlib.Numerals.{add-one}
use native.Mathlib.Omega.{arith}
use borrow.Author.Tests.{lt-ltb, le-ltb, le-leb, lt-leb, leb-true}
use lib.ListN.{length, get_or, take, drop, length-drop}
use lib.Seq.{take_at}
use lib.Dec.{leb, ltb, eqb}
use Rattle.std.specs.Cmp.Lexicographic.{pointwise}
use Rattle.rules.specs.Calls.{same_bytes}
use Rattle.words.proofs.Parts.{put_front, length_put}
use Rattle.text.specs.Written.{Written}
use Rattle.text.specs.Digits.{length_before, value_behind, all_digits, only_if, number_in, is_hex, hex_bytes}
use Rattle.text.proofs.Texts.{part_all}
use Rattle.text.proofs.Hex.{length_bytes}
use Rattle.commands.specs.Asked.{Asked, unknown, remark, asked, line_limit, space, remark_sign, is_remark, name_in}
use Rattle.commands.specs.Asked.{with_number, with_bytes, first_word, behind_word, with_two, bare_asked, named_asked}

-- ---- a remark

pub remark_none : (line : List ℕ) → length line ≡ 0 → false ≡ is_remark line
remark_none [] e = refl
remark_none (x ∷ line) e = absurd (omega arith)

pub remark_first : (line : List ℕ) → (length line ≡ 0 → ⊥) → eqb (get_or line 0 0) remark_sign ≡ is_remark line
remark_first [] h = absurd (h refl)
remark_first (x ∷ line) h = refl

-- ---- a hex word

pub not_bytes : (word : List ℕ) (f : List ℕ → Asked) → is_hex word ≡ false → unknown ≡ with_bytes word f
unfolding with_bytes
not_bytes word f h = rw h refl

-- the bytes stand in front
pub bytes_front : {m m' : List ℕ} {r : ℕ} (word : List ℕ) → length word / 2 ≤ length m → Written m 0 (hex_bytes word) m' r
    → (take r m' ≡ hex_bytes word) × (r ≤ length m')
bytes_front {m} {m'} {r} word l w =
    let n = length_bytes word in
    let e = w.memory ∙ put_front m (hex_bytes word) (omega arith) in
    let p = w.place in
    let s = ap length w.memory ∙ length_put m 0 (hex_bytes word) in
    (rw e (take_at (hex_bytes word) (drop (length (hex_bytes word)) m) r (omega arith)), omega arith)

pub bytes_are : {m m' : List ℕ} {r : ℕ} (word : List ℕ) (f : List ℕ → Asked) → is_hex word ≡ true → length word / 2 ≤ length m
    → Written m 0 (hex_bytes word) m' r → f (take r m') ≡ with_bytes word f
unfolding with_bytes
bytes_are word f h l w = rw h (ap f (bytes_front word l w).0)

-- ---- a number

-- where all three tests hold
only_all : (a b c : Bool) (v n : ℕ) → some n ≡ only_if a (only_if b (only_if c (some v))) → (c ≡ true) × (n ≡ v)
only_all true true true v n e = (refl, cc)
only_all true true false v n e = absurd (let z : ◌≡◌ {A = ℕ} 0 1 = cc in omega arith)
only_all true false c v n e = absurd (let z : ◌≡◌ {A = ℕ} 0 1 = cc in omega arith)
only_all false b c v n e = absurd (let z : ◌≡◌ {A = ℕ} 0 1 = cc in omega arith)

pub number_within : (limit n : ℕ) (word : List ℕ) → some n ≡ number_in limit word → n ≤ limit
unfolding number_in
number_within limit n word e =
    let v = value_behind 0 word in
    let all = only_all (ltb 0 (length word)) (all_digits 10 word) (leb v limit) v n e in
    let l = leb-true v limit all.0 in
    let same = all.1 in
    omega arith

-- ---- words

-- the comparison of std
pub same_is : (a b : List ℕ) → same_bytes a b ≡ pointwise eqb a b
unfolding same_bytes
same_is [] [] = refl
same_is [] (y ∷ b) = refl
same_is (x ∷ a) [] = refl
same_is (x ∷ a) (y ∷ b) =
    elim (eqb x y) as (λ (t : Bool). (elim t [ true ↦ same_bytes a b | false ↦ false ]) ≡ (t && pointwise eqb a b)) [
      | true ↦ same_is a b
      | false ↦ refl
    ]

-- a word was compared with a name that is written so
pub compared : (word name : List ℕ) {written : List ℕ} {r b : Bool} → written ≡ name → r ≡ pointwise eqb word written → r ≡ b
    → same_bytes word name ≡ b
compared word name e p t = same_is word name ∙ ap (pointwise eqb word) (sym e) ∙ sym p ∙ t

-- the two parts of words with a space, the first one at n
pub split_parts : (words : List ℕ) (n : ℕ) → n ≡ length_before space words → n ≤ length words → (n ≡ length words → ⊥)
    → (length_before space words < length words) × (take n words ≡ first_word words)
    × (take (length words - (n + 1)) (drop (n + 1) words) ≡ behind_word words)
unfolding first_word behind_word
split_parts words n e l h =
    (omega arith, ap (λ (k : ℕ). take k words) e, part_all words (length words) (n + 1) refl ∙ rw (add-one, e))

-- no space
pub two_none : (limit : ℕ) (words : List ℕ) (f : ℕ → List ℕ → Asked) → length_before space words ≡ length words
    → unknown ≡ with_two limit words f
unfolding with_two
two_none limit words f l = rw (le-ltb (length_before space words) (length words) (omega arith)) refl

two_some : (limit : ℕ) (words : List ℕ) (f : ℕ → List ℕ → Asked) → length_before space words < length words
    → with_number (number_in limit (first_word words)) (λ k. f k (behind_word words)) ≡ with_two limit words f
unfolding with_two
two_some limit words f h = rw (lt-ltb (length_before space words) (length words) h) refl

-- the first word is a number, and what is asked with it
pub two_number : (limit : ℕ) (words : List ℕ) (f : ℕ → List ℕ → Asked) (k : ℕ) {word behind : List ℕ} {x : Asked}
    → length_before space words < length words → word ≡ first_word words → behind ≡ behind_word words → some k ≡ number_in limit word
    → x ≡ f k behind → x ≡ with_two limit words f
two_number limit words f k h w b s p =
    let first = s ∙ ap (number_in limit) w in
    p ∙ ap (f k) b ∙ ap (λ (o : Option ℕ). with_number o (λ j. f j (behind_word words))) first ∙ two_some limit words f h

-- it is none
pub two_bad : (limit : ℕ) (words : List ℕ) (f : ℕ → List ℕ → Asked) {word : List ℕ} → length_before space words < length words
    → word ≡ first_word words → none ≡ number_in limit word → unknown ≡ with_two limit words f
two_bad limit words f h w s =
    let first = s ∙ ap (number_in limit) w in
    ap (λ (o : Option ℕ). with_number o (λ j. f j (behind_word words))) first ∙ two_some limit words f h

-- how long the rest is
pub rest_length : (words : List ℕ) → length (behind_word words) ≤ length words
unfolding behind_word
rest_length words = rw length-drop (omega arith)

-- ---- a line

pub line_long : (line : List ℕ) → line_limit < length line → unknown ≡ asked line
unfolding asked
line_long line h = rw (lt-leb (length line) line_limit h) refl

-- a remark has the length of a line
pub remark_short : (line : List ℕ) → remark ≡ asked line → length line ≤ line_limit
remark_short line e =
    let long : line_limit < length line → ⊥ = λ h. let u = line_long line h in let z : ◌≡◌ {A = ℕ} 0 1 = cc in omega arith in
    elim (dec_le (length line) line_limit) [ yes l ↦ l | no l ↦ absurd (long (omega arith)) ]

pub line_remark : (line : List ℕ) → length line ≤ line_limit → is_remark line ≡ true → remark ≡ asked line
unfolding asked
line_remark line h is = rw (le-leb (length line) line_limit h, is) refl

-- a line that is no remark
module _ (line : List ℕ) (h : length line ≤ line_limit) (other : is_remark line ≡ false) where
  pub line_bare : length_before space line ≡ length line → bare_asked line ≡ asked line
  unfolding asked
  line_bare l = rw (le-leb (length line) line_limit h, other, le-ltb (length_before space line) (length line) (omega arith)) refl

  pub line_full : {word behind : List ℕ} → length_before space line < length line → word ≡ first_word line → behind ≡ behind_word line
      → named_asked (name_in word) behind ≡ asked line
  unfolding asked
  line_full l w b =
      rw (w, b, le-leb (length line) line_limit h, other, lt-ltb (length_before space line) (length line) l) refl
