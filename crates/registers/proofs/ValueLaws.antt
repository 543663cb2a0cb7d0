-- Arrays of values: what a shift by one makes of a padded list, their counts, and the values passed to a callee. Assumes nothing.
use mathlib.Core.Path.{◌≡◌, refl, sym, ap, ◌∙◌}
use mathlib.Core.List.{List, [], ◌∷◌, ◌++◌, append-nil, reverse, reverse-append}
use Prim.Native.Nat.{ℕ, zero, suc, ◌+◌, ◌-◌, ◌≤◌, ◌<◌}
use native.Mathlib.Numerals.{add-one}
use native.Mathlib.Nat.{le_of_suc-le-suc}
use native.Mathlib.Omega.{arith}
use lib.ListN.{length, get_or, set, take, drop, length-drop, drop_of_length-le}
use lib.Seq.{get_or-drop, drop-drop, take-suc}
use lib.IntN.{ℤ, pos}
use mir.Syntax.{w32}
use mir.Val.{Val, to_z, of_z, SFits}
use denote.Signed.{SInt}
use denote.Array.{Array, each}
use denote.Shadow.{shadow}
use denote.Laws.{Is}
use borrow.Author.Rules.{rules}
use Rattle.rules.specs.Limits.{stack_depth}
use Rattle.std.specs.List.{copy_within}
use Rattle.std.proofs.Common.{take_all}
use Rattle.std.proofs.lemmas.List.{set-append_right}
use Rattle.rules.specs.Bytes.{pad}
use Rattle.rules.specs.State.{Value, Registers as Process, registers}
use Rattle.words.proofs.Pads.{length_pad, get_d_pad, take_pad, drop_pad}
use Rattle.registers.specs.Registers.{stored, passed}

-- ---- the values of an array fit

each_fits : (xs : List ℤ) (us : List Val) (i : ℕ) → shadow (each ℤ (SInt w32).own_val xs us) → SFits w32 (get_or xs i (pos 0))
each_fits [] us i p = search rules
each_fits (x ∷ xs) [] i p = absurd p
each_fits (x ∷ xs) (u ∷ us) zero p = record { sfits = p.0.1 }
each_fits (x ∷ xs) (u ∷ us) (suc i) p = each_fits xs us i p.1

pub values_fit : (n : ℕ) (xs : List ℤ) (vs : List Val) → Is (Array (SInt w32) n) xs vs → (i : ℕ) → SFits w32 (get_or xs i (pos 0))
values_fit n xs vs p i = each_fits xs p.0 i p.1.1

-- ---- padded lists

-- a value as it is read back from its bits
abbrev pub moved : Value → Value
moved v = to_z w32 (of_z w32 v)

-- the value in cell i
pub value_is : (i : ℕ) {a : List Value} (l : List Value) → i < stack_depth → a ≡ pad stack_depth (pos 0) l
    → get_or a i (pos 0) ≡ get_or l i (pos 0)
value_is i l h e = ap (λ (x : List Value). get_or x i (pos 0)) e ∙ get_d_pad stack_depth (pos 0) l i h

-- one more cell behind a padded list
pad_last : (n : ℕ) (z : Value) (l : List Value) → length l ≤ n → pad n z l ++ (z ∷ []) ≡ pad (suc n) z l
unfolding pad
pad_last zero z [] h = refl
pad_last zero z (x ∷ l) h = absurd (omega arith)
pad_last (suc n) z [] h = ap (λ (r : List Value). z ∷ r) (pad_last n z [] (omega arith))
pad_last (suc n) z (x ∷ l) h = ap (λ (r : List Value). x ∷ r) (pad_last n z l (le_of_suc-le-suc h))

set_only : (z : Value) (l : List Value) → length l ≡ 1 → set l 0 z ≡ z ∷ []
set_only z [] e = absurd (omega arith)
set_only z (x ∷ []) e = refl
set_only z (x ∷ y ∷ l) e = absurd (omega arith)

module _ (n : ℕ) (z : Value) where
  behind_first : (l : List Value) → take (n - 0) (pad (suc n) z l) ++ drop (1 + (n - 0)) (pad (suc n) z l) ≡ pad n z l
  behind_first l =
      let cells : List Value = pad (suc n) z l in
      let all : n - 0 ≡ n = omega arith in
      let past : length cells ≤ 1 + n = omega (arith, length_pad (suc n) z l) in
      ap (λ (k : ℕ). take k cells ++ drop (1 + k) cells) all
      ∙ ap (λ (r : List Value). take n cells ++ r) (drop_of_length-le cells past)
      ∙ append-nil (take n cells)
      ∙ ap (λ (k : ℕ). take n (pad k z l)) (sym (add-one n))
      ∙ take_pad n 1 z l

  -- the padded list moved on by one cell, and v in front
  pub front_pad : (v : Value) (l : List Value) → set (copy_within (pad (suc n) z l) 0 n 1) 0 v ≡ pad (suc n) z (v ∷ l)
  unfolding pad
  front_pad v [] = ap (λ (r : List Value). v ∷ r) (behind_first [])
  front_pad v (x ∷ l) = ap (λ (r : List Value). v ∷ r) (behind_first (x ∷ l))

  -- the padded list moved back by one cell, and the last cell zero
  pub behind_pad : (l : List Value) → length l ≤ suc n → set (copy_within (pad (suc n) z l) 1 (suc n) 0) n z ≡ pad (suc n) z (drop 1 l)
  behind_pad l h =
      let cells : List Value = pad (suc n) z l in
      let front : List Value = pad n z (drop 1 l) in
      let last : List Value = drop (0 + (suc n - 1)) cells in
      let all : suc n - 1 ≡ n = omega arith in
      let one : 1 + n ≡ suc n = omega arith in
      let none : n - n ≡ 0 = omega arith in
      let moved : take (suc n - 1) (drop 1 cells) ≡ front =
      (λ i. take (all i) (drop 1 (pad (sym one i) z l)))
      ∙ ap (take n) (drop_pad 1 n z l)
      ∙ take_all n front (omega (arith, length_pad n z (drop 1 l))) in
      ap (λ (r : List Value). set (r ++ last) n z) moved
      ∙ set-append_right front last n n z (length_pad n z (drop 1 l)) (omega arith)
      ∙ ap (λ (k : ℕ). front ++ set last k z) none
      ∙ ap (λ (r : List Value). front ++ r) (set_only z last (omega (arith, length-drop (0 + (suc n - 1)) cells, length_pad (suc n) z l)))
      ∙ pad_last n z (drop 1 l) (omega (arith, length-drop 1 l))

-- another value in front
pub front_is : (l : List Value) {v w : Value} → v ≡ w → pad stack_depth (pos 0) (v ∷ l) ≡ pad stack_depth (pos 0) (w ∷ l)
front_is l e = ap (λ (v : Value). pad stack_depth (pos 0) (v ∷ l)) e

-- ---- counts

pub one_more : {n : ℕ} (v : Value) (l : List Value) → n ≡ length l → n + 1 ≡ length (v ∷ l)
one_more v l e = omega arith

pub one_less : {n : ℕ} (l : List Value) → n ≡ length l → n - 1 ≡ length (drop 1 l)
one_less l e = omega (arith, length-drop 1 l)

-- the two in front, for one
pub two_for_one : {n : ℕ} (v : Value) (l : List Value) → 1 < n → n ≡ length l → n - 1 ≡ length (v ∷ drop 2 l)
two_for_one v l h e = omega (arith, length-drop 2 l)

-- ---- n values passed to a callee

pub dropped_fits : (n : ℕ) (l : List Value) → length l ≤ stack_depth → length (drop n l) ≤ stack_depth
dropped_fits n l h = omega (arith, length-drop n l)

-- one more value
pub stored_passed : (g : Process) (k : ℕ) → k < length g.stack → stored (passed g k) ≡ passed g (k + 1)
stored_passed g k h = λ i. registers g.place (drop-drop 1 k g.stack i) (environment i) g.slots
  where
    newest : get_or (drop k g.stack) 0 (pos 0) ≡ get_or g.stack k (pos 0)
    newest = get_or-drop k g.stack 0 (pos 0) ∙ ap (λ (j : ℕ). get_or g.stack j (pos 0)) (omega arith)

    environment : get_or (drop k g.stack) 0 (pos 0) ∷ reverse (take k g.stack) ≡ reverse (take (k + 1) g.stack)
    environment =
        ap (λ (v : Value). v ∷ reverse (take k g.stack)) newest
        ∙ sym (reverse-append (take k g.stack) (get_or g.stack k (pos 0) ∷ []))
        ∙ ap reverse (sym (take-suc g.stack k (pos 0) h) ∙ ap (λ (j : ℕ). take j g.stack) (sym (add-one k)))
