-- Values of 32 bits in 64 bits: a sum and a product of two fit, and which numbers are outside 32 bits. Assumes nothing.
use mathlib.Core.Path.{◌≡◌, refl, sym, ap, ◌∙◌, subst}
use mathlib.Core.Bool.{Bool, true, false}
use Prim.Native.Nat.{ℕ, zero, suc, ◌+◌, ◌*◌, ◌-◌, ◌≤◌}
use native.Mathlib.Omega.{arith}
use mathlib.Core.Bool.{cond}
use lib.Dec.{ltb}
use lib.IntN.{ℤ, pos, negsuc, neg_ℤ, sub_ℕ, ◌+ℤ◌, ◌*ℤ◌}
use lib.Signed.{mag}
use borrow.Author.Tests.{lt-leb, leb-false}
use mir.Syntax.{w32, w64}
use mir.Val.{to_z, of_z, SFits}
use mir.Facts.{sfits_widen, to_z-of_z}
use Rattle.rules.specs.Limits.{value_bound}
use Rattle.rules.specs.Causes.{outside}

mag_sub : (a b : ℕ) → mag (sub_ℕ a b) ≤ a + b
mag_sub a b = go (ltb a b)
  where
    go : (t : Bool) → mag (cond t (negsuc (b - suc a)) (pos (a - b))) ≤ a + b
    go true = omega arith
    go false = omega arith

pub sum_fits : (x y : ℤ) → SFits w32 x → SFits w32 y → SFits w64 (x +ℤ y)
sum_fits (pos a) (pos b) f h = record { sfits = omega (arith, f.sfits, h.sfits) }
sum_fits (pos a) (negsuc b) f h = record { sfits = omega (arith, f.sfits, h.sfits, mag_sub a (suc b)) }
sum_fits (negsuc a) (pos b) f h = record { sfits = omega (arith, f.sfits, h.sfits, mag_sub b (suc a)) }
sum_fits (negsuc a) (negsuc b) f h = record { sfits = omega (arith, f.sfits, h.sfits) }

times_le : (a b most : ℕ) → b ≤ most → a * b ≤ a * most
times_le zero b most h = omega arith
times_le (suc a) b most h = omega (arith, times_le a b most h)

-- the product of two numbers of at most 2^31 is at most 2^62
product_le : (a b : ℕ) → a ≤ value_bound → b ≤ value_bound → a * b ≤ value_bound * value_bound
product_le a b f h = omega (arith, times_le a b value_bound h)

mag_negated : (n : ℕ) → mag (neg_ℤ (pos n)) ≤ n
mag_negated zero = omega arith
mag_negated (suc n) = omega arith

pub product_fits : (x y : ℤ) → SFits w32 x → SFits w32 y → SFits w64 (x *ℤ y)
product_fits (pos a) (pos b) f h =
    record { sfits = omega (arith, product_le a b (omega (arith, f.sfits)) (omega (arith, h.sfits))) }
product_fits (pos a) (negsuc b) f h =
    record { sfits = omega (arith, mag_negated (a * suc b), product_le a (suc b) (omega (arith, f.sfits)) (omega (arith, h.sfits))) }
product_fits (negsuc a) (pos b) f h =
    record { sfits = omega (arith, mag_negated (suc a * b), product_le (suc a) b (omega (arith, f.sfits)) (omega (arith, h.sfits))) }
product_fits (negsuc a) (negsuc b) f h =
    record { sfits = omega (arith, product_le (suc a) (suc b) (omega (arith, f.sfits)) (omega (arith, h.sfits))) }

-- a value of 32 bits is not outside them, and any other is
pub fits_inside : (v : ℤ) → SFits w32 v → outside v ≡ false
fits_inside (pos n) f = lt-leb value_bound n (omega (arith, f.sfits))
fits_inside (negsuc n) f = lt-leb value_bound n (omega (arith, f.sfits))

pub other_outside : (v : ℤ) → (SFits w32 v → ⊥) → outside v ≡ true
other_outside v h = go (outside v) refl
  where
    small : (z : ℤ) → outside z ≡ false → SFits w32 z
    small (pos n) e = record { sfits = omega (arith, leb-false value_bound n e) }
    small (negsuc n) e = record { sfits = omega (arith, leb-false value_bound n e) }

    go : (b : Bool) → outside v ≡ b → outside v ≡ true
    go true e = e
    go false e = absurd (h (small v e))

-- a value of 32 bits moved, and moved again in 64 bits
pub widened : (x : ℤ) → SFits w32 x → to_z w64 (of_z w64 (to_z w32 (of_z w32 x))) ≡ x
widened x f = ap (λ (z : ℤ). to_z w64 (of_z w64 z)) (to_z-of_z {w = w32} f) ∙ to_z-of_z {w = w64} (sfits_widen tt f)

pub wide_fits : {x : ℤ} → SFits w32 x → SFits w64 (to_z w32 (of_z w32 x))
wide_fits f = subst (SFits w64) (sym (to_z-of_z {w = w32} f)) (sfits_widen tt f)
