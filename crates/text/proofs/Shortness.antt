-- How long a number is in decimal. Assumes nothing.
use mathlib.Core.Path.{ap}
use mathlib.Core.List.{List, [], ◌∷◌}
use Prim.Native.Nat.{ℕ, zero, suc, ◌+◌, ◌/◌, ◌%◌, ◌^◌, ◌≤◌, ◌<◌}
use native.Mathlib.Omega.{arith}
use lib.ListN.{length}
use lib.IntN.{ℤ, pos, negsuc}
use mir.Syntax.{w32}
use mir.Val.{SFits}
use Rattle.rules.specs.Text.{text, digits_before, decimal, signed_decimal}
use Rattle.text.proofs.Decimals.{digits_left, digits_first, digits_next, less_left}

-- digits that are left to spell
left_short : (most k rest : ℕ) (low : List ℕ) → rest < 10 ^ k → length (digits_left most rest low) ≤ k + length low
unfolding digits_left digits_before
left_short zero k rest low h = go rest
  where
    go : (rest : ℕ) → length (digits_left zero rest low) ≤ k + length low
    go zero = omega arith
    go (suc j) = omega arith
left_short (suc most) k rest low h = go k rest h (λ k' rest' low' h'. left_short most k' rest' low' h')
  where
    go : (k rest : ℕ) → rest < 10 ^ k
        → ((k' rest' : ℕ) (low' : List ℕ) → rest' < 10 ^ k' → length (digits_left most rest' low') ≤ k' + length low')
        → length (digits_left (suc most) rest low) ≤ k + length low
    go k zero h shorter = omega arith
    go zero (suc j) h shorter = absurd (omega arith)
    go (suc k) (suc j) h shorter =
        let more = shorter k (suc j / 10) ((48 + suc j % 10) ∷ low) (less_left k (suc j) h) in
        omega (arith, more, ap length (digits_next most (suc j) low (omega arith)))

-- a number below a power of ten has so many digits
pub decimal_short : (k n : ℕ) → n < 10 ^ suc k → length (decimal n) ≤ suc k
decimal_short k n h =
    omega (arith, ap length (digits_first n), left_short 19 k (n / 10) ((48 + n % 10) ∷ []) (less_left k n h))

-- a signed number of 32 bits
pub signed_short : (z : ℤ) → SFits w32 z → length (signed_decimal z) ≤ 11
unfolding signed_decimal text
signed_short (pos n) f = let l = f.sfits in omega (arith, decimal_short 9 n (omega arith))
signed_short (negsuc n) f = let l = f.sfits in omega (arith, decimal_short 9 (suc n) (omega arith))

-- any number has as many digits as are spelled, at most
spelled_short : (most n : ℕ) (low : List ℕ) → length (digits_before most n low) ≤ most + length low
unfolding digits_before
spelled_short zero n low = omega arith
spelled_short (suc most) n low = go (n / 10) (spelled_short most (n / 10) ((48 + n % 10) ∷ low))
  where
    go : (q : ℕ) → length (digits_before most (n / 10) ((48 + n % 10) ∷ low)) ≤ most + suc (length low)
        → length {A = ℕ} (elim q [ zero ↦ (48 + n % 10) ∷ low | suc k ↦ digits_before most (n / 10) ((48 + n % 10) ∷ low) ])
        ≤ suc most + length low
    go zero h = omega arith
    go (suc k) h = omega (arith, h)

pub decimal_room : (n : ℕ) → length (decimal n) ≤ 20
unfolding decimal
decimal_room n = omega (arith, spelled_short 20 n [])
