-- Laws of the search for a nonzero byte, from byte i on. Assumes nothing.
use mathlib.Core.Path.{◌≡◌, refl, sym, ◌∙◌}
use mathlib.Core.Bool.{Bool, true, false, not, ◌||◌}
use mathlib.Core.List.{List, [], ◌∷◌}
use Prim.Native.Nat.{ℕ, zero, suc, ◌+◌, ◌<◌}
use native.Mathlib.Decide.{ℕ_discrete}
use native.Mathlib.Numerals.{add-one}
use native.Mathlib.Omega.{arith}
use borrow.Author.Tests.{eq-eqb, ne_eqb}
use lib.Dec.{eqb}
use lib.ListN.{length, get_or, drop}
use lib.Seq.{drop-cons}
use Rattle.std.specs.List.{list_any}
use Rattle.rules.specs.Bytes.{pad}
use Rattle.rules.specs.Image.{any_nonzero}

module _ (bytes : List ℕ) (i : ℕ) where
  pub zeros_next : i < length bytes → get_or bytes i 0 ≡ 0 → any_nonzero (drop i bytes) ≡ any_nonzero (drop (i + 1) bytes)
  unfolding any_nonzero
  zeros_next h e = rw (add-one, drop-cons bytes i 0 h, eq-eqb (get_or bytes i 0) 0 e, any_nonzero)

  pub zeros_stop : i < length bytes → (get_or bytes i 0 ≡ 0 → ⊥) → any_nonzero (drop i bytes) ≡ true
  unfolding any_nonzero
  zeros_stop h e = rw (drop-cons bytes i 0 h, ne_eqb (get_or bytes i 0) 0 e, any_nonzero)

-- the search is that of std's `any`
pub any_nonzero_is : (bytes : List ℕ) → any_nonzero bytes ≡ list_any (λ (b : ℕ). not (eqb b 0)) bytes
unfolding any_nonzero
any_nonzero_is [] = refl
any_nonzero_is (b ∷ bytes) =
    let rest : List ℕ → Bool = list_any (λ (b : ℕ). not (eqb b 0)) in
    elim (eqb b 0) as (λ (t : Bool). (elim t [ true ↦ any_nonzero bytes | false ↦ true ]) ≡ (not t || rest bytes)) [
      | true ↦ any_nonzero_is bytes
      | false ↦ refl
    ]

-- padding is zero
pub zeros_pad : (n : ℕ) → any_nonzero (pad n 0 []) ≡ false
unfolding any_nonzero pad
zeros_pad zero = refl
zeros_pad (suc n) = zeros_pad n

-- where none is nonzero, each is zero
front : (b : ℕ) (bytes : List ℕ) → any_nonzero (b ∷ bytes) ≡ false → (b ≡ 0) × (any_nonzero bytes ≡ false)
front b bytes e = go (ℕ_discrete b 0)
  where
    go : Dec (b ≡ 0) → (b ≡ 0) × (any_nonzero bytes ≡ false)
    go (yes z) = (z, sym (zeros_next (b ∷ bytes) 0 (omega arith) z) ∙ e)
    go (no n) = absurd (let z : ◌≡◌ {A = ℕ} 0 1 = cc (zeros_stop (b ∷ bytes) 0 (omega arith) n) in omega arith)

pub zero_at : (bytes : List ℕ) (i : ℕ) → any_nonzero bytes ≡ false → get_or bytes i 0 ≡ 0
zero_at [] i e = refl
zero_at (b ∷ bytes) zero e = (front b bytes e).0
zero_at (b ∷ bytes) (suc i) e = zero_at bytes i (front b bytes e).1
