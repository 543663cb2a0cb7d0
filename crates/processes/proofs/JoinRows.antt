-- The rows 12 and 14 of same, one after the other, over plain variables. Assumes nothing.
use mathlib.Core.Path.{◌≡◌, refl, sym, ap, ◌∙◌}
use mathlib.Core.Bool.{true, false}
use Prim.Native.Nat.{ℕ, ◌<◌}
use native.Mathlib.Omega.{arith}
use lib.Dec.{eqb}
use borrow.Author.Tests.{lt-ltb, le-ltb}
use Rattle.rules.specs.State.{State, EndState, free_end, used, Registers, end_at, end_in, end_or, is_free_end, queue_length, partner_of}
use Rattle.rules.specs.Refusal.{unless, refused, done}
use Rattle.rules.specs.Instruction.{same}
use Rattle.rules.specs.Causes.{names, partners, queue_not_empty, shared_causes}
use Rattle.processes.specs.Joinable.{shared_reply}

module _ (st : State) (g : Registers) (c d : ℕ) where
  pub one_slot_twice : eqb c d ≡ true → refused 12 ≡ shared_reply st g (same c d)
  unfolding shared_causes unless
  one_slot_twice t = rw t

  pub two_partners : eqb c d ≡ false → partners st c d g ≡ true → refused 12 ≡ shared_reply st g (same c d)
  unfolding shared_causes unless
  two_partners f t = rw (f, t)

  pub first_queued : eqb c d ≡ false → partners st c d g ≡ false → queue_not_empty st c g ≡ true → refused 14 ≡ shared_reply st g (same c d)
  unfolding shared_causes unless
  first_queued f f' t = rw (f, f', t)

  pub second_queued : eqb c d ≡ false → partners st c d g ≡ false → queue_not_empty st c g ≡ false → queue_not_empty st d g ≡ true
      → refused 14 ≡ shared_reply st g (same c d)
  unfolding shared_causes unless
  second_queued f f' f'' t = rw (f, f', f'', t)

  pub no_row : eqb c d ≡ false → partners st c d g ≡ false → queue_not_empty st c g ≡ false → queue_not_empty st d g ≡ false
      → done tt ≡ shared_reply st g (same c d)
  unfolding shared_causes unless
  no_row f f' f'' f''' = rw (f, f', f'', f''')

  -- the partner that is read, of an end in use, against the other end
  pub mated : (x y k : ℕ) → x ≡ end_in g c → y ≡ end_in g d → is_free_end (end_at st x) ≡ false → k ≡ end_or 0 (partner_of (end_at st x))
      → eqb k y ≡ partners st c d g
  mated x y k xe ye used-x q = rw (sym xe, sym ye) (go (end_at st x) refl)
    where
      go : (z : EndState) → end_at st x ≡ z → eqb k y ≡ names (partner_of (end_at st x)) y
      go free_end e = absurd cc
      go (used m ds l) e = rw e (ap (λ (n : ℕ). eqb n y) (q ∙ ap (λ (z : EndState). end_or 0 (partner_of z)) e))

-- the length of a queue that is read
pub some_queued : (st : State) (g : Registers) (c x k : ℕ) → x ≡ end_in g c → k ≡ queue_length (end_at st x) → 0 < k
    → queue_not_empty st c g ≡ true
some_queued st g c x k xe q h = rw (sym xe) (lt-ltb 0 (queue_length (end_at st x)) (omega (arith, q, h)))

pub none_queued : (st : State) (g : Registers) (c x k : ℕ) → x ≡ end_in g c → k ≡ queue_length (end_at st x) → k ≡ 0
    → queue_not_empty st c g ≡ false
none_queued st g c x k xe q h = rw (sym xe) (le-ltb 0 (queue_length (end_at st x)) (omega (arith, q, h)))
