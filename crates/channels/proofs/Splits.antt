-- split over plain variables: the state after, which test leads to which answer, and the four ends that the word of free ends names.
-- Assumes nothing.
use mathlib.Core.Path.{◌≡◌, sym, ◌∙◌}
use mathlib.Core.Bool.{true, false}
use Prim.Native.Nat.{ℕ, ◌≤◌}
use native.Mathlib.Omega.{arith}
use lib.ListN.{length}
use Rattle.rules.specs.State.{State, Registers as Process, registers, last, split_item, running, end_at, end_in}
use Rattle.rules.specs.State.{set_record, set_end, appended, fresh_end}
use Rattle.rules.specs.Slots.{emptied, holding}
use Rattle.rules.specs.Refusal.{refused, done, unless}
use Rattle.rules.specs.Instruction.{split}
use Rattle.rules.specs.Causes.{queue_full, few_free_ends, shared_causes}
use Rattle.rules.specs.RecordStep.{lowest_free, append, paired, after}
use Rattle.rules.specs.Layout.{free_word}
use Rattle.keeping.proofs.LayoutLaws.{Sized}
use Rattle.keeping.proofs.FreeLaws.{FourFree, four_free}
use Rattle.ends.specs.declared.word.FourEnds.{FourEnds}
use Rattle.ends.specs.Words.{ends_in, FourLowest}
use Rattle.ends.proofs.Changes.{sized_anew}
use Rattle.ends.proofs.Words.{agrees}
use Rattle.stepping.proofs.FreeEnds.{enough_ends}
use Rattle.channels.specs.Splitting.{FourWithin, shared_answer}

-- ---- the state after

-- the split on the queue of end e, and new ends p, q, s, t
abbrev pub split_ends : State → (e p q s t : ℕ) → State
split_ends st e p q s t = paired (paired (append st e (last (split_item q t))) p q) s t

abbrev pub split_registers : Process → (c a b next p s : ℕ) → Process
split_registers g c a b next p s =
    registers next g.stack g.environment (holding (holding (emptied g.slots c) a p) b s)

pub sized_split : (st : State) → Sized st → (e p q s t : ℕ) → Sized (split_ends st e p q s t)
sized_split st z e p q s t =
    let st₁ = append st e (last (split_item q t)) in
    let st₂ = paired st₁ p q in
    let z₁ = sized_anew st₁ p (fresh_end q) (sized_anew st e (appended (last (split_item q t)) (end_at st e)) z) in
    let z₂ = sized_anew (set_end st₁ p (fresh_end q)) q (fresh_end p) z₁ in
    sized_anew (set_end st₂ s (fresh_end t)) t (fresh_end s) (sized_anew st₂ s (fresh_end t) z₂)

-- ---- the answers

module _ (st : State) (r next : ℕ) (g : Process) (c a b : ℕ) where
  pub split_full : queue_full st c g ≡ true → shared_answer st r next g (split c a b) ≡ refused 13
  unfolding unless shared_causes
  split_full t = rw t

  pub split_few : queue_full st c g ≡ false → few_free_ends 4 st ≡ true → shared_answer st r next g (split c a b) ≡ refused 15
  unfolding unless shared_causes
  split_few f t = rw (f, t)

  split_state : (e p q s t : ℕ) → State
  split_state e p q s t = set_record (split_ends st e p q s t) r (running (split_registers g c a b next p s))

  -- the end is that of slot c, and the new ends are the lowest free ones
  pub split_done : {e p q s t : ℕ} → queue_full st c g ≡ false → few_free_ends 4 st ≡ false → e ≡ end_in g c → p ≡ (lowest_free st).p
      → q ≡ (lowest_free st).q → s ≡ (lowest_free st).s → t ≡ (lowest_free st).t
      → shared_answer st r next g (split c a b) ≡ done (set_record (split_ends st e p q s t) r (running (split_registers g c a b next p s)))
  unfolding unless shared_causes after split_state
  split_done f f' e p q s t = rw (f, f') (λ i. done (split_state (sym e i) (sym p i) (sym q i) (sym s i) (sym t i)))

-- ---- the four lowest free ends

pub record NewEnds (st : State) (new : FourEnds) : Type 0 where
  pub enough : few_free_ends 4 st ≡ false
  pub p_is : new.p.0 ≡ (lowest_free st).p
  pub q_is : new.q.0 ≡ (lowest_free st).q
  pub s_is : new.s.0 ≡ (lowest_free st).s
  pub t_is : new.t.0 ≡ (lowest_free st).t
  pub free : FourFree st new.p.0 new.q.0 new.s.0 new.t.0

-- the word of free ends names at least four
pub new_ends : (st : State) (z : Sized st) (word : ℕ) (is : word ≡ free_word st.ends) {k : ℕ} (count : k ≡ length (ends_in word)) → 4 ≤ k
    → (new : FourEnds) → FourLowest (ends_in word) new → NewEnds st new
new_ends st z word is count l new four =
    let a = agrees st z word is in
    let enough = enough_ends st z word is count 4 l in
    let p = four.first ∙ a.first in
    let q = four.second ∙ a.second in
    let s = four.third ∙ a.third in
    let t = four.fourth ∙ a.fourth in
    record { enough = enough; p_is = p; q_is = q; s_is = s; t_is = t; free = rw (p, q, s, t) (four_free st enough) }

pub new_within : (st : State) → Sized st → (new : FourEnds) → NewEnds st new → FourWithin new
new_within st z new n =
    let f = n.free in
    record {
      p_within = omega (arith, f.first_two.p_free.in_list, z.ends_sized);
      q_within = omega (arith, f.first_two.q_free.in_list, z.ends_sized);
      s_within = omega (arith, f.last_two.p_free.in_list, z.ends_sized);
      t_within = omega (arith, f.last_two.q_free.in_list, z.ends_sized);
    }
