-- Rows that are tested in a function of their own, and what that leaves for the step of a record: a refusal by its rows 5 to 11 is the
-- answer, and where none holds the answer is that of rows 12 to 15, which look at what is shared. Assumes nothing.
use mathlib.Core.Path.{◌≡◌, refl, sym, ap, ◌∙◌}
use mathlib.Core.Bool.{true, false}
use mathlib.Core.List.{List, [], ◌∷◌, ◌++◌}
use Prim.Native.Nat.{ℕ}
use native.Mathlib.Omega.{arith}
use Rattle.rules.specs.State.{State, Registers}
use Rattle.rules.specs.Refusal.{Answer, refused, done, Row, unless, number_of, NoCause}
use Rattle.rules.specs.Instruction.{Instruction}
use Rattle.rules.specs.Causes.{own_causes, shared_causes}
use Rattle.rules.specs.RecordStep.{lowest_free, after}
use Rattle.rules.specs.Ask.{answer_to}
use Rattle.rules.proofs.Promises.{is_refused}
use Rattle.rules.proofs.Rows.{all_passed}
use Rattle.causes.specs.Own.{rows_reply, own_reply}

pub refused_not_done : {A : Type 0} {n : ℕ} → ◌≡◌ {A = Answer (Unit {0})} (refused n) (done tt) → A
refused_not_done e = absurd (let z : ◌≡◌ {A = ℕ} 1 0 = ap is_refused e in omega arith)

-- ---- any rows

-- where the reply is done none of them holds
pub none_holds : (rows : List Row) → rows_reply rows ≡ done tt → NoCause rows
none_holds rows e = (all_passed rows (done tt) tt e).0

-- and the answer is the one behind them
pub goes_on : {A : Type 0} (rows : List Row) (a : Answer A) → rows_reply rows ≡ done tt → unless rows a ≡ a
unfolding unless
goes_on [] a e = refl
goes_on ((k, true) ∷ rows) a e = refused_not_done e
goes_on ((k, false) ∷ rows) a e = goes_on rows a e

-- where the reply is a number, the answer is
pub one_holds : {A : Type 0} (rows : List Row) (a : Answer A) (n : ℕ) → rows_reply rows ≡ refused n → unless rows a ≡ refused n
unfolding unless
one_holds [] a n e = refused_not_done (sym e)
one_holds ((k, true) ∷ rows) a n e = ap refused (ap number_of e)
one_holds ((k, false) ∷ rows) a n e = one_holds rows a n e

-- rows in two parts are asked one part after the other
pub in_parts : {A : Type 0} (rows more : List Row) (a : Answer A) → unless (rows ++ more) a ≡ unless rows (unless more a)
unfolding unless
in_parts [] more a = refl
in_parts ((k, true) ∷ rows) more a = refl
in_parts ((k, false) ∷ rows) more a = in_parts rows more a

-- ---- the rows 5 to 11, then 12 to 15

module _ (st : State) (r next : ℕ) (g : Registers) (i : Instruction) where
  own_first : answer_to st r next g i ≡ unless (own_causes g i)
      (unless (shared_causes st g i) (done (after st r next g (lowest_free st) i)))
  unfolding answer_to
  own_first = in_parts (own_causes g i) (shared_causes st g i) _

  pub own_refused : (n : ℕ) → own_reply g i ≡ refused n → answer_to st r next g i ≡ refused n
  own_refused n e = own_first ∙ one_holds (own_causes g i) _ n e

  pub own_done : own_reply g i ≡ done tt
      → answer_to st r next g i ≡ unless (shared_causes st g i) (done (after st r next g (lowest_free st) i))
  own_done e = own_first ∙ goes_on (own_causes g i) _ e
