-- What is written through pointers, by the answer of a run: the case that the code took is the case of the definition. Assumes nothing.
use mathlib.Core.Path.{◌≡◌, refl, ap}
use Prim.Native.Nat.{ℕ}
use native.Mathlib.Omega.{arith}
use Rattle.rules.specs.Refusal.{Answer, refused, done, number_of}
use Rattle.rules.specs.Run as rules
use Rattle.runner.specs.declared.running.Ran.{Ran}
use Rattle.rules.proofs.Promises.{is_refused}
use Rattle.runner.specs.declared.verdict.Verdict.{Verdict}
use Rattle.runner.specs.declared.verdict.Verdict.TheVariants.{Spent}
use Rattle.runner.specs.Runs.{ran_reply}
use Rattle.amulingsad.specs.Answers.{steps_or, next_or, verdict_or, verdict_number}

abbrev steps_in : Answer Ran → ℕ
steps_in (done x) = x.steps
steps_in (refused n) = 0

abbrev next_in : Answer Ran → ℕ
next_in (done x) = x.next
next_in (refused n) = 0

abbrev verdict_in : Answer Ran → Verdict
verdict_in (done x) = x.verdict
verdict_in (refused n) = Spent

pub refused_run : (a : Answer rules.Ran) (n : ℕ) → refused n ≡ ran_reply a → refused n ≡ a
refused_run (refused k) n e = ap refused (ap number_of e)
refused_run (done ran) n e = absurd (omega (arith, ap is_refused e))

-- a run that was made: the number, and each answer
pub record MadeRun (a : Answer rules.Ran) (steps next : ℕ) (v : Verdict) : Type 0 where
  pub number_is : 0 ≡ number_of a
  pub steps_are : (before : ℕ) → steps ≡ steps_or before a
  pub next_is : (before : ℕ) → next ≡ next_or before a
  pub verdict_is : (before : ℕ) → verdict_number v ≡ verdict_or before a

pub made_run : (a : Answer rules.Ran) (steps next : ℕ) (v : Verdict) → done (record { steps = steps; next = next; verdict = v })
    ≡ ran_reply a → MadeRun a steps next v
made_run (refused k) steps next v e = absurd (omega (arith, ap is_refused e))
made_run (done ran) steps next v e = record {
  number_is = refl;
  steps_are = λ before. ap steps_in e;
  next_is = λ before. ap next_in e;
  verdict_is = λ before. ap (λ (x : Answer Ran). verdict_number (verdict_in x)) e;
}
