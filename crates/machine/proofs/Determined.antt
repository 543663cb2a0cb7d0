-- Two answers that the contract of `free_ends` allows are equal. For the asks and the load this is `answers_equal` of `rules`. Assumes
-- nothing.
use mathlib.Core.Path.{◌≡◌, refl, sym, ap, ◌∙◌}
use Rattle.std.specs.Prelude.{Result, Ok, Err}
use Rattle.rules.specs.Calls as rules
use Rattle.rules.specs.Refusal.{Answer, refused, done}
use Rattle.rules.specs.Numbers.{answer_of}
use Rattle.rules.specs.declared.Refusal.{Refusal}
use Rattle.rules.proofs.Promises.{same_answer}
use Rattle.machine.specs.declared.FreeEnds.{FreeEnds}
use Rattle.machine.specs.Answers.{free_answer}

-- the rules' numbers as the code's
abbrev in_code : Answer rules.FreeEnds → Answer FreeEnds
in_code (refused n) = refused n
in_code (done x) = done (record { count = x.count; lowest = x.lowest })

said : (a : Result FreeEnds Refusal) → in_code (free_answer a) ≡ answer_of a
said (Ok x) = refl
said (Err r) = refl

pub free_once : (a b : Result FreeEnds Refusal) → free_answer a ≡ free_answer b → a ≡ b
free_once a b e = same_answer a b (sym (said a) ∙ ap in_code e ∙ said b)
