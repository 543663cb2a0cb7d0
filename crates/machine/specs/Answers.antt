-- What the answers of the public functions stand for. Assumes nothing.
use Rattle.std.specs.Prelude.{List, ℕ, Result, Ok, Err}
use Rattle.rules.specs.Refusal.{Answer, refused, done}
use Rattle.rules.specs.Calls as rules
use Rattle.rules.specs.Calls.{where_sound}
use Rattle.rules.specs.Numbers.{refusal_number}
use Rattle.rules.specs.declared.Refusal.{Refusal}
use Rattle.machine.specs.declared.FreeEnds.{FreeEnds}

-- 24, 1, or nothing to refuse
abbrev pub sound_reply : List ℕ → Answer (Unit {0})
sound_reply m = where_sound m (done tt)

-- the two numbers, or why there are none
abbrev pub free_answer : Result FreeEnds Refusal → Answer rules.FreeEnds
free_answer (Ok x) = done (record { count = x.count; lowest = x.lowest })
free_answer (Err r) = refused (refusal_number r)
