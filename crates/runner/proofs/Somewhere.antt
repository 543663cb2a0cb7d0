-- Where no step was made, there is none. Assumes nothing.
use mathlib.Core.Path.{◌≡◌, refl}
use mathlib.Core.Option.{Option, none, some}
use Rattle.std.specs.Prelude.{None}
use Rattle.std.proofs.lemmas.Option.{none-some}
use Rattle.rules.specs.Run.{Step}
use Rattle.runner.specs.Runs.{stepped_by}

pub no_step : (x : Option Step) → None ≡ stepped_by x → x ≡ none
no_step none e = refl
no_step (some s) e = absurd (none-some s.position e)
