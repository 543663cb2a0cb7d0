-- The first values of an array as they are shown: how many, and the text of each. Assumes nothing.
use mathlib.Core.Path.{◌≡◌, ap, ◌∙◌}
use mathlib.Core.List.{List, map}
use Prim.Native.Nat.{ℕ, ◌≤◌, ◌<◌}
use lib.ListN.{length, get_or, take, length-map, get_or-map}
use lib.Seq.{get_or-take, length-take-le}
use lib.IntN.{pos}
use Rattle.rules.specs.State.{Value}
use Rattle.rules.specs.Text.{signed_decimal}

-- the texts of the first values
abbrev pub value_texts : (count : ℕ) → List Value → List (List ℕ)
value_texts count values = map signed_decimal (take count values)

pub values_count : (count : ℕ) (values : List Value) → count ≤ length values → length (value_texts count values) ≡ count
values_count count values h = length-map (take count values) signed_decimal ∙ length-take-le count values h

pub value_at : (count k : ℕ) (values : List Value) → k < count
    → get_or (value_texts count values) k (signed_decimal (pos 0)) ≡ signed_decimal (get_or values k (pos 0))
value_at count k values h =
    get_or-map signed_decimal (take count values) k (pos 0) ∙ ap signed_decimal (get_or-take count values k (pos 0) h)
