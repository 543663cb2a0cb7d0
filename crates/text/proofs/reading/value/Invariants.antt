-- `value` reads one digit after the other. The invariant: the rest behind n says what the word says. Assumes nothing.
use Rattle.std.proofs.Common.{◌≡◌, ◌≤◌, drop}
use Rattle.text.specs.Digits.{value_behind}
use Rattle.text.proofs.reading.value.Given as goal

abbrev pub invariant-loop-digit : goal.invariant-loop-digit
invariant-loop-digit l = (l.n ≤ l.limit) × (value_behind 0 l.word ≡ value_behind l.n (drop l.digit-index l.word))
