-- Cell by cell. Assumes nothing.
use Rattle.std.proofs.Common.{ℕ, ◌+◌, ◌*◌, arith, pos, w32, to_z, rules}
use Rattle.rules.specs.Bytes.{number_at}
use Rattle.rules.specs.Layout.{value_size}
use Rattle.words.proofs.Tables.{filled_from_fn, filled_all}
use Rattle.registers.specs.Registers.{values_at}
use Rattle.registers.proofs.values.read.Goals as goal

pub returns : goal.returns
unfolding values_at
returns c =
    let a = c.args in
    let f =
    filled_from_fn (pos 0) (λ (j : ℕ). to_z w32 (number_at value_size a.m.now (a.at + value_size * j))) c.from_fn.ensures.items
    (λ i x q h k. search rules) in
    filled_all f (omega arith)
