-- `code` is the part of the memory that `view` reads the code from. Assumes nothing.
use Rattle.std.proofs.Common.{◌≡◌, ap, ◌∙◌, ℕ, ◌+◌, ◌-◌, arith, take, drop}
use Rattle.rules.specs.Layout.{view}
use Rattle.memory.proofs.code.Goals as goal

pub returns : goal.returns
unfolding view
returns c =
    let m = c.args.m.now in
    let same : 2 + c.from-size.result - 2 ≡ c.get16.result = omega arith in
    ap (λ (k : ℕ). take k (drop 2 m)) (same ∙ c.get16.ensures)
