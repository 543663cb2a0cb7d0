-- `any_check_wrong` looks at the blocks from the front. The invariant: the blocks before i are right, so that a wrong one is among the n
-- that are left. Assumes nothing.
use Rattle.std.proofs.Common.{◌≡◌, sym, ap, ◌∙◌, ℕ, suc, ◌+◌, ◌*◌, ◌-◌, arith, take, drop}
use Rattle.rules.specs.Image.{block_size}
use Rattle.image.proofs.Checks.{is_right, checks_next, checks_stop, checks_end}
use Rattle.image.proofs.reading.any_check_wrong.Goals as goal
use Rattle.image.proofs.reading.any_check_wrong.Goals.{After-right}

-- what `right` says of block i
told : (c : After-right)
    → let image = c.args.image.now in
    c.right.result ≡ is_right (take block_size (drop (block_size * c.loop-i.i) image))
told c =
    let at = block_size * c.loop-i.i in
    let w : at + block_size - at ≡ block_size = omega arith in
    c.right.ensures ∙ ap (λ (k : ℕ). is_right (take k (drop at c.args.image.now))) w

pub returns-then-not-right : goal.returns-then-not-right
returns-then-not-right c =
    let a = c.args in
    let i = c.loop-i.i in
    let n = a.count - (i + 1) in
    let m = drop (block_size * i) a.image.now in
    let wrong = checks_stop m n (sym (told (goal.at.returns-then-not-right c).After-right) ∙ c.if-not-right.true) in
    sym (c.loop-i.invariant (suc n) (omega arith) ∙ wrong)

pub loop-i-preserved : goal.loop-i-preserved
loop-i-preserved c =
    let a = c.args in
    let i = c.loop-i.i in
    let e = sym (told (goal.at.loop-i-preserved c).After-right) ∙ c.if-not-right.false in
    λ n s. c.loop-i.invariant (suc n) (omega arith) ∙ checks_next a.image.now i n e

pub returns : goal.returns
returns c =
    let m = drop (block_size * c.loop-i.i) c.args.image.now in
    sym (c.loop-i.invariant 0 (omega arith) ∙ checks_end m)
