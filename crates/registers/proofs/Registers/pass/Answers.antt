-- `pass` stores one value after the other. The invariant: the values so far are stored. Assumes nothing.
use Rattle.std.proofs.Common.{◌≡◌, refl, ◌∙◌, ap, [], ℕ, arith}
use Rattle.rules.specs.Bytes.{pad}
use Rattle.registers.specs.Registers.{registers_of, passed}
use Rattle.registers.proofs.Fields.{by_fields, from_fields, with_environment}
use Rattle.registers.proofs.ValueLaws.{dropped_fits, stored_passed}
use Rattle.registers.proofs.Registers.pass.Goals as goal

pub loop-preserved : goal.loop-preserved
loop-preserved c =
    let p = c.loop in (
      omega arith,
      omega arith,
      λ g n e.
          let count = (by_fields _ e).stack_count_is in
          c.store-callee.ensures.value (passed g p.counter) (dropped_fits p.counter g.stack n) (p.invariant.2 g n e)
          ∙ ap registers_of (stored_passed g p.counter (omega arith)),
    )

pub returns : goal.returns
unfolding pad
returns c g n e =
    let p = c.loop in
    let all : p.counter ≡ c.args.n = omega arith in
    p.invariant.2 g n (from_fields _ (with_environment g (by_fields g e) [] refl refl)) ∙ ap (λ (j : ℕ). registers_of (passed g j)) all
