-- `empty_stack` looks at the count of the stack. Assumes nothing.
use Rattle.std.proofs.Common.{refl, length, arith}
use borrow.Author.Tests.{le-leb, lt-leb}
use Rattle.rules.specs.Refusal.{unless}
use Rattle.registers.proofs.Fields.{by_fields}
use Rattle.causes.proofs.rows.empty_stack.Goals as goal

pub returns-then-held-gt0 : goal.returns-then-held-gt0
unfolding unless
returns-then-held-gt0 c g w e =
    rw (le-leb 1 (length g.stack) (omega (arith, c.if-held-gt0.true, (by_fields g e).stack_count_is))) refl

pub returns : goal.returns
unfolding unless
returns c g w e = rw (lt-leb 1 (length g.stack) (omega (arith, c.if-held-gt0.false, (by_fields g e).stack_count_is))) refl
