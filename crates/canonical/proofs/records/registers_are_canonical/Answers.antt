-- `registers_are_canonical` tests in the order of the definition. Assumes nothing.
use Rattle.std.proofs.Common.{◌≡◌, sym, ap, ◌∙◌, List, [], ◌∷◌, ℕ, ◌+◌, ◌*◌, get_or, leb, le-leb}
use borrow.Author.Tests.{lt-leb}
use Rattle.rules.specs.Limits.{stack_depth, environment_depth}
use Rattle.rules.specs.SoundTest.{all}
use Rattle.rules.specs.Layout.{value_size, record_size}
use Rattle.canonical.specs.Canonical.{part, all_zero, slots_from, stack_from, environment_from, slot_fits, canonical_registers}
use Rattle.canonical.proofs.Tests.{false_at, last_decides}
use Rattle.canonical.proofs.records.registers_are_canonical.Goals as goal

-- the count that was read is the record's
stack_behind : (p : List ℕ) {n : ℕ} → n ≡ get_or p 3 0
    → all_zero (part (stack_from + value_size * n) environment_from p) ≡ all_zero
    (part (stack_from + value_size * get_or p 3 0) environment_from p)
stack_behind p e = ap (λ (k : ℕ). all_zero (part (stack_from + value_size * k) environment_from p)) e

environment_behind : (p : List ℕ) {n : ℕ} → n ≡ get_or p 4 0
    → all_zero (part (environment_from + value_size * n) record_size p) ≡ all_zero
    (part (environment_from + value_size * get_or p 4 0) record_size p)
environment_behind p e = ap (λ (k : ℕ). all_zero (part (environment_from + value_size * k) record_size p)) e

pub returns-then-stacked-gt-STACK_DEPTH : goal.returns-then-stacked-gt-STACK_DEPTH
unfolding canonical_registers
returns-then-stacked-gt-STACK_DEPTH c =
    let p = c.args.bytes.now in
    let over = rw c.from-stacked.ensures at c.if-stacked-gt-STACK_DEPTH.true in
    sym (false_at _ 0 (lt-leb (get_or p 3 0) stack_depth over))

pub returns-then-bound-gt-ENVIRONMENT_DEPTH : goal.returns-then-bound-gt-ENVIRONMENT_DEPTH
unfolding canonical_registers
returns-then-bound-gt-ENVIRONMENT_DEPTH c =
    let p = c.args.bytes.now in
    let over = rw c.from-bound.ensures at c.if-bound-gt-ENVIRONMENT_DEPTH.true in
    sym (false_at _ 1 (lt-leb (get_or p 4 0) environment_depth over))

pub returns-then-not-slots_fit : goal.returns-then-not-slots_fit
unfolding canonical_registers
returns-then-not-slots_fit c = sym (false_at _ 2 (sym c.slots_fit.ensures ∙ c.if-not-slots_fit.true))

pub returns-then-not-all_zero : goal.returns-then-not-all_zero
unfolding canonical_registers
returns-then-not-all_zero c =
    let p = c.args.bytes.now in
    let tested = c.all_zero.ensures ∙ stack_behind p c.from-stacked.ensures in
    sym (false_at _ 3 (sym tested ∙ c.if-not-all_zero.true))

pub returns : goal.returns
unfolding canonical_registers
returns c =
    let p = c.args.bytes.now in
    let few = le-leb (get_or p 3 0) stack_depth (rw c.from-stacked.ensures at c.if-stacked-gt-STACK_DEPTH.false) in
    let few_bound = le-leb (get_or p 4 0) environment_depth (rw c.from-bound.ensures at c.if-bound-gt-ENVIRONMENT_DEPTH.false) in
    let slots = sym c.slots_fit.ensures ∙ c.if-not-slots_fit.false in
    let stack = sym (c.all_zero.ensures ∙ stack_behind p c.from-stacked.ensures)
    ∙ c.if-not-all_zero.false in
    c.all_zero-2.ensures ∙ environment_behind p c.from-bound.ensures
    ∙ sym (last_decides (leb (get_or p 3 0) stack_depth ∷ leb (get_or p 4 0) environment_depth ∷ all slot_fits
    (part slots_from stack_from p)
    ∷ all_zero (part (stack_from + value_size * get_or p 3 0) environment_from p) ∷ [])
    (all_zero (part (environment_from + value_size * get_or p 4 0) record_size p)) (few, (few_bound, (slots, (stack, tt)))))
