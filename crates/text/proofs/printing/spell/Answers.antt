-- `spell` stores one digit in front of the other. The invariant: what is left to spell stands in front of what is stored, and has room.
-- Assumes nothing.
use Rattle.std.proofs.Common.{◌≡◌, sym, ap, subst, ◌∙◌, ℕ, suc, ◌-◌, ◌^◌, ◌<◌, arith, drop, length-set}
use Rattle.text.proofs.Decimals.{digits_left, digits_all, spell_first, spell_next, some_left, less_left}
use Rattle.text.proofs.printing.spell.Goals as goal

pub loop-rest-init : goal.loop-rest-init
loop-rest-init c =
    let n = c.args.n in
    let d = c.args.digits.now in
    let fits = c.ranges.n in
    let first = spell_first n d c.last_digit.result c.requires c.last_digit.ensures in
    (omega arith, simp length-set c.requires, omega arith, first)

pub loop-rest-preserved : goal.loop-rest-preserved
loop-rest-preserved c =
    let l = c.loop-rest in
    let some = some_left l.from l.rest c.loop-rest-test.true l.invariant.2 in
    let p : l.from ≡ suc (l.from - 1) = omega arith in
    let room = subst (λ (k : ℕ). l.rest < 10 ^ k) p l.invariant.2 in
    let d = c.last_digit-in-loop-rest in
    let from = l.from in
    let next =
    spell_next from (from - 1) l.rest l.digits d.result p (omega arith) c.loop-rest-test.true d.ensures l.invariant.3
    in
    (omega arith, simp length-set l.invariant.1, less_left (from - 1) l.rest room, next)

pub returns : goal.returns
returns c =
    let l = c.loop-rest in
    let none : l.rest ≡ 0 = omega arith in
    record {
      within = omega arith;
      spelled = sym (l.invariant.3 ∙ ap (λ (k : ℕ). digits_left l.from k (drop l.from l.digits)) none ∙ digits_all l.from _);
    }
