-- 9, or the two values on top become v. Assumes nothing.
use Rattle.std.proofs.Common.{sym, ap, ◌∙◌, subst, ℤ, rules, w32, SFits, to_z-of_z}
use Rattle.rules.specs.State.{running, set_record}
use Rattle.rules.specs.Layout.{layout}
use Rattle.registers.specs.Registers.{combined, moved_to}
use Rattle.stepping.proofs.Steps.{refused_step, done_step}
use Rattle.numbers.proofs.Cases.{outside_refused, inside_done}
use Rattle.numbers.proofs.WideLaws.{fits_inside, other_outside}
use Rattle.numbers.proofs.arithmetic.combine_checked.Goals as goal

pub returns-in_default : goal.returns-in_default
returns-in_default c st g sized laid within h =
    let a = c.args in
    let unfit = subst (λ (z : ℤ). SFits w32 z → ⊥) (to_z-of_z c.ranges.v) c.in_default.ensures in
    refused_step 9 (outside_refused st a.r.0 a.next g a.v (other_outside a.v unfit))

pub returns : goal.returns
returns c st g sized laid within h =
    let a = c.args in
    let fits = subst (SFits w32) (to_z-of_z c.ranges.v) c.in-Ok.ensures.0 in
    let of_value : SFits w32 c.in-Ok.value = search rules in
    let same = to_z-of_z {w = w32} of_value ∙ c.in-Ok.ensures.1 ∙ to_z-of_z c.ranges.v in
    let saved = c.combine.ensures st g sized laid within h in
    let anew = ap (λ (z : ℤ). layout (set_record st a.r.0 (running (moved_to (combined g z) a.next)))) same in
    done_step a.m.now _ (inside_done st a.r.0 a.next g a.v (fits_inside a.v fits)) (saved ∙ anew)
