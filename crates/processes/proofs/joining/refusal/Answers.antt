-- 12 or 14, or none of them. Assumes nothing.
use Rattle.std.proofs.Common.{◌≡◌, sym, ◌∙◌, false, arith}
use Rattle.rules.specs.State.{State, Registers as Process, end_at, end_in, is_free_end}
use Rattle.rules.specs.Causes.{partners}
use Rattle.rules.specs.Layout.{layout}
use Rattle.rules.specs.Numbers.{end_number}
use Rattle.keeping.proofs.LayoutLaws.{Sized}
use Rattle.processes.proofs.JoinRows.{one_slot_twice, two_partners, first_queued, second_queued, no_row, mated}
use Rattle.processes.proofs.JoinRows.{some_queued, none_queued}
use Rattle.processes.proofs.joining.refusal.Goals as goal
use Rattle.processes.proofs.joining.refusal.Goals.{Else-eq-2}

pub returns-then-eq : goal.returns-then-eq
returns-then-eq c st g sized laid xe ye in_use =
    let a = c.args in
    one_slot_twice st g a.c.0 a.d.0 (sym c.if-eq.ensures)

pub returns-then-eq-2 : goal.returns-then-eq-2
returns-then-eq-2 c st g sized laid xe ye in_use =
    let a = c.args in
    let k = c.partner.result.0 in
    let mates = mated st g a.c.0 a.d.0 a.x.0 a.y.0 k xe ye in_use (c.partner.ensures st sized laid) in
    two_partners st g a.c.0 a.d.0 (sym c.if-eq.ensures)
    (sym mates ∙ sym c.if-eq-2.ensures)

-- rows 12 are passed
apart : (c : Else-eq-2) (st : State) (g : Process) → let a = c.args in
    Sized st → a.m.now ≡ layout st → end_number a.x ≡ end_in g a.c.0 → end_number a.y ≡ end_in g a.d.0
    → is_free_end (end_at st (end_number a.x)) ≡ false → partners st a.c.0 a.d.0 g ≡ false
apart c st g sized laid xe ye in_use =
    let a = c.args in
    let k = c.partner.result.0 in
    sym (mated st g a.c.0 a.d.0 a.x.0 a.y.0 k xe ye in_use (c.partner.ensures st sized laid))
    ∙ sym c.if-eq-2.ensures

pub returns-then-queued-gt0 : goal.returns-then-queued-gt0
returns-then-queued-gt0 c st g sized laid xe ye in_use =
    let a = c.args in
    first_queued st g a.c.0 a.d.0 (sym c.if-eq.ensures) (apart (goal.at.returns-then-queued-gt0 c).Else-eq-2
    st g sized laid xe ye in_use)
    (some_queued st g a.c.0 a.x.0 _ xe (c.queued.ensures.queued st sized laid) c.if-queued-gt0.true)

pub returns-then-queued-gt0-2 : goal.returns-then-queued-gt0-2
returns-then-queued-gt0-2 c st g sized laid xe ye in_use =
    let a = c.args in
    second_queued st g a.c.0 a.d.0 (sym c.if-eq.ensures) (apart (goal.at.returns-then-queued-gt0-2 c).Else-eq-2
    st g sized laid xe ye in_use)
    (none_queued st g a.c.0 a.x.0 _ xe (c.queued.ensures.queued st sized laid) (omega (arith, c.if-queued-gt0.false)))
    (some_queued st g a.d.0 a.y.0 _ ye (c.queued-2.ensures.queued st sized laid) c.if-queued-gt0-2.true)

pub returns : goal.returns
returns c st g sized laid xe ye in_use =
    let a = c.args in
    no_row st g a.c.0 a.d.0 (sym c.if-eq.ensures) (apart (goal.at.returns c).Else-eq-2 st g sized laid xe ye in_use)
    (none_queued st g a.c.0 a.x.0 _ xe (c.queued.ensures.queued st sized laid) (omega (arith, c.if-queued-gt0.false)))
    (none_queued st g a.d.0 a.y.0 _ ye (c.queued-2.ensures.queued st sized laid) (omega (arith, c.if-queued-gt0-2.false)))
