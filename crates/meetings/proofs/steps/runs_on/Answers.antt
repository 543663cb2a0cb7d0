-- What a waiting record runs on with: each datum against each thing that may be wanted. Assumes nothing.
use Rattle.std.proofs.Common.{◌≡◌, refl, to_z, of_z, w32, rules}
use Rattle.rules.specs.State.{value, handle}
use Rattle.rules.specs.Layout.{view}
use Rattle.registers.specs.Registers.{pushed, moved_to}
use Rattle.meetings.specs.Heads.{datum_of}
use Rattle.meetings.proofs.Waiting.{met_runs, unmet_waits, no_value_wanted, no_handle_wanted, handle_below, handle_past}
use Rattle.meetings.proofs.steps.runs_on.Goals as goal

pub returns-in_err-next : goal.returns-in_err-next
returns-in_err-next c g e =
    rw c.from_residual.ensures
    (unmet_waits (view c.args.m.now).code g e _ c.in_err-next.ensures (datum_of c.args.datum) (λ from to r. refl))

pub returns-in-Value-Value : goal.returns-in-Value-Value
returns-in-Value-Value c g e =
    let v = c.in-Value-Value.v in
    let same : to_z w32 (of_z w32 v) ≡ v = search rules in
    let after = moved_to (pushed g v) c.in-Value-Value.next in
    let q = rw c.in-Value-Value.is-1 at c.in_ok-next.ensures in
    rw c.in-Value-Value.is-0
    (met_runs (view c.args.m.now).code g e _ q (value v) after (λ from to r. refl)
    (c.at.ensures (pushed g v) (rw same at (c.push-pushed.ensures.value g e))))

pub returns-in-Handle-Handle : goal.returns-in-Handle-Handle
returns-in-Handle-Handle c g e =
    let code = (view c.args.m.now).code in
    let at = c.args.held.place in
    let n = c.in-Handle-Handle.n in
    let q = rw c.in-Handle-Handle.is-1 at c.in_ok-next.ensures in
    let place = rw c.code.ensures at c.case_place-place.ensures in
    rw c.in-Handle-Handle.is-0
    (met_runs code g e _ q (handle n) _ (λ from to r. handle_below code at g from to r n _ c.if-n-k.true place)
    (c.at-in-Handle-Handle.ensures g e))

pub returns-in_default : goal.returns-in_default
returns-in_default c g e =
    let code = (view c.args.m.now).code in
    let v = c.in_default.field-0-0 in
    rw c.in_default.is-0
    (unmet_waits code g e _ c.in_ok-next.ensures (value v)
    (λ from to r. no_value_wanted code c.args.held.place g from to r v _ c.in_default.not-Value-1))

pub returns-in_default-2 : goal.returns-in_default-2
returns-in_default-2 c g e =
    let code = (view c.args.m.now).code in
    let n = c.in-Handle-Handle.n in
    let q = rw c.in-Handle-Handle.is-1 at c.in_ok-next.ensures in
    rw c.in-Handle-Handle.is-0
    (unmet_waits code g e _ q (handle n) (λ from to r. handle_past code c.args.held.place g from to r n _ c.if-n-k.false))

pub returns-in_default-3 : goal.returns-in_default-3
returns-in_default-3 c g e =
    let code = (view c.args.m.now).code in
    let n = c.in_default.field-0-0 in
    rw c.in_default.is-0
    (unmet_waits code g e _ c.in_ok-next.ensures (handle n)
    (λ from to r. no_handle_wanted code c.args.held.place g from to r n _ c.in_default.not-Handle-1))
