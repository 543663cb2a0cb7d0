-- Both heads removed, then the record saved. Assumes nothing.
use Rattle.std.proofs.Common.{sym, ap, ◌∙◌, subst}
use Rattle.rules.specs.State.{EndState, end_at, set_end, behind_head}
use Rattle.rules.specs.Layout.{layout}
use Rattle.ends.specs.Ends.{EndFits}
use Rattle.ends.proofs.Changes.{sized_anew}
use Rattle.stepping.proofs.Steps.{other_end}
use Rattle.meetings.proofs.steps.take_both.Goals as goal

pub returns : goal.returns
returns c st g k e fits fits' differ q =
    let a = c.args in
    let from = a.from.0 in
    let to = a.to.0 in
    let one = set_end st from (behind_head (end_at st from)) in
    let stays = other_end st from to (behind_head (end_at st from)) (λ z. differ (sym z)) in
    let first = c.take_head.ensures st k e fits in
    let second = c.take_head-2.ensures one (sized_anew st _ _ k) first (subst EndFits (sym stays) fits') in
    let both = second ∙ ap (λ (x : EndState). layout (set_end one to (behind_head x))) stays in
    c.save_running.ensures _ g (sized_anew one _ _ (sized_anew st _ _ k)) both q
