-- The copy is the memory before the step, so what is read from it at the position of the step is what the step prints. Assumes nothing.
use Rattle.std.proofs.Common.{◌≡◌, sym, ◌∙◌, subst, List, ℕ, length}
use Rattle.rules.specs.Layout.{state_size, view}
use Rattle.words.proofs.Parts.{put_all}
use Rattle.keeping.specs.Demand3.{SoundMemory}
use Rattle.printed.specs.Meaning.{PrintsAt}
use Rattle.printed.proofs.Going.{told, position_below, stepped}
use Rattle.printed.proofs.forward.step_forward.Goals as goal
use Rattle.printed.proofs.forward.step_forward.Goals.{After-copy}

-- what the copy holds
copied : (c : After-copy) → c.copy.new.m ≡ c.args.m.now
copied c =
    c.copy.ensures ∙ put_all _ c.args.m.now c.requires.m_len.0

pub printed_at-requires : goal.printed_at-requires
printed_at-requires c =
    let p = c.requires in
    let same = sym (copied (goal.at.printed_at-requires c).After-copy) in
    let made = told c.step_from.ensures c.in_ok-p.was in (
      subst (λ (m : List ℕ). length m ≡ state_size) same p.m_len.0,
      position_below c.args.m.now c.args.position made p.m_len.1,
      subst SoundMemory same p.sound_memory,
    )

pub returns : goal.returns
returns c =
    let a = c.args in
    stepped a.m.now a.position (told c.step_from.ensures c.in_ok-p.was) c.printed_at.result
    (subst (λ (m : List ℕ). PrintsAt (view m) c.in_ok-p.p c.printed_at.result)
    (copied (goal.at.returns c).After-copy) c.printed_at.ensures)
