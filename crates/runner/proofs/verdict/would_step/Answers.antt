-- The copy is the memory, so its step is the memory's. Assumes nothing.
use Rattle.std.proofs.Common.{◌≡◌, sym, ap, ◌∙◌, subst, List, ℕ, arith, length}
use Rattle.rules.specs.Run.{next_step}
use Rattle.rules.specs.Layout.{state_size, view}
use Rattle.words.proofs.Parts.{put_all}
use Rattle.keeping.specs.Demand3.{SoundMemory}
use Rattle.runner.specs.Runs.{stepped_by}
use Rattle.runner.proofs.verdict.would_step.Goals as goal
use Rattle.runner.proofs.verdict.would_step.Goals.{After-copy}

-- what the copy holds
copied : (c : After-copy) → c.copy.new.m ≡ c.args.m.now
copied c =
    c.copy.ensures ∙ put_all _ c.args.m.now c.requires.0

pub step_from-requires : goal.step_from-requires
step_from-requires c =
    let p = c.requires in
    let same = sym (copied (goal.at.step_from-requires c).After-copy) in
    record {
      m_len = (subst (λ (m : List ℕ). length m ≡ state_size) same p.0, omega arith);
      sound_memory = subst SoundMemory same p.1;
    }

pub returns : goal.returns
returns c =
    c.step_from.ensures.answer_is
    ∙ ap (λ (m : List ℕ). stepped_by (next_step (view m) 0)) (copied (goal.at.returns c).After-copy)
