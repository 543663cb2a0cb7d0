-- `stands_once` adds whether the end is given up, and asks for one place where it is in use and for none where it is free. Assumes nothing.
use Rattle.std.proofs.Common.{◌≡◌, sym, ap, ◌∙◌}
use Rattle.rules.specs.Sound.{gives_up, given_up}
use Rattle.rules.specs.State.{end_at}
use Rattle.rules.specs.Layout.{view}
use Rattle.soundness.proofs.Partners.{free_is}
use Rattle.soundness.proofs.Standing.{once_free, once_used}
use Rattle.soundness.proofs.holders.stands_once.Goals as goal
use Rattle.soundness.proofs.holders.stands_once.Goals.{After-given_up}

-- what was added is whether the end is given up
given : (c : After-given_up)
    → c.given_up.result ≡ given_up (end_at (view c.args.m.now) c.args.e)
given c = c.given_up.ensures ∙ ap gives_up c.last_of.ensures.is

pub returns-then-is_free : goal.returns-then-is_free
returns-then-is_free c =
    let m = c.args.m.now in
    let e = c.args.e in
    let free = free_is m e c.requires.m_len.3 c.is_free.ensures in
    once_free m e c.requires.m_len.1 (given (goal.at.returns-then-is_free c).After-given_up) c.args.count (sym free ∙ c.if-is_free.true)

pub returns : goal.returns
returns c =
    let m = c.args.m.now in
    let e = c.args.e in
    let free = free_is m e c.requires.m_len.3 c.is_free.ensures in
    once_used m e c.requires.m_len.1 (given (goal.at.returns c).After-given_up) c.args.count (sym free ∙ c.if-is_free.false)
