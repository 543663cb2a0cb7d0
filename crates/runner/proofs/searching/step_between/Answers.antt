-- From candidate to candidate. The invariant: the memory is as it was, and no position passed over can step. Assumes nothing.
use Rattle.std.proofs.Common.{refl}
use Rattle.runner.proofs.Search.{none_found, found_here}
use Rattle.runner.proofs.searching.step_between.Goals as goal

pub returns-in-Ok : goal.returns-in-Ok
returns-in-Ok c =
    let l = c.loop-p in
    let a = c.args in
    found_here a.m.now a.from l.p a.to l.invariant.1 c.requires.m_len.2 l.invariant.0 c.loop-p-test.true
    c.in-Ok.ensures refl

pub returns : goal.returns
returns c =
    let l = c.loop-p in
    let a = c.args in
    none_found a.m.now a.from l.p a.to l.invariant.1 c.requires.m_len.2 l.invariant.0 c.requires.m_len.1 c.loop-p-test.false
