-- `last_stands` asks a record that a wait names; another last item, or none, asks for nothing. Assumes nothing.
use Rattle.std.specs.Prelude.{Some}
use Rattle.std.proofs.Common.{ap, ◌∙◌}
use Rattle.rules.specs.Layout.{view}
use borrow.Enum.Refused.{opened}
use Rattle.soundness.specs.declared.lasts.Last.{Last}
use Rattle.soundness.proofs.Standing.{end_canonical}
use Rattle.soundness.proofs.Waiting.{wait_within}
use Rattle.soundness.proofs.Instructions.{no_last, no_wait, last_waits}
use Rattle.soundness.proofs.stands.last_stands.Goals as goal

pub last_of-requires : goal.last_of-requires
last_of-requires c =
    (c.requires.m_len.0, c.requires.m_len.2, end_canonical c.args.m.now c.requires.m_len.1 c.args.e c.requires.m_len.2)

pub stands_at-requires : goal.stands_at-requires
stands_at-requires c =
    let is = c.in-Some-Wait.is ∙ ap (λ (x : Last). Some x) c.in-Some-Wait.field-0-is in
    record {
      m_len = (c.requires.m_len.0, c.requires.m_len.1, wait_within is c.last_of.ensures.within);
    }

pub returns-in_default : goal.returns-in_default
returns-in_default c = no_wait (view c.args.m.now) c.args.e _ c.in_default.ensures.is (opened c.in_default.in_default-own.keys2)

pub returns-in_default-2 : goal.returns-in_default-2
returns-in_default-2 c = no_last (view c.args.m.now) c.args.e c.last_of.ensures.is c.in_default.is

pub returns : goal.returns
returns c =
    let is = c.in-Some-Wait.is ∙ ap (λ (x : Last). Some x) c.in-Some-Wait.field-0-is in
    last_waits (view c.args.m.now) c.args.e c.stands_at.ensures c.last_of.ensures.is is
