-- The steps one after the other. The invariant: those made so far are the steps of the budget used so far. Assumes nothing.
use Rattle.std.proofs.Common.{refl, arith}
use Rattle.keeping.proofs.Memories.{memory_length}
use Rattle.runner.proofs.Making.{none_yet, memory_sound, stopped, position_in_range, one_more}
use Rattle.runner.proofs.running.make_steps.Goals as goal

pub loop-made-init : goal.loop-made-init
loop-made-init c = let p = c.requires in (omega arith, refl, none_yet _ p.sound_memory _ p.m_len.1)

pub step_from-requires : goal.step_from-requires
step_from-requires c =
    let l = c.loop-made in
    let s = memory_sound _ _ _ _ _ l.invariant.2 in
    record {
      m_len = (memory_length _ s, l.invariant.2.in_range);
      sound_memory = s;
    }

pub returns-in_default : goal.returns-in_default
returns-in_default c =
    let l = c.loop-made in
    let b = c.args.budget in
    let promise = c.step_from.ensures in
    stopped _ _ _ _ _ l.invariant.2 b l.invariant.0 promise.answer_is promise.memory_is c.in_default.is

pub position_after-next-requires : goal.position_after-next-requires
position_after-next-requires c =
    let l = c.loop-made in
    let promise = c.step_from.ensures in
    position_in_range _ _ _ _ _ l.invariant.2 _ promise.answer_is promise.memory_is c.in-Some.is

pub loop-made-preserved : goal.loop-made-preserved
loop-made-preserved c =
    let l = c.loop-made in
    let promise = c.step_from.ensures in (
      omega (arith, c.loop-made-test.true),
      omega arith,
      one_more _ _ _ _ _ l.invariant.2 _ promise.answer_is promise.memory_is c.in-Some.is _ c.position_after-next.ensures,
    )
