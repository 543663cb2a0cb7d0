-- The lines one after the other. The invariant: those of the steps made so far stand on the page. Assumes nothing.
use Rattle.std.proofs.Common.{refl, arith, w32, SFits, rules}
use Rattle.keeping.proofs.Memories.{memory_length}
use Rattle.runner.proofs.Making.{memory_sound}
use Rattle.printed.proofs.RunLines.{no_lines, lines_end, position_below, line_room, one_line}
use Rattle.printed.proofs.tracing.put_steps.Goals as goal
use Rattle.printed.proofs.tracing.put_steps.Goals.{In-Some}

pub loop-made-init : goal.loop-made-init
loop-made-init c = (omega arith, refl, no_lines c.args.m.now c.args.page.now c.requires.0)

pub step_forward-requires : goal.step_forward-requires
step_forward-requires c =
    let f = c.loop-made.invariant.2.so_far in
    let s = memory_sound _ _ _ _ _ f in
    record {
      m_len = (memory_length _ s, f.in_range);
      sound_memory = s;
    }

pub returns-in_default : goal.returns-in_default
returns-in_default c =
    let l = c.loop-made in
    lines_end _ _ _ _ _ _ l.invariant.2 l.invariant.0 c.step_forward.ensures c.in_default.is

-- the number of what is printed has 32 bits
number_fits : (c : In-Some) → SFits w32 c.in-Some.x.number
number_fits c = search rules

pub put_line-requires : goal.put_line-requires
put_line-requires c =
    let l = c.loop-made in
    let limit = c.requires.1 in
    line_room _ _ _ _ _ _ l.invariant.2 c.step_forward.ensures _ c.in-Some.is c.loop-made-test.true
    (number_fits (goal.at.put_line-requires c).In-Some) limit

pub position_after-next-requires : goal.position_after-next-requires
position_after-next-requires c =
    let l = c.loop-made in
    position_below _ _ _ _ _ _ l.invariant.2 c.step_forward.ensures _ c.in-Some.is

pub loop-made-preserved : goal.loop-made-preserved
loop-made-preserved c =
    let l = c.loop-made in
    let one = one_line _ _ _ _ _ _ l.invariant.2 c.step_forward.ensures _ c.in-Some.is c.loop-made-test.true
    (number_fits (goal.at.loop-made-preserved c).In-Some) c.position_after-next.ensures c.put_line.ensures in
    (omega (arith, c.loop-made-test.true), omega arith, one)
