-- One line after the other. The invariant: the lines of the first e ends stand. Assumes nothing.
use Rattle.std.proofs.Common.{arith}
use Rattle.rules.specs.State.{free_end}
use Rattle.dump.specs.Shown.{ends_text}
use Rattle.dump.proofs.OneByOne.{no_line, line_room, line_more, all_lines}
use Rattle.dump.proofs.put_ends.Goals as goal

pub loop-e-init : goal.loop-e-init
loop-e-init c = no_line c.requires.sound.1.state_sound.S1.end_count_is

pub put_end-requires : goal.put_end-requires
unfolding ends_text
put_end-requires c =
    let pre = c.requires in
    let below = c.loop-e-test.true in
    record {
      sound = (pre.sound.0, below, pre.sound.1);
      room = line_room c.loop-e.invariant free_end below pre.room;
    }

pub loop-e-preserved : goal.loop-e-preserved
loop-e-preserved c = line_more c.loop-e.invariant free_end c.loop-e-test.true c.put_end.ensures

pub returns : goal.returns
unfolding ends_text
returns c = all_lines c.loop-e.invariant (omega arith)
