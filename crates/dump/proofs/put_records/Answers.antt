-- One line after the other. The invariant: the lines of the first r records stand. Assumes nothing.
use Rattle.std.proofs.Common.{arith}
use Rattle.rules.specs.State.{free_record}
use Rattle.dump.specs.Shown.{records_text}
use Rattle.dump.proofs.OneByOne.{no_line, line_room, line_more, all_lines}
use Rattle.dump.proofs.put_records.Goals as goal

pub loop-r-init : goal.loop-r-init
loop-r-init c = no_line c.requires.sound.1.state_sound.S1.record_count_is

pub put_record-requires : goal.put_record-requires
unfolding records_text
put_record-requires c =
    let pre = c.requires in
    let below = c.loop-r-test.true in
    record {
      sound = (pre.sound.0, below, pre.sound.1);
      room = line_room c.loop-r.invariant free_record below pre.room;
    }

pub loop-r-preserved : goal.loop-r-preserved
loop-r-preserved c = line_more c.loop-r.invariant free_record c.loop-r-test.true c.put_record.ensures

pub returns : goal.returns
unfolding records_text
returns c = all_lines c.loop-r.invariant (omega arith)
