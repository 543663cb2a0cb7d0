-- One case for each status. Assumes nothing.
use Rattle.std.proofs.Common.{◌≡◌, sym, ◌∙◌}
use Rattle.rules.specs.State.{record_at}
use Rattle.rules.specs.Layout.{view}
use Rattle.registers.specs.Registers.{status_of}
use Rattle.stepping.proofs.Steps.{memory_sized}
use Rattle.text.proofs.Texts.{written_none, written_as, room_as}
use Rattle.dump.proofs.Processes.{process_is, counts_within, free_line, running_line, waiting_line}
use Rattle.dump.proofs.record_line.put_record.Goals as goal
use Rattle.dump.proofs.record_line.put_record.Goals.{After-status_of}

-- what the record is
status_is : (c : After-status_of)
    → let a = c.args in c.status_of.result ≡ status_of (record_at (view a.m.now) a.r)
status_is c =
    let m = c.args.m.now in
    let s = c.requires.sound.2 in
    c.status_of.ensures (view m) (memory_sized m s) s.laid_out

pub put_line-requires : goal.put_line-requires
put_line-requires c =
    let a = c.args in
    let m = a.m.now in
    let s = c.requires.sound.2 in
    let loads = c.load-g.ensures in
    let status = sym c.in-Running.is ∙ status_is (goal.at.put_line-requires c).After-status_of in
    let line = running_line a.r (record_at (view m) a.r) (process_is m s a.r loads) status in
    record {
      stack_count_bound = counts_within m s a.r loads;
      room = room_as a.page.now line c.requires.room;
    }

pub put_line-requires-in-Waiting : goal.put_line-requires-in-Waiting
put_line-requires-in-Waiting c =
    let a = c.args in
    let m = a.m.now in
    let s = c.requires.sound.2 in
    let loads = c.load-g.ensures in
    let status = sym c.in-Waiting.is ∙ status_is (goal.at.put_line-requires-in-Waiting c).After-status_of in
    let line = waiting_line a.r (record_at (view m) a.r) (process_is m s a.r loads) status in
    record {
      stack_count_bound = counts_within m s a.r loads;
      room = room_as a.page.now line c.requires.room;
    }

pub returns-in-Free : goal.returns-in-Free
returns-in-Free c =
    let a = c.args in
    let m = a.m.now in
    let status = sym c.in-Free.is ∙ status_is (goal.at.returns-in-Free c).After-status_of in
    written_as (free_line a.r (record_at (view m) a.r) status) (written_none a.page.now)

pub returns-in-Running : goal.returns-in-Running
returns-in-Running c =
    let a = c.args in
    let m = a.m.now in
    let s = c.requires.sound.2 in
    let status = sym c.in-Running.is ∙ status_is (goal.at.returns-in-Running c).After-status_of in
    let process = process_is m s a.r c.load-g.ensures in
    written_as (running_line a.r (record_at (view m) a.r) process status) c.put_line.ensures

pub returns-in-Waiting : goal.returns-in-Waiting
returns-in-Waiting c =
    let a = c.args in
    let m = a.m.now in
    let s = c.requires.sound.2 in
    let status = sym c.in-Waiting.is ∙ status_is (goal.at.returns-in-Waiting c).After-status_of in
    let process = process_is m s a.r c.load-g.ensures in
    written_as (waiting_line a.r (record_at (view m) a.r) process status) c.put_line-in-Waiting.ensures
