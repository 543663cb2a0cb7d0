-- The lines and the last one. Assumes nothing.
use Rattle.std.proofs.Common.{◌+◌, ◌≤◌, ◌<◌, arith, length}
use Rattle.keeping.proofs.Memories.{memory_length}
use Rattle.text.proofs.Texts.{written_more, written_as, printed_length}
use Rattle.printed.specs.Meaning.{last_line}
use Rattle.printed.specs.Traced.{trace_limit}
use Rattle.printed.proofs.Lengths.{last_short}
use Rattle.printed.proofs.Whole.{left_sound, run_text_lem}
use Rattle.printed.proofs.tracing.put_run.Goals as goal
use Rattle.printed.proofs.tracing.put_run.Goals.{After-verdict_of-verdict}

pub verdict_of-verdict-requires : goal.verdict_of-verdict-requires
verdict_of-verdict-requires c =
    let s = left_sound _ _ c.put_steps-lines.ensures.ended in
    (memory_length _ s, s)

-- the last line, behind the others, is within the limit
last_room : (c : After-verdict_of-verdict)
    → let r = c.put_steps-lines.result in
    c.put_steps-lines.new.page.at + length (last_line c.verdict_of-verdict.result r.made r.next) ≤ c.args.page.now.at + trace_limit
last_room c =
    let t = c.put_steps-lines.ensures in
    let made = c.put_steps-lines.result.made in
    let few : made < 100000 = omega (arith, t.budgeted) in
    let short = last_short c.verdict_of-verdict.result made c.put_steps-lines.result.next few t.ended.next_in_range in
    omega (arith, short, t.within, t.budgeted)

pub put_last-requires : goal.put_last-requires
put_last-requires c =
    let same = printed_length c.put_steps-lines.ensures.written in
    omega (arith, last_room (goal.at.put_last-requires c).After-verdict_of-verdict, same, c.requires.1)

pub returns : goal.returns
returns c =
    let t = c.put_steps-lines.ensures in record {
      is = written_as (run_text_lem _ _ t.ended c.verdict_of-verdict.result c.verdict_of-verdict.ensures)
          (written_more t.written c.put_last.ensures);
      within = omega (arith, c.put_last.ensures.place, last_room (goal.at.returns c).After-verdict_of-verdict);
    }
