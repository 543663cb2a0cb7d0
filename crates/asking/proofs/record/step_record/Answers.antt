-- A record is asked: 2, 3, or what the record that runs is told. Assumes nothing.
use Rattle.std.proofs.Common.{sym, ◌∙◌}
use Rattle.rules.specs.Layout.{view}
use Rattle.stepping.proofs.Steps.{refused_step, memory_sized}
use Rattle.asking.proofs.Answers.{over, free, waits}
use Rattle.asking.proofs.record.step_record.Goals as goal

pub returns-then-record : goal.returns-then-record
returns-then-record c = refused_step 2 (over (view c.args.m.now) c.requires.sound_memory.state_sound _ c.if-record.true)

pub returns-in-Free : goal.returns-in-Free
returns-in-Free c =
    let m = c.args.m.now in
    let s = c.requires.sound_memory in
    let is = sym c.in-Free.is ∙ c.status_of.ensures (view m) (memory_sized m s) s.laid_out in
    refused_step 2 (free (view m) _ is)

pub returns-in-Waiting : goal.returns-in-Waiting
returns-in-Waiting c =
    let m = c.args.m.now in
    let s = c.requires.sound_memory in
    let is = sym c.in-Waiting.is ∙ c.status_of.ensures (view m) (memory_sized m s) s.laid_out in
    refused_step 3 (waits (view m) _ is)
