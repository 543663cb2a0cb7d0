-- Close against close: both ends freed, always done. Assumes nothing.
use Rattle.std.proofs.Common.{refl}
use Rattle.rules.specs.Layout.{view}
use Rattle.keeping.proofs.Memories.{memory_length}
use Rattle.stepping.proofs.Steps.{done_step, memory_sized}
use Rattle.meetings.proofs.Answers.{met_closes}
use Rattle.meetings.proofs.steps.close.Goals as goal

pub free_both-requires : goal.free_both-requires
free_both-requires c = (memory_length _ c.requires.sound_memory.0, c.requires.sound_memory.1, c.requires.sound_memory.2)

pub returns : goal.returns
returns c =
    let m = c.args.m.now in
    let s = c.requires.sound_memory.0 in
    let left = c.free_both.ensures (view m) (memory_sized m s) s.laid_out c.requires.no_data in
    done_step m _ (met_closes (view m) _ _ refl) left
