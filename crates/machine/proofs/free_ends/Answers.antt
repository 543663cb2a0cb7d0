-- 24, 1, or the two numbers of the word of free ends. Assumes nothing.
use Rattle.std.proofs.Common.{sym}
use Rattle.rules.specs.Layout.{view}
use Rattle.keeping.proofs.Memories.{memory_length}
use Rattle.stepping.proofs.Steps.{memory_sized}
use Rattle.machine.proofs.FirstRows.{sound_so, free_refused, free_counted}
use Rattle.machine.proofs.free_ends.Goals as goal

pub returns-in_err-tested : goal.returns-in_err-tested
returns-in_err-tested c =
    free_refused c.args.state.now _ _ c.from_residual.ensures.1 (sym c.in_err-tested.ensures)

pub free_word-word-requires : goal.free_word-word-requires
free_word-word-requires c =
    let m = c.args.state.now in
    memory_length m (sound_so m (sym c.in_ok-tested.ensures))

pub returns : goal.returns
returns c =
    let m = c.args.state.now in
    let s = sound_so m (sym c.in_ok-tested.ensures) in
    free_counted m _ _ _ s (c.free_word-word.ensures (view m) (memory_sized m s) s.laid_out) c.count.ensures
    c.lowest-end.ensures
