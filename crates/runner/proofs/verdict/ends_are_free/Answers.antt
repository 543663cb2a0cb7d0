-- One look at the word of free ends. Assumes nothing.
use Rattle.rules.specs.Layout.{view}
use Rattle.stepping.proofs.Steps.{memory_sized}
use Rattle.runner.proofs.Verdicts.{word_tells}
use Rattle.runner.proofs.verdict.ends_are_free.Goals as goal

pub returns : goal.returns
returns c =
    let m = c.args.m.now in
    let s = c.requires.1 in
    word_tells (view m) s.state_sound.S1.end_count_is (c.free_word.ensures (view m) (memory_sized m s) s.laid_out)
