-- `split_word` cuts at the first space. Assumes nothing.
use Rattle.commands.proofs.Parsing.{split_parts}
use Rattle.commands.proofs.split_word.Goals as goal

pub returns : goal.returns
returns c =
    let l = c.length_before-n in
    split_parts c.args.words.now l.result l.ensures.is l.ensures.within c.if-n-words.false
