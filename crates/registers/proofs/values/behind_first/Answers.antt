-- The values move back by one cell, and the last cell is zero. Assumes nothing.
use Rattle.std.proofs.Common.{◌≡◌, ap, ◌∙◌, List, length, set, pos}
use Rattle.std.specs.List.{copy_within}
use Rattle.rules.specs.State.{Value}
use Rattle.rules.specs.Bytes.{pad}
use Rattle.words.proofs.Pads.{length_pad}
use Rattle.registers.proofs.ValueLaws.{behind_pad}
use Rattle.registers.proofs.values.behind_first.Goals as goal

pub returns : goal.returns
returns c l h e =
    let same : copy_within c.args.values 1 (length c.args.values) 0 ≡ copy_within (pad 16 (pos 0) l) 1 16 0 =
    rw (e, length_pad 16 (pos 0) l) in
    ap (λ (r : List Value). set r 15 (pos 0)) (c.copy_within.ensures.after ∙ same)
    ∙ behind_pad 15 (pos 0) l h
