-- The part of the code behind the fixed part. Assumes nothing.
use Rattle.std.proofs.Common.{ap, ◌∙◌, List, ◌+◌, ◌-◌, take, drop}
use Rattle.processes.proofs.Listed.{listed_part}
use Rattle.processes.proofs.calling.listed.Goals as goal

pub returns : goal.returns
returns c =
    let a = c.args in
    let from = a.at + 5 in
    ap (λ (code : List _). take (from + a.j - from) (drop from code)) c.code-code.ensures
    ∙ listed_part _ a.at a.j c.requires.1
