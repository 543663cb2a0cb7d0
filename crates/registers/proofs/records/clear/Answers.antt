-- `clear` copies zeros over the record. Assumes nothing.
use Rattle.std.proofs.Common.{sym, ◌∙◌}
use Rattle.rules.specs.State.{free_record}
use Rattle.rules.specs.Numbers.{record_number}
use Rattle.words.specs.Parts.{put_at}
use Rattle.registers.proofs.WriteLaws.{all_zero_lem, record_saved}
use Rattle.registers.proofs.records.clear.Goals as goal

pub returns : goal.returns
returns c st z e =
    let m = c.args.m.now in
    let r = record_number c.args.r in
    c.copy.ensures
    ∙ (λ i. put_at m (c.start_of.ensures i) (sym all_zero_lem i))
    ∙ record_saved st z r free_record c.requires.1 e
