-- `save` writes the numbers, the slots, the stack and the environment. Assumes nothing.
use Rattle.std.proofs.Common.{◌∙◌, ◌∷◌}
use Rattle.rules.specs.Layout.{registers_bytes}
use Rattle.words.specs.Parts.{put_at}
use Rattle.registers.specs.Registers.{status_byte}
use Rattle.registers.proofs.Fields.{by_fields}
use Rattle.registers.proofs.WriteLaws.{registers_written}
use Rattle.registers.proofs.records.save.Goals as goal

pub returns : goal.returns
returns c g e =
    let m = c.args.m.now in
    registers_written m c.start_of-at.result _ g (by_fields g e) c.write_numbers.ensures
    c.write.ensures c.write-2.ensures c.write-3.ensures
    ∙ (λ i. put_at m (c.start_of-at.ensures i) (status_byte c.args.status ∷ registers_bytes g))
