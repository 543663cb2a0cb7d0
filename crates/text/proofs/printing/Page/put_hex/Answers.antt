-- Hex is twice as long as the bytes, and fills the slice that it is put into. Assumes nothing.
use Rattle.std.proofs.Common.{refl, arith}
use Rattle.words.proofs.Parts.{put_middle}
use Rattle.text.specs.Written.{hex_text}
use Rattle.text.proofs.Hex.{length_text}
use Rattle.text.proofs.printing.Page.put_hex.Goals as goal

pub overflow_add-end : goal.overflow_add-end
overflow_add-end c = omega (arith, length_text c.args.bytes.now, c.requires, c.type_inv.self)

pub slice_bounds-hex_into-end : goal.slice_bounds-hex_into-end
slice_bounds-hex_into-end c = omega (arith, length_text c.args.bytes.now, c.requires)

pub returns : goal.returns
returns c =
    let p = c.args.self.now in
    let twice = length_text c.args.bytes.now in
    record {
      same_buffer = refl;
      memory = rw (← twice) (put_middle p.out.now p.at (hex_text c.args.bytes.now) c.requires c.hex_into.ensures);
      place = omega (arith, twice);
    }
