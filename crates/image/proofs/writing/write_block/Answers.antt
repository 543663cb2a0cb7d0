-- `write_block` fills in the data, and writes its check behind it. Assumes nothing.
use Rattle.std.proofs.Common.{sym, arith, drop, length-take-le}
use Rattle.rules.specs.Image.{headed}
use Rattle.image.proofs.Writes.{filled_size, block_is}
use Rattle.image.proofs.writing.write_block.Goals as goal

pub slice_bounds-fill-end-2 : goal.slice_bounds-fill-end-2
slice_bounds-fill-end-2 c = sym (length-take-le 510 c.args.out.now (omega arith))

-- the data that is filled in
pub slice_bounds-check-end-2 : goal.slice_bounds-check-end-2
slice_bounds-check-end-2 c =
    let a = c.args in
    sym (filled_size a.out.now (drop a.from (headed a.code.now)) c.requires.out_len c.fill.ensures)

pub check-check-requires : goal.check-check-requires
check-check-requires c =
    let a = c.args in
    filled_size a.out.now (drop a.from (headed a.code.now)) c.requires.out_len c.fill.ensures

pub returns : goal.returns
returns c =
    let a = c.args in
    let bytes = drop a.from (headed a.code.now) in
    block_is a.out.now bytes c.requires.out_len c.fill.ensures c.check-check.ensures c.put16_high.ensures
