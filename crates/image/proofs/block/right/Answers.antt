-- `right` compares the check of the data with the two bytes behind it. Assumes nothing.
use Rattle.std.proofs.Common.{◌≡◌, sym, arith, length, take, length-take-le}
use Rattle.image.proofs.block.right.Goals as goal
use Rattle.image.proofs.block.right.Goals.{After-shared_slice_known-1}

size : (c : After-shared_slice_known-1) → length (take 510 c.args.block.now) ≡ 510
size c = length-take-le 510 c.args.block.now (omega arith)

pub slice_bounds-check-end : goal.slice_bounds-check-end
slice_bounds-check-end c = sym (size (goal.at.slice_bounds-check-end c).After-shared_slice_known-1)
