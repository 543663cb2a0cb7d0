-- `clear` fills the front with zeros. Assumes nothing.
use Rattle.std.proofs.Common.{◌≡◌, replicate, rules}
use Rattle.words.proofs.Pads.{put_zeros}
use Rattle.memory.proofs.clear.Goals as goal

pub returns : goal.returns
returns c =
    let filled : c.fill.new.self ≡ replicate c.args.to 0 = search rules in
    put_zeros c.args.m.now c.args.to c.requires filled
