-- `values::write` stores the values one after the other. The invariant: the first k are written. Assumes nothing.
use Rattle.std.proofs.Common.{◌≡◌, length, take}
use Rattle.rules.specs.Bytes.{flat}
use Rattle.rules.specs.Layout.{value_bytes}
use Rattle.words.specs.Parts.{put_at}
use Rattle.registers.proofs.values.write.Given as goal

abbrev pub invariant-loop-k : goal.invariant-loop-k
invariant-loop-k l = (length l.m ≡ length l.initial.m)
    × (l.m ≡ put_at l.initial.m l.at (flat value_bytes (take l.k l.values)))
