-- `spell` stores one digit in front of the other. The invariant: what is left to spell stands in front of what is stored, and has room.
-- Assumes nothing.
use Rattle.std.proofs.Common.{◌≡◌, ◌^◌, ◌≤◌, ◌<◌, length, drop}
use Rattle.rules.specs.Text.{decimal}
use Rattle.text.proofs.Decimals.{digits_left}
use Rattle.text.proofs.printing.spell.Given as goal

abbrev pub invariant-loop-rest : goal.invariant-loop-rest
invariant-loop-rest l = (l.from ≤ 19) × (length l.digits ≡ 20) × (l.rest < 10 ^ l.from)
    × (decimal l.n ≡ digits_left l.from l.rest (drop l.from l.digits))

abbrev pub decreases-loop-rest : goal.decreases-loop-rest
decreases-loop-rest l = l.rest
