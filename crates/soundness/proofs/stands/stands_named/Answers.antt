-- `stands_named` compares the slot and asks the own causes of a get, a fork and an hcase; no other instruction waits. Assumes nothing.
use Rattle.rules.specs.Numbers.{end_number}
use Rattle.rules.specs.Instruction.{places_at}
use Rattle.soundness.proofs.Instructions.{stands_get, stands_hcase, stands_fork, stands_other}
use borrow.Enum.Refused.{opened}
use Rattle.soundness.proofs.stands.stands_named.Goals as goal

pub returns-in-Get : goal.returns-in-Get
returns-in-Get c g code place next w h =
    let e = end_number c.args.e in
    stands_get e g code place next c.stands_held.ensures (c.holds.ensures g w h) c.in-Get.is
    (c.get.ensures g w h)

pub returns-in-Fork : goal.returns-in-Fork
returns-in-Fork c g code place next w h =
    let e = end_number c.args.e in
    stands_fork e g code place next c.stands_held-in-Fork.ensures (c.holds-in-Fork.ensures g w h) c.in-Fork.is
    (c.fork.ensures g w h)

pub returns-in-Hcase : goal.returns-in-Hcase
returns-in-Hcase c g code place next w h =
    let e = end_number c.args.e in
    let k = c.in-Hcase.field-1 in
    stands_hcase e g code place next c.stands_held-in-Hcase.ensures (c.holds-in-Hcase.ensures g w h) c.in-Hcase.is
    (c.hcase.ensures g (places_at code place 3 k) w h)

pub returns-in_default : goal.returns-in_default
returns-in_default c g code place next w h = stands_other (end_number c.args.e) g code place next c.args.i
    (opened c.in_default.in_default-own.keys4)
