-- store: 5, 6, or the top in front of the environment. Assumes nothing.
use Rattle.std.proofs.Common.{arith, length, le-leb}
use borrow.Author.Tests.{lt-leb}
use Rattle.rules.specs.Limits.{environment_depth}
use Rattle.rules.specs.Layout.{view}
use Rattle.keeping.proofs.Memories.{memory_length}
use Rattle.registers.specs.Registers.{stored}
use Rattle.registers.proofs.Fields.{by_fields}
use Rattle.stepping.proofs.Steps.{refused_step, done_step, memory_sized, registers_ok, held_is}
use Rattle.numbers.proofs.Cases.{store_few, store_full, store_done}
use Rattle.numbers.proofs.Loaded.{few, enough}
use Rattle.numbers.proofs.store.Goals as goal

pub load-held-requires : goal.load-held-requires
load-held-requires c = (memory_length _ c.requires.0, c.requires.1)

pub returns-then-held-lt1 : goal.returns-then-held-lt1
returns-then-held-lt1 c g is =
    let m = c.args.m.now in
    let x = held_is m c.requires.0 _ g is c.load-held.ensures in
    refused_step 5 (store_few (view m) _ _ g (few g x 1 c.if-held-lt1.true))

pub returns-then-held-ge16 : goal.returns-then-held-ge16
returns-then-held-ge16 c g is =
    let m = c.args.m.now in
    let x = held_is m c.requires.0 _ g is c.load-held.ensures in
    let full = le-leb environment_depth (length g.environment) (omega (arith, c.if-held-ge16.true, (by_fields g x).environment_count_is)) in
    refused_step 6 (store_full (view m) _ _ g (enough g x 1 c.if-held-lt1.false) full)

pub save_running-requires : goal.save_running-requires
save_running-requires c = (memory_length _ c.requires.0, c.requires.1)

pub returns : goal.returns
returns c g is =
    let m = c.args.m.now in
    let s = c.requires.0 in
    let x = held_is m s _ g is c.load-held.ensures in
    let room = lt-leb environment_depth (length g.environment) (omega (arith, c.if-held-ge16.false, (by_fields g x).environment_count_is))
    in
    let within = (registers_ok m s _ g is).stack_within in
    let moved = c.at.ensures (stored g) (c.store-stored.ensures.value g within x) in
    done_step m _ (store_done (view m) _ _ g (enough g x 1 c.if-held-lt1.false) room)
    (c.save_running.ensures (view m) _ (memory_sized m s) s.laid_out moved)
