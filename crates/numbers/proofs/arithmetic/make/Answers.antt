-- 5, 9, or what is made in the place of the two values. Assumes nothing.
use Rattle.std.proofs.Common.{◌∙◌, arith, rules, w64, SFits, to_z-of_z}
use Rattle.rules.specs.Layout.{view}
use Rattle.keeping.proofs.Memories.{memory_length}
use Rattle.stepping.proofs.Steps.{refused_step, held_is}
use Rattle.numbers.proofs.Cases.{made_few, made_checked}
use Rattle.numbers.proofs.Loaded.{few, enough, checked_step}
use Rattle.numbers.proofs.arithmetic.make.Goals as goal

pub load-held-requires : goal.load-held-requires
load-held-requires c = (memory_length _ c.requires.0, c.requires.1)

pub returns-then-held-lt2 : goal.returns-then-held-lt2
returns-then-held-lt2 c g is =
    let m = c.args.m.now in
    let x = held_is m c.requires.0 _ g is c.load-held.ensures in
    refused_step 5 (made_few (view m) _ _ g c.args.made (few g x 2 c.if-held-lt2.true))

pub combine_checked-requires : goal.combine_checked-requires
combine_checked-requires c = (memory_length _ c.requires.0, c.requires.1, omega (arith, c.if-held-lt2.false))

pub returns : goal.returns
returns c g is =
    let m = c.args.m.now in
    let x = held_is m c.requires.0 _ g is c.load-held.ensures in
    let of_value : SFits w64 c.value_of.result = search rules in
    let value = to_z-of_z {w = w64} of_value ∙ c.value_of.ensures g x in
    let answer = made_checked (view m) _ _ g c.args.made (enough g x 2 c.if-held-lt2.false) in
    checked_step m c.requires.0 _ _ g is x value answer c.combine_checked.ensures
