-- `bare` compares with the names in the order of the definition. Assumes nothing.
use Rattle.std.proofs.Common.{refl}
use Rattle.rules.specs.Text.{text}
use Rattle.commands.specs.Asked.{bare_asked}
use Rattle.commands.proofs.Parsing.{compared}
use Rattle.commands.proofs.bare.Goals as goal

pub returns-then-eq-clause-is : goal.returns-then-eq-clause-is
unfolding bare_asked text
returns-then-eq-clause-is c =
    let word = c.args.word.now in
    let t1 = compared word (text "load") c.as_slice.ensures c.eq.ensures c.if-eq.true in
    λ bytes. rw (t1) refl

pub returns-then-eq-2-clause-is : goal.returns-then-eq-2-clause-is
unfolding bare_asked text
returns-then-eq-2-clause-is c =
    let word = c.args.word.now in
    let t1 = compared word (text "load") c.as_slice.ensures c.eq.ensures c.if-eq.false in
    let t2 = compared word (text "write") c.as_slice-2.ensures c.eq-2.ensures c.if-eq-2.true in
    λ bytes. rw (t1, t2) refl

pub returns-then-eq-3-clause-is : goal.returns-then-eq-3-clause-is
unfolding bare_asked text
returns-then-eq-3-clause-is c =
    let word = c.args.word.now in
    let t1 = compared word (text "load") c.as_slice.ensures c.eq.ensures c.if-eq.false in
    let t2 = compared word (text "write") c.as_slice-2.ensures c.eq-2.ensures c.if-eq-2.false in
    let t3 = compared word (text "free") c.as_slice-3.ensures c.eq-3.ensures c.if-eq-3.true in
    λ bytes. rw (t1, t2, t3) refl

pub returns-then-eq-4-clause-is : goal.returns-then-eq-4-clause-is
unfolding bare_asked text
returns-then-eq-4-clause-is c =
    let word = c.args.word.now in
    let t1 = compared word (text "load") c.as_slice.ensures c.eq.ensures c.if-eq.false in
    let t2 = compared word (text "write") c.as_slice-2.ensures c.eq-2.ensures c.if-eq-2.false in
    let t3 = compared word (text "free") c.as_slice-3.ensures c.eq-3.ensures c.if-eq-3.false in
    let t4 = compared word (text "dump") c.as_slice-4.ensures c.eq-4.ensures c.if-eq-4.true in
    λ bytes. rw (t1, t2, t3, t4) refl

pub returns-clause-is : goal.returns-clause-is
unfolding bare_asked text
returns-clause-is c =
    let word = c.args.word.now in
    let t1 = compared word (text "load") c.as_slice.ensures c.eq.ensures c.if-eq.false in
    let t2 = compared word (text "write") c.as_slice-2.ensures c.eq-2.ensures c.if-eq-2.false in
    let t3 = compared word (text "free") c.as_slice-3.ensures c.eq-3.ensures c.if-eq-3.false in
    let t4 = compared word (text "dump") c.as_slice-4.ensures c.eq-4.ensures c.if-eq-4.false in
    λ bytes. rw (t1, t2, t3, t4) refl
