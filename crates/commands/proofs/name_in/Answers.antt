-- `name_in` compares with the names in the order of the definition. Assumes nothing.
use Rattle.std.proofs.Common.{refl}
use Rattle.rules.specs.Text.{text}
use Rattle.commands.specs.Asked.{name_in}
use Rattle.commands.proofs.Parsing.{compared}
use Rattle.commands.proofs.name_in.Goals as goal

pub returns-then-eq : goal.returns-then-eq
unfolding name_in text
returns-then-eq c =
    let word = c.args.word.now in
    let t1 = compared word (text "load") c.as_slice.ensures c.eq.ensures c.if-eq.true in
    rw (t1) refl

pub returns-then-eq-2 : goal.returns-then-eq-2
unfolding name_in text
returns-then-eq-2 c =
    let word = c.args.word.now in
    let t1 = compared word (text "load") c.as_slice.ensures c.eq.ensures c.if-eq.false in
    let t2 = compared word (text "write") c.as_slice-2.ensures c.eq-2.ensures c.if-eq-2.true in
    rw (t1, t2) refl

pub returns-then-eq-3 : goal.returns-then-eq-3
unfolding name_in text
returns-then-eq-3 c =
    let word = c.args.word.now in
    let t1 = compared word (text "load") c.as_slice.ensures c.eq.ensures c.if-eq.false in
    let t2 = compared word (text "write") c.as_slice-2.ensures c.eq-2.ensures c.if-eq-2.false in
    let t3 = compared word (text "R") c.as_slice-3.ensures c.eq-3.ensures c.if-eq-3.true in
    rw (t1, t2, t3) refl

pub returns-then-eq-4 : goal.returns-then-eq-4
unfolding name_in text
returns-then-eq-4 c =
    let word = c.args.word.now in
    let t1 = compared word (text "load") c.as_slice.ensures c.eq.ensures c.if-eq.false in
    let t2 = compared word (text "write") c.as_slice-2.ensures c.eq-2.ensures c.if-eq-2.false in
    let t3 = compared word (text "R") c.as_slice-3.ensures c.eq-3.ensures c.if-eq-3.false in
    let t4 = compared word (text "E") c.as_slice-4.ensures c.eq-4.ensures c.if-eq-4.true in
    rw (t1, t2, t3, t4) refl

pub returns-then-eq-5 : goal.returns-then-eq-5
unfolding name_in text
returns-then-eq-5 c =
    let word = c.args.word.now in
    let t1 = compared word (text "load") c.as_slice.ensures c.eq.ensures c.if-eq.false in
    let t2 = compared word (text "write") c.as_slice-2.ensures c.eq-2.ensures c.if-eq-2.false in
    let t3 = compared word (text "R") c.as_slice-3.ensures c.eq-3.ensures c.if-eq-3.false in
    let t4 = compared word (text "E") c.as_slice-4.ensures c.eq-4.ensures c.if-eq-4.false in
    let t5 = compared word (text "run") c.as_slice-5.ensures c.eq-5.ensures c.if-eq-5.true in
    rw (t1, t2, t3, t4, t5) refl

pub returns-then-eq-6 : goal.returns-then-eq-6
unfolding name_in text
returns-then-eq-6 c =
    let word = c.args.word.now in
    let t1 = compared word (text "load") c.as_slice.ensures c.eq.ensures c.if-eq.false in
    let t2 = compared word (text "write") c.as_slice-2.ensures c.eq-2.ensures c.if-eq-2.false in
    let t3 = compared word (text "R") c.as_slice-3.ensures c.eq-3.ensures c.if-eq-3.false in
    let t4 = compared word (text "E") c.as_slice-4.ensures c.eq-4.ensures c.if-eq-4.false in
    let t5 = compared word (text "run") c.as_slice-5.ensures c.eq-5.ensures c.if-eq-5.false in
    let t6 = compared word (text "peek") c.as_slice-6.ensures c.eq-6.ensures c.if-eq-6.true in
    rw (t1, t2, t3, t4, t5, t6) refl

pub returns-then-eq-7 : goal.returns-then-eq-7
unfolding name_in text
returns-then-eq-7 c =
    let word = c.args.word.now in
    let t1 = compared word (text "load") c.as_slice.ensures c.eq.ensures c.if-eq.false in
    let t2 = compared word (text "write") c.as_slice-2.ensures c.eq-2.ensures c.if-eq-2.false in
    let t3 = compared word (text "R") c.as_slice-3.ensures c.eq-3.ensures c.if-eq-3.false in
    let t4 = compared word (text "E") c.as_slice-4.ensures c.eq-4.ensures c.if-eq-4.false in
    let t5 = compared word (text "run") c.as_slice-5.ensures c.eq-5.ensures c.if-eq-5.false in
    let t6 = compared word (text "peek") c.as_slice-6.ensures c.eq-6.ensures c.if-eq-6.false in
    let t7 = compared word (text "poke") c.as_slice-7.ensures c.eq-7.ensures c.if-eq-7.true in
    rw (t1, t2, t3, t4, t5, t6, t7) refl

pub returns : goal.returns
unfolding name_in text
returns c =
    let word = c.args.word.now in
    let t1 = compared word (text "load") c.as_slice.ensures c.eq.ensures c.if-eq.false in
    let t2 = compared word (text "write") c.as_slice-2.ensures c.eq-2.ensures c.if-eq-2.false in
    let t3 = compared word (text "R") c.as_slice-3.ensures c.eq-3.ensures c.if-eq-3.false in
    let t4 = compared word (text "E") c.as_slice-4.ensures c.eq-4.ensures c.if-eq-4.false in
    let t5 = compared word (text "run") c.as_slice-5.ensures c.eq-5.ensures c.if-eq-5.false in
    let t6 = compared word (text "peek") c.as_slice-6.ensures c.eq-6.ensures c.if-eq-6.false in
    let t7 = compared word (text "poke") c.as_slice-7.ensures c.eq-7.ensures c.if-eq-7.false in
    rw (t1, t2, t3, t4, t5, t6, t7) refl
