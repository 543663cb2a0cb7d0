-- `copy_code` copies one run of the code for each block. The invariant: data up to p is copied, which for i blocks is all of theirs, but
-- neither the head nor what is past the code. Assumes nothing.
use Rattle.std.proofs.Common.{◌≡◌, sym, ◌∙◌, ◌+◌, ◌-◌, ◌*◌, ◌≤◌, arith, length, length-take, take_all}
use Rattle.rules.specs.Image.{data_size, head_size, blocks_in, code_length, code_in}
use Rattle.image.proofs.Right.{Right, right_of}
use Rattle.image.proofs.Data.{length_is, code_size}
use Rattle.image.proofs.Copies.{ends, Run, run_is, next_run}
use Rattle.image.proofs.copy_code.Goals as goal
use Rattle.image.proofs.copy_code.Goals.{After-code_length-end, After-min-stop, Start}

-- ---- what is known on the way
right : (s : Start) → Right s.args.image.now
right s = (right_of s.args.image.now (code_in s.args.image.now) s.requires.image_reads).0

-- the length that the image states
stated : (c : After-code_length-end) → c.code_length-end.result ≡ code_length c.args.image.now
stated c =
    let image = c.args.image.now in
    let r = right c.before.before.before.before in
    c.code_length-end.ensures ∙ sym (length_is (blocks_in image) image r.size r.some)

-- the run of block i
run : (c : After-min-stop) (stated_here : c.code_length-end.result ≡ code_length c.args.image.now)
    → Run c.code_length-end.result c.loop-i.i c.loop-i.p c.min-stop.result
run c stated_here =
    let image = c.args.image.now in
    let L = c.code_length-end.result in
    let e = (ends image (right c.before.before.before.before.before.before.before)).0 in
    let last : data_size * (blocks_in image - 1) ≤ head_size + L = rw stated_here e in
    run_is (blocks_in image) L c.loop-i.i c.loop-i.p c.min-stop.result c.loop-i-test.true last
    c.loop-i.invariant.0 c.min-stop.ensures

-- ---- the goals
pub code_length-end-requires : goal.code_length-end-requires
code_length-end-requires c = let r = right (goal.at.code_length-end-requires c).Start in let some = r.some in omega arith

pub copy-requires : goal.copy-requires
copy-requires c =
    let e = stated (goal.at.copy-requires c).After-code_length-end in
    let fits = c.requires.room in
    let k = run (goal.at.copy-requires c).After-min-stop (stated (goal.at.copy-requires c).After-code_length-end) in
    let size = c.loop-i.invariant.1 in
    simp length-take (omega arith)

pub loop-i-preserved : goal.loop-i-preserved
loop-i-preserved c =
    let a = c.args in
    let l = c.loop-i in
    let q = c.min-stop.result in
    let k = run (goal.at.loop-i-preserved c).After-min-stop (stated (goal.at.loop-i-preserved c).After-code_length-end) in
    let k' = rw (stated (goal.at.loop-i-preserved c).After-code_length-end) at k in
    let test = c.loop-i-test.true in
    let here = next_run a.image.now (right (goal.at.loop-i-preserved c).Start) a.out.now a.at l.i l.p q test k'
    l.invariant.2 c.copy.ensures in
    (omega arith, omega arith, here)

pub returns : goal.returns
returns c =
    let image = c.args.image.now in
    let r = right (goal.at.returns c).Start in
    let e = stated (goal.at.returns c).After-code_length-end in
    let end = (ends image r).1 in
    let size = code_size (blocks_in image) image r.size r.some end in
    let all : length (code_in image) ≤ c.loop-i.p - head_size = rw size (omega arith) in
    c.loop-i.invariant.2 ∙ rw (take_all (c.loop-i.p - head_size) (code_in image) all)
