-- `read_full`: what a read gives stands behind what was read before. Assumes nothing.
use Rattle.std.proofs.Common.{◌≡◌, ℕ, ◌+◌, ◌-◌, ◌≤◌, List, ◌++◌, length, take, drop, rules, ap, sym, ◌∙◌, subst, le_refl, drop_at}
use Rattle.std.proofs.Common.{length-take-le}
use Rattle.std.proofs.lemmas.Slice.{take-put_mid_below}
use Rattle.std.specs.Io.KnownBytes.{Consumes}
use Rattle.std.proofs.KnownBytes.{Consumes-trans}
use borrow.Rule.Slice.PartMut.{put_mid, post_of}
use lib.Seq.{take-add, take-append-le}
use Rattle.input.proofs.read_full.Goals as goal

-- ys is written into xs at n: the first n bytes and the first of ys are the front of what xs is then
front_is : (n k got : ℕ) (xs ys : List ℕ) → n ≤ length xs → got ≤ length ys → take n xs ++ take got ys ≡ take (n + got) (put_mid n k xs ys)
front_is n k got xs ys within fits =
    let behind = post_of n k xs in
    let part = ap (take got) (drop_at (take n xs) (ys ++ behind) n (length-take-le n xs within)) ∙ take-append-le got ys behind fits in
    let before = take-put_mid_below n k xs ys n (le_refl n) within in
    sym (take-add n got (put_mid n k xs ys) ∙ ap (λ l. l ++ take got (drop n (put_mid n k xs ys))) before ∙ ap (λ l. take n xs ++ l) part)

pub loop-n-preserved : goal.loop-n-preserved
loop-n-preserved g c =
    let n = c.loop-n.n in
    let got = c.in_ok-got.got in
    let xs = c.loop-n.buffer in
    let front = front_is n (length xs - n) got xs c.read.new.buf c.loop-n.invariant.1 c.in_ok-got.ensures.bound.0 in
    (search rules, search rules, subst (Consumes _ _) front (Consumes-trans _ _ _ _ _ c.loop-n.invariant.2 c.in_ok-got.ensures.bytes.0))
