-- `read` tests the rows of 20 and 21 in their order and leaves those of 22 and 23 to `read_data`. Assumes nothing.
use Rattle.std.proofs.Common.{List, ◌≡◌, sym, ap, ◌∙◌, true, not, ℕ, ◌*◌, length, eq-eqb, ne_eqb, lt-ltb, le-ltb}
use Rattle.rules.specs.Refusal.{refused, done}
use Rattle.rules.specs.Image.{block_size, block_limit, blocks_in, code_in, read_causes, read_image}
use Rattle.image.specs.Answers.{length_read}
use Rattle.rules.proofs.Rows.{Passed, none_passed, passed, stopped, row_at}
use Rattle.image.proofs.read.Goals as goal
use Rattle.image.proofs.read.Goals.{Else-any_check_wrong, Else-count-eq0, Else-count-gt-BLOCK_LIMIT, Else-count-image}

-- ---- the rows that are passed on the way
abbrev Left : List ℕ → ℕ → Type 0
Left image k = Passed (read_causes image) (done (code_in image)) k

-- a row that holds
wrong : (image : List ℕ) {k : ℕ} → Left image k → (row_at (read_causes image) k).1 ≡ true
    → refused (row_at (read_causes image) k).0 ≡ length_read (read_image image)
unfolding read_image
wrong image p e = sym (ap length_read (stopped p e))

left_1 : (c : Else-count-image) → Left c.args.image.now 1
unfolding read_causes
left_1 c =
    let image = c.args.image.now in
    passed none_passed (ap not (eq-eqb (block_size * blocks_in image) (length image) c.if-count-image.false))

left_2 : (c : Else-count-eq0) (left_1_here : Left c.args.image.now 1) → Left c.args.image.now 2
unfolding read_causes
left_2 c left_1_here = passed left_1_here (ne_eqb (blocks_in c.args.image.now) 0 c.if-count-eq0.false)

left_3 : (c : Else-count-gt-BLOCK_LIMIT) (left_2_here : Left c.args.image.now 2)
    → Left c.args.image.now 3
unfolding read_causes
left_3 c left_2_here =
    passed left_2_here (le-ltb block_limit (blocks_in c.args.image.now) c.if-count-gt-BLOCK_LIMIT.false)

left_4 : (c : Else-any_check_wrong) (left_3_here : Left c.args.image.now 3)
    → Left c.args.image.now 4
unfolding read_causes
left_4 c left_3_here = passed left_3_here (sym c.any_check_wrong.ensures ∙ c.if-any_check_wrong.false)

pub returns-then-count-image : goal.returns-then-count-image
unfolding read_causes
returns-then-count-image c =
    let image = c.args.image.now in
    wrong c.args.image.now none_passed
    (ap not (ne_eqb (block_size * blocks_in image) (length image) c.if-count-image.true))

pub returns-then-count-eq0 : goal.returns-then-count-eq0
unfolding read_causes
returns-then-count-eq0 c =
    wrong c.args.image.now (left_1 (goal.at.returns-then-count-eq0 c).Else-count-image)
    (eq-eqb (blocks_in c.args.image.now) 0 c.if-count-eq0.true)

pub returns-then-count-gt-BLOCK_LIMIT : goal.returns-then-count-gt-BLOCK_LIMIT
unfolding read_causes
returns-then-count-gt-BLOCK_LIMIT c =
    wrong c.args.image.now (left_2 (goal.at.returns-then-count-gt-BLOCK_LIMIT c).Else-count-eq0
    (left_1 (goal.at.returns-then-count-gt-BLOCK_LIMIT c).Else-count-image)) (lt-ltb block_limit (blocks_in c.args.image.now)
    c.if-count-gt-BLOCK_LIMIT.true)

pub returns-then-any_check_wrong : goal.returns-then-any_check_wrong
unfolding read_causes
returns-then-any_check_wrong c =
    wrong c.args.image.now (left_3 (goal.at.returns-then-any_check_wrong c).Else-count-gt-BLOCK_LIMIT
    (left_2 (goal.at.returns-then-any_check_wrong c).Else-count-eq0 (left_1 (goal.at.returns-then-any_check_wrong c).Else-count-image)))
    (sym c.any_check_wrong.ensures ∙ c.if-any_check_wrong.true)

pub returns : goal.returns
unfolding read_image
returns c =
    c.read_data.ensures
    ∙ ap length_read
    (sym (left_4 (goal.at.returns c).Else-any_check_wrong (left_3 (goal.at.returns c).Else-count-gt-BLOCK_LIMIT
    (left_2 (goal.at.returns c).Else-count-eq0 (left_1 (goal.at.returns c).Else-count-image)))).left)
