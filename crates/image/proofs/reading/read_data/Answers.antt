-- `read_data` tests the rows from 22 on in their order: each is passed, or the first that holds decides. Assumes nothing.
use Rattle.std.proofs.Common.{List, ◌≡◌, sym, ap, ◌∙◌, true, not, ℕ, ◌+◌, ◌-◌, ◌*◌, ◌≤◌, arith, length, get_or, eq-eqb, ne_eqb, lt-ltb}
use Rattle.std.proofs.Common.{le-ltb}
use Rattle.rules.specs.Limits.{code_limit}
use Rattle.rules.specs.Refusal.{refused, done, unless}
use Rattle.rules.specs.Image.{data_size, head_size, block_count, code_in, read_causes}
use Rattle.image.specs.Answers.{length_read}
use Rattle.rules.proofs.Rows.{Passed, none_passed, passed, stopped, row_at}
use Rattle.image.proofs.Causes.{data_rows, last_block, first_row, second_row, none_row, many_row}
use Rattle.image.proofs.Causes.{count_row, zeros_row, found_size, rows_end}
use Rattle.image.proofs.reading.read_data.Goals as goal
use Rattle.image.proofs.reading.read_data.Goals.{After-any_nonzero, Else-block_count-count, Else-image-ne0, Else-image-ne1, Else-length-eq0}
use Rattle.image.proofs.reading.read_data.Goals.{Else-length-gt-CODE_LIMIT}

-- ---- the rows that are passed on the way
abbrev Left : List ℕ → ℕ → Type 0
Left image k = Passed (data_rows image) (done (code_in image)) k

-- a row that holds
wrong : (image : List ℕ) {k : ℕ} → Left image k → (row_at (data_rows image) k).1 ≡ true
    → refused (row_at (data_rows image) k).0
    ≡ length_read (unless (data_rows image) (done (code_in image)))
wrong image p e = sym (ap length_read (stopped p e))

left_1 : (c : Else-image-ne1) → Left c.args.image.now 1
left_1 c =
    let image = c.args.image.now in
    passed none_passed (first_row c.args.count image c.requires.whole_blocks c.requires.count_nonzero
    ∙ ap not (eq-eqb (get_or image 0 0) 1 c.if-image-ne1.false))

left_2 : (c : Else-image-ne0) (left_1_here : Left c.args.image.now 1)
    → Left c.args.image.now 2
left_2 c left_1_here =
    let image = c.args.image.now in
    let row = second_row c.args.count image c.requires.whole_blocks c.requires.count_nonzero in
    passed left_1_here (row ∙ ap not (eq-eqb (get_or image 1 0) 0 c.if-image-ne0.false))

left_3 : (c : Else-length-eq0) (left_2_here : Left c.args.image.now 2)
    → Left c.args.image.now 3
left_3 c left_2_here =
    let row = none_row c.args.count c.args.image.now c.requires.whole_blocks c.requires.count_nonzero c.code_length-length.ensures in
    passed left_2_here (row ∙ ne_eqb c.code_length-length.result 0 c.if-length-eq0.false)

left_4 : (c : Else-length-gt-CODE_LIMIT) (left_3_here : Left c.args.image.now 3)
    → Left c.args.image.now 4
left_4 c left_3_here =
    let L = c.code_length-length in
    let row = many_row c.args.count c.args.image.now c.requires.whole_blocks c.requires.count_nonzero L.ensures in
    passed left_3_here (row ∙ le-ltb code_limit L.result c.if-length-gt-CODE_LIMIT.false)

counted : (c : Else-block_count-count)
    → block_count c.code_length-length.result
    ≡ c.args.count
counted c = sym c.block_count.ensures ∙ c.if-block_count-count.false

left_5 : (c : Else-block_count-count)
    (left_4_here : Left c.args.image.now 4)
    → Left c.args.image.now 5
left_5 c left_4_here =
    let L = c.code_length-length in
    let row = count_row c.args.count c.args.image.now c.requires.whole_blocks c.requires.count_nonzero L.ensures in
    passed left_4_here (row ∙ ap not (eq-eqb (block_count L.result) c.args.count (counted c)))

pub returns-then-image-ne1 : goal.returns-then-image-ne1
unfolding read_causes
returns-then-image-ne1 c =
    let image = c.args.image.now in
    let row = first_row c.args.count image c.requires.whole_blocks c.requires.count_nonzero in
    wrong c.args.image.now none_passed (row ∙ ap not (ne_eqb (get_or image 0 0) 1 c.if-image-ne1.true))

pub returns-then-image-ne0 : goal.returns-then-image-ne0
unfolding read_causes
returns-then-image-ne0 c =
    let image = c.args.image.now in
    let row = second_row c.args.count image c.requires.whole_blocks c.requires.count_nonzero in
    wrong c.args.image.now (left_1 (goal.at.returns-then-image-ne0 c).Else-image-ne1) (row
    ∙ ap not (ne_eqb (get_or image 1 0) 0 c.if-image-ne0.true))

pub returns-then-length-eq0 : goal.returns-then-length-eq0
unfolding read_causes
returns-then-length-eq0 c =
    let row = none_row c.args.count c.args.image.now c.requires.whole_blocks c.requires.count_nonzero c.code_length-length.ensures in
    wrong c.args.image.now (left_2 (goal.at.returns-then-length-eq0 c).Else-image-ne0
    (left_1 (goal.at.returns-then-length-eq0 c).Else-image-ne1)) (row ∙ eq-eqb c.code_length-length.result 0 c.if-length-eq0.true)

pub returns-then-length-gt-CODE_LIMIT : goal.returns-then-length-gt-CODE_LIMIT
unfolding read_causes
returns-then-length-gt-CODE_LIMIT c =
    let L = c.code_length-length in
    let row = many_row c.args.count c.args.image.now c.requires.whole_blocks c.requires.count_nonzero L.ensures in
    wrong c.args.image.now (left_3 (goal.at.returns-then-length-gt-CODE_LIMIT c).Else-length-eq0
    (left_2 (goal.at.returns-then-length-gt-CODE_LIMIT c).Else-image-ne0
    (left_1 (goal.at.returns-then-length-gt-CODE_LIMIT c).Else-image-ne1))) (row
    ∙ lt-ltb code_limit L.result c.if-length-gt-CODE_LIMIT.true)

pub returns-then-block_count-count : goal.returns-then-block_count-count
unfolding read_causes
returns-then-block_count-count c =
    let L = c.code_length-length in
    let row = count_row c.args.count c.args.image.now c.requires.whole_blocks c.requires.count_nonzero L.ensures in
    let other : (block_count L.result ≡ c.args.count → ⊥) = λ e. c.if-block_count-count.true (c.block_count.ensures ∙ e) in
    wrong c.args.image.now (left_4 (goal.at.returns-then-block_count-count c).Else-length-gt-CODE_LIMIT
    (left_3 (goal.at.returns-then-block_count-count c).Else-length-eq0 (left_2 (goal.at.returns-then-block_count-count c).Else-image-ne0
    (left_1 (goal.at.returns-then-block_count-count c).Else-image-ne1)))) (row ∙ ap not (ne_eqb (block_count L.result) c.args.count other))

-- the code ends before the last check
ends : (c : Else-block_count-count)
    → head_size + c.code_length-length.result
    + 2 * (c.args.count - 1)
    ≤ length c.args.image.now - 2
ends c =
    let size = c.requires.whole_blocks in
    let b = last_block c.args.count c.code_length-length.result (counted c) c.requires.count_nonzero in
    omega arith

pub slice_bounds-any_nonzero-count : goal.slice_bounds-any_nonzero-count
slice_bounds-any_nonzero-count c = ends c

pub slice_bounds-any_nonzero-start : goal.slice_bounds-any_nonzero-start
slice_bounds-any_nonzero-start c = ends c

-- what `any_nonzero` says is the last row
padding : (c : After-any_nonzero) (counted_here : block_count c.code_length-length.result ≡ c.args.count)
    → (row_at (data_rows c.args.image.now) 5).1 ≡ c.any_nonzero.result
padding c counted_here =
    let L = c.code_length-length in
    let n = c.args.count in
    let image = c.args.image.now in
    let size = c.requires.whole_blocks in
    let b = last_block n L.result counted_here c.requires.count_nonzero in
    let w : length image - 2 - (head_size + L.result + 2 * (n - 1)) ≡ data_size * n - (head_size + L.result) = omega arith in
    zeros_row n image size c.requires.count_nonzero L.ensures counted_here w ∙ sym c.any_nonzero.ensures

pub returns-then-any_nonzero : goal.returns-then-any_nonzero
unfolding read_causes
returns-then-any_nonzero c =
    wrong c.args.image.now (left_5 (goal.at.returns-then-any_nonzero c).Else-block_count-count
    (left_4 (goal.at.returns-then-any_nonzero c).Else-length-gt-CODE_LIMIT (left_3 (goal.at.returns-then-any_nonzero c).Else-length-eq0
    (left_2 (goal.at.returns-then-any_nonzero c).Else-image-ne0 (left_1 (goal.at.returns-then-any_nonzero c).Else-image-ne1)))))
    (padding (goal.at.returns-then-any_nonzero c).After-any_nonzero (counted (goal.at.returns-then-any_nonzero c).Else-block_count-count)
    ∙ c.if-any_nonzero.true)

pub returns : goal.returns
returns c =
    let image = c.args.image.now in
    let L = c.code_length-length in
    let all = passed (left_5 (goal.at.returns c).Else-block_count-count (left_4 (goal.at.returns c).Else-length-gt-CODE_LIMIT
    (left_3 (goal.at.returns c).Else-length-eq0 (left_2 (goal.at.returns c).Else-image-ne0 (left_1 (goal.at.returns c).Else-image-ne1)))))
    (padding (goal.at.returns c).After-any_nonzero (counted (goal.at.returns c).Else-block_count-count) ∙ c.if-any_nonzero.false) in
    let size = found_size c.args.count image c.requires.whole_blocks c.requires.count_nonzero L.ensures
    (counted (goal.at.returns c).Else-block_count-count) in
    sym (ap length_read (rows_end image (done (code_in image)) all) ∙ ap done size)
