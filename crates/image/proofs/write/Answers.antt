-- `write` tests the rows of 26 and 27 in their order, and writes the blocks. Assumes nothing.
use Rattle.std.proofs.Common.{◌≡◌, List, ℕ, ◌*◌, ◌≤◌, length, arith, rules, eq-eqb, ne_eqb, lt-ltb, le-ltb}
use Rattle.rules.specs.Limits.{code_limit}
use Rattle.rules.specs.Refusal.{done}
use Rattle.rules.specs.Image.{block_size, block_limit, block_count, write_causes, written}
use Rattle.rules.specs.Calls.{write_answer}
use Rattle.rules.proofs.Rows.{Passed, none_passed, passed, stopped}
use Rattle.image.proofs.Writes.{counted, few_blocks, write_refused, write_done}
use Rattle.image.proofs.write.Goals as goal

-- ---- what is known on the way
abbrev Left : (code out : List ℕ) → ℕ → Type 0
Left code out k = Passed (write_causes code out) (done (written code out)) k

some_code : (code out : List ℕ) → (length code ≡ 0 → ⊥) → Left code out 1
unfolding write_causes
some_code code out h = passed none_passed (ne_eqb (length code) 0 h)

few_bytes : (code out : List ℕ) → Left code out 1 → length code ≤ code_limit → Left code out 2
unfolding write_causes
few_bytes code out before h = passed before (le-ltb code_limit (length code) h)

enough_room : (code out : List ℕ) → Left code out 2 → block_size * block_count (length code) ≤ length out → Left code out 3
unfolding write_causes
enough_room code out before h = passed before (le-ltb (length out) (block_size * block_count (length code)) h)

pub overflow_mul-size : goal.overflow_mul-size
overflow_mul-size c =
    let code = c.args.code.now in
    rw c.block_count-count.ensures (record { fits = counted (length code) (search rules) })

pub returns-then-length-eq0 : goal.returns-then-length-eq0
unfolding write_answer write_causes
returns-then-length-eq0 c =
    let a = c.args in
    let told = write_refused a.code.now a.out.now
    (stopped {rows = write_causes a.code.now a.out.now} none_passed (eq-eqb (length a.code.now) 0 c.if-length-eq0.true)) in
    record {
      number = told.0;
      memory = told.1.0;
      reply = told.1.1;
    }

pub returns-then-length-gt-CODE_LIMIT : goal.returns-then-length-gt-CODE_LIMIT
unfolding write_answer write_causes
returns-then-length-gt-CODE_LIMIT c =
    let a = c.args in
    let told = write_refused a.code.now a.out.now
    (stopped (some_code a.code.now a.out.now c.if-length-eq0.false)
    (lt-ltb code_limit (length a.code.now) c.if-length-gt-CODE_LIMIT.true)) in
    record {
      number = told.0;
      memory = told.1.0;
      reply = told.1.1;
    }

pub returns-then-out-size : goal.returns-then-out-size
unfolding write_answer write_causes
returns-then-out-size c =
    let a = c.args in
    let n = block_size * block_count (length a.code.now) in
    let short = lt-ltb (length a.out.now) n (rw c.block_count-count.ensures at c.if-out-size.true) in
    let within : length a.code.now ≤ code_limit = omega arith in
    let told = write_refused a.code.now a.out.now
    (stopped (few_bytes a.code.now a.out.now (some_code a.code.now a.out.now c.if-length-eq0.false) within) short) in
    record {
      number = told.0;
      memory = told.1.0;
      reply = told.1.1;
    }

pub write_blocks-requires : goal.write_blocks-requires
write_blocks-requires c =
    let code = c.args.code.now in
    let few : c.block_count-count.result ≤ block_limit
    = rw c.block_count-count.ensures (few_blocks (length code) c.if-length-gt-CODE_LIMIT.false) in
    record {
      code_len_bound = search rules;
      count_le_block_limit = few;
      room = search rules;
    }

pub returns : goal.returns
returns c =
    let a = c.args in
    let within : length a.code.now ≤ code_limit = omega arith in
    let room = rw c.block_count-count.ensures at c.if-out-size.false in
    let rows = enough_room a.code.now a.out.now
    (few_bytes a.code.now a.out.now (some_code a.code.now a.out.now c.if-length-eq0.false) within) room in
    let told = write_done a.code.now a.out.now rows c.block_count-count.ensures c.write_blocks.ensures in
    record {
      number = told.0;
      memory = told.1.0;
      reply = told.1.1;
    }
