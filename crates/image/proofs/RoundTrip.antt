-- The code's round trips, over the definitions of `rules` that the contracts of `write`, `read` and `copy_code` name: reading what was
-- written finds the code, and writing the code of an image that reads gives the same blocks. Assumes nothing.
use mathlib.Core.Path.{◌≡◌, refl, sym, ap, ◌∙◌}
use mathlib.Core.Bool.{Bool, true, false}
use mathlib.Core.List.{List, [], ◌++◌}
use Prim.Native.Nat.{ℕ, zero, suc, ◌+◌, ◌-◌, ◌*◌, ◌≤◌, ◌<◌}
use native.Mathlib.Decide.{dec_lt}
use native.Mathlib.Omega.{arith}
use lib.ListN.{length, get_or, take, drop, drop_of_length-le, get_or-eq_default}
use lib.Seq.{ext_get_or, get_or-take, get_or-drop, take_at}
use lib.Dec.{eqb, ltb}
use borrow.Author.Tests.{eqb-false, ltb-false, ne_eqb, le-ltb}
use Rattle.words.specs.Parts.{Bytes}
use Rattle.words.proofs.Pads.{length_pad, get_d_pad, take_pad, drop_pad, pad_same}
use Rattle.rules.specs.Limits.{code_limit}
use Rattle.rules.specs.Bytes.{pad}
use Rattle.rules.specs.Refusal.{done, refuse_if, unless, number_of}
use Rattle.rules.specs.Calls.{write, write_answer}
use Rattle.rules.specs.Image.{block_size, data_size, head_size, blocks, block_count, blocks_in, headed, image_of}
use Rattle.rules.specs.Image.{image_data, code_length, code_in, any_nonzero, read_image, write_causes, written}
use Rattle.rules.proofs.Rows.{all_passed}
use Rattle.image.proofs.Zeros.{zeros_pad, zero_at}
use Rattle.image.proofs.Data.{blocks_are, data_is, data_byte, data_size_lem, code_size}
use Rattle.image.proofs.Causes.{last_block}
use Rattle.image.proofs.Right.{Right, right_of, reads}
use Rattle.image.proofs.Writes.{length_blocks, few_blocks}
use Rattle.image.proofs.Blocks.{data_blocks, checks_blocks, blocks_data}

-- the data of a code: head, code, zeros
abbrev data_of : List ℕ → List ℕ
data_of code = pad (data_size * block_count (length code)) 0 (headed code)

-- ---- reading what was written

module _ (code : List ℕ) (long : 1 ≤ length code) (short : length code ≤ code_limit) where
  some : 0 < block_count (length code)
  unfolding block_count
  some = omega arith

  ends : head_size + length code ≤ data_size * block_count (length code)
  ends = (last_block (block_count (length code)) (length code) refl some).1

  size : length (data_of code) ≡ data_size * block_count (length code)
  size = length_pad (data_size * block_count (length code)) 0 (headed code)

  whole : block_size * block_count (length code) ≡ length (image_of code)
  unfolding image_of
  whole = sym (length_blocks (block_count (length code)) (data_of code) (rw size (omega arith)))

  written_data : image_data (image_of code) ≡ data_of code
  unfolding image_of
  written_data =
      let n : ℕ = block_count (length code) in
      data_is n (image_of code) whole some ∙ data_blocks n (data_of code) size

  -- byte j of the data
  written_byte : (j : ℕ) → j < data_size → get_or (image_data (image_of code)) j 0 ≡ get_or (headed code) j 0
  written_byte j h = rw written_data (get_d_pad (data_size * block_count (length code)) 0 (headed code) j (omega (arith, some)))

  written_length : code_length (image_of code) ≡ length code
  unfolding code_length headed
  written_length = rw (written_byte 2 (omega arith), written_byte 3 (omega arith)) (omega arith)

  written_code : code_in (image_of code) ≡ code
  unfolding code_in headed
  written_code =
      let room : ℕ = data_size * block_count (length code) - head_size in
      let spare : ℕ = room - length code in
      let e : data_size * block_count (length code) ≡ head_size + room = omega (arith, ends) in
      let f : room ≡ length code + spare = omega (arith, ends) in
      rw (written_length, written_data, e, drop_pad head_size room 0 (headed code), f, take_pad (length code) spare 0 code)
      (pad_same (length code) 0 code refl)

  written_zeros : any_nonzero (drop (head_size + code_length (image_of code)) (image_data (image_of code))) ≡ false
  unfolding headed
  written_zeros =
      let end : ℕ = head_size + length code in
      let spare : ℕ = data_size * block_count (length code) - end in
      let e : data_size * block_count (length code) ≡ end + spare = omega (arith, ends) in
      let all : length (headed code) ≤ end = omega arith in
      let none : drop end (headed code) ≡ [] = drop_of_length-le (headed code) all in
      rw (written_length, written_data, e, drop_pad end spare 0 (headed code), none) (zeros_pad spare)

  written_right : Right (image_of code)
  unfolding image_of headed
  written_right =
      let count = blocks_are (block_count (length code)) (image_of code) whole some in
      record {
        size = rw count whole;
        some = rw count some;
        few = rw count (few_blocks (length code) short);
        checks = rw count (checks_blocks (block_count (length code)) (data_of code) size);
        first = written_byte 0 (omega arith);
        second = written_byte 1 (omega arith);
        long = rw written_length long;
        short = rw written_length short;
        count = rw written_length (sym count);
        zeros = written_zeros;
      }

  -- reading what `write` wrote finds the code
  pub read_written : read_image (image_of code) ≡ done code
  read_written = reads (image_of code) written_right ∙ ap done written_code

-- ---- writing what was read

module _ (image : List ℕ) (right : Right image) (byte : Bytes image) where
  read_size : length (code_in image) ≡ code_length image
  read_size =
      let end = (last_block (blocks_in image) (code_length image) right.count right.some).1 in
      code_size (blocks_in image) image right.size right.some end

  read_count : block_count (length (code_in image)) ≡ blocks_in image
  read_count = ap block_count read_size ∙ right.count

  -- the code, and the zeros behind it
  read_code : (j : ℕ) → get_or (code_in image) j 0 ≡ get_or (image_data image) (head_size + j) 0
  unfolding code_in
  read_code j = go (dec_lt j (code_length image))
    where
      go : Dec (j < code_length image) → get_or (code_in image) j 0 ≡ get_or (image_data image) (head_size + j) 0
      go (yes h) = rw (get_or-take (code_length image) (drop head_size (image_data image)) j 0 h)
          (get_or-drop head_size (image_data image) j 0)
      go (no h) =
          let past : length (code_in image) ≤ j = rw read_size (omega arith) in
          let k : ℕ = j - code_length image in
          let e : head_size + code_length image + k ≡ head_size + j = omega arith in
          let zero = zero_at (drop (head_size + code_length image) (image_data image)) k right.zeros in
          let there = sym (get_or-drop (head_size + code_length image) (image_data image) k 0) ∙ zero in
          get_or-eq_default (code_in image) 0 past ∙ sym (ap (λ (i : ℕ). get_or (image_data image) i 0) (sym e) ∙ there)

  -- the two bytes of the length are determined by it
  low : get_or (image_data image) 3 0 < 256
  low = rw (data_byte (blocks_in image) image right.size right.some 3 (omega arith)) (byte 3)

  read_byte : (j : ℕ) → get_or (headed (code_in image)) j 0 ≡ get_or (image_data image) j 0
  unfolding headed code_length
  read_byte zero = sym right.first
  read_byte (suc zero) = sym right.second
  read_byte (suc (suc zero)) = rw read_size (omega (arith, low))
  read_byte (suc (suc (suc zero))) = rw read_size (omega (arith, low))
  read_byte (suc (suc (suc (suc j)))) =
      let e : head_size + j ≡ suc (suc (suc (suc j))) = omega arith in
      read_code j ∙ ap (λ (i : ℕ). get_or (image_data image) i 0) e

  read_data : data_of (code_in image) ≡ image_data image
  read_data =
      let n : ℕ = data_size * block_count (length (code_in image)) in
      let size = length_pad n 0 (headed (code_in image)) in
      let same : n ≡ length (image_data image)
      = rw read_count (sym (data_size_lem (blocks_in image) image right.size right.some)) in
      ext_get_or 0 (data_of (code_in image)) (image_data image) (size ∙ same)
      (λ i h. get_d_pad n 0 (headed (code_in image)) i (rw size at h) ∙ read_byte i)

  read_again : image_of (code_in image) ≡ image
  unfolding image_of image_data
  read_again =
      ap (λ (bytes : List ℕ). blocks (block_count (length (code_in image))) bytes) read_data
      ∙ rw read_count (blocks_data (blocks_in image) image byte right.size right.checks)

-- writing the code of an image that reads gives the same blocks
pub written_read : (image code : List ℕ) → read_image image ≡ done code → Bytes image → image_of code ≡ image
written_read image code e byte =
    let r = right_of image code e in
    ap image_of (sym r.1) ∙ read_again image r.0 byte

-- ---- what this says of the code

-- a write that is done passed its rows
unrefused : {A : Type 0} (a b c : Bool) (x : A) → number_of (refuse_if a 26 (refuse_if b 26 (refuse_if c 27 (done x)))) ≡ 0
    → refuse_if a 26 (refuse_if b 26 (refuse_if c 27 (done x))) ≡ done x
unrefused false false false x e = refl
unrefused true b c x e = absurd (omega arith)
unrefused false true c x e = absurd (omega arith)
unrefused false false true x e = absurd (omega arith)

done_write : (code out : List ℕ) → (write code out).number ≡ 0 → write_answer code out ≡ done (written code out)
unfolding write write_answer write_causes unless
done_write code out e =
    unrefused (eqb (length code) 0) (ltb code_limit (length code)) (ltb (length out) (block_size * block_count (length code))) _ e

-- `write` done, then `read` of the blocks: it finds the code
pub read_after_write : (code out : List ℕ) → (write code out).number ≡ 0
    → read_image (take (block_size * block_count (length code)) (write code out).memory) ≡ done code
unfolding write write_answer write_causes written
read_after_write code out e =
    let answer = done_write code out e in
    let rows = (all_passed (write_causes code out) (done (written code out)) (written code out) answer).0 in
    let some = eqb-false (length code) 0 rows.0 in
    let long : 1 ≤ length code = omega arith in
    let short = ltb-false code_limit (length code) rows.1.0 in
    let n : ℕ = block_size * block_count (length code) in
    let front = take_at (image_of code) (drop n out) n (sym (whole code long short)) in
    rw (answer, front) (read_written code long short)

-- `read` finds a code, then `write` of it: the image again
pub write_after_read : (image code out : List ℕ) → read_image image ≡ done code → Bytes image → length image ≤ length out
    → write code out ≡ record { number = 0; memory = image ++ drop (length image) out }
unfolding write write_answer write_causes written unless
write_after_read image code out e byte h =
    let r = right_of image code e in
    let right = r.0 in
    let size : length code ≡ code_length image = ap length (sym r.1) ∙ read_size image right byte in
    let count : block_count (length code) ≡ blocks_in image = ap block_count size ∙ right.count in
    let all : block_size * block_count (length code) ≡ length image = rw count right.size in
    let long = right.long in
    let short = right.short in
    rw (
      ne_eqb (length code) 0 (λ z. omega arith),
      le-ltb code_limit (length code) (omega arith),
      le-ltb (length out) (block_size * block_count (length code)) (rw all h),
      written_read image code e byte,
      all,
    )
