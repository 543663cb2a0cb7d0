-- Laws of the writer: the data byte by byte, and the blocks one after the other. Assumes nothing.
use mathlib.Core.Path.{◌≡◌, refl, sym, ap, ◌∙◌}
use mathlib.Core.List.{List, [], ◌∷◌, ◌++◌, append_assoc, append-nil}
use Prim.Native.Nat.{ℕ, zero, suc, ◌+◌, ◌-◌, ◌*◌, ◌/◌, ◌%◌, ◌≤◌, ◌<◌}
use native.Mathlib.Numerals.{add-one}
use native.Mathlib.Omega.{arith}
use lib.ListN.{length, get_or, take, drop, length-append, length-drop}
use lib.Seq.{get_or-append-add, get_or-drop, length-take-le, take_at, drop_at, drop-drop}
use Rattle.words.specs.Parts.{put_at, high_bytes}
use Rattle.words.proofs.Parts.{put_skip, put_all}
use Rattle.words.proofs.Tables.{table_is}
use Rattle.words.proofs.Pads.{length_pad, get_d_pad, take_pad, drop_pad}
use Rattle.rules.specs.Bytes.{table, pad}
use Rattle.rules.specs.Limits.{code_limit}
use Rattle.rules.specs.Refusal.{refused, done, unless}
use Rattle.rules.specs.Calls.{write, write_answer}
use Rattle.rules.specs.Numbers.{reply_to}
use Rattle.rules.specs.Image.{block_size, data_size, head_size, block_limit, check_of, headed, block}
use Rattle.rules.specs.Image.{blocks, block_count, image_of, write_causes, written}
use Rattle.rules.proofs.Rows.{Passed}

-- ---- the data

-- the code stands behind the head
pub behind_head : (code : List ℕ) (i : ℕ) → get_or (headed code) (head_size + i) 0 ≡ get_or code i 0
unfolding headed
behind_head code i = get_or-append-add (1 ∷ 0 ∷ length code / 256 ∷ length code % 256 ∷ []) code i 0

-- n bytes from `from` on
pub data_from : (n from : ℕ) (xs : List ℕ) → table n (λ (j : ℕ). get_or xs (from + j) 0) ≡ pad n 0 (drop from xs)
data_from n from xs =
    table_is 0 n (λ (j : ℕ). get_or xs (from + j) 0) (pad n 0 (drop from xs)) (length_pad n 0 (drop from xs))
    (λ i h. sym (get_d_pad n 0 (drop from xs) i h ∙ get_or-drop from xs i 0))

-- ---- one block: its data is filled in, then the check of it is written behind

module _ (out xs : List ℕ) (size : length out ≡ block_size) {filled : List ℕ} (e : filled ≡ pad (length (take data_size out)) 0 xs) where
  filled_is : filled ≡ pad data_size 0 xs
  filled_is = e ∙ ap (λ (n : ℕ). pad n 0 xs) (length-take-le data_size out (omega arith))

  pub filled_front : take data_size (filled ++ drop data_size out) ≡ pad data_size 0 xs
  filled_front =
      rw filled_is (take_at (pad data_size 0 xs) (drop data_size out) data_size (length_pad data_size 0 xs))

  pub filled_size : length (take data_size (filled ++ drop data_size out)) ≡ data_size
  filled_size = rw filled_front (length_pad data_size 0 xs)

  pub block_is : {check : ℕ} {m : List ℕ} → check ≡ check_of (take data_size (filled ++ drop data_size out))
      → m ≡ put_at (filled ++ drop data_size out) data_size (high_bytes check) → m ≡ block (pad data_size 0 xs)
  unfolding block
  block_is {check} {m} p q =
      let bytes : List ℕ = pad data_size 0 xs in
      let c : check ≡ check_of bytes = p ∙ ap check_of filled_front in
      let at : data_size ≡ length bytes + 0 = rw (length_pad data_size 0 xs) (omega arith) in
      let two : 2 ≡ length (drop data_size out) = rw length-drop (omega arith) in
      q
      ∙ rw (filled_is, c)
      (ap (λ (k : ℕ). put_at (bytes ++ drop data_size out) k (high_bytes (check_of bytes))) at
      ∙ put_skip bytes (drop data_size out) 0 (high_bytes (check_of bytes))
      ∙ ap (λ (r : List ℕ). bytes ++ r) (put_all (drop data_size out) (high_bytes (check_of bytes)) two))

-- ---- the blocks

-- a list is zeros behind its own part in block i
pub block_data : (count i : ℕ) (xs : List ℕ) → i < count
    → take data_size (drop (data_size * i) (pad (data_size * count) 0 xs)) ≡ pad data_size 0 (drop (data_size * i) xs)
block_data count i xs h =
    let rest : ℕ = data_size * (count - (i + 1)) in
    let e : data_size * count ≡ data_size * i + (data_size + rest) = omega arith in
    rw (e, drop_pad (data_size * i) (data_size + rest) 0 xs) (take_pad data_size rest 0 (drop (data_size * i) xs))

-- the next block stands behind those before
pub blocks_next : (i : ℕ) (bytes : List ℕ) → blocks (i + 1) bytes ≡ blocks i bytes ++ block (take data_size (drop (data_size * i) bytes))
unfolding blocks
blocks_next i bytes = rw add-one (go i bytes)
  where
    go : (i : ℕ) (bytes : List ℕ) → blocks (suc i) bytes ≡ blocks i bytes ++ block (take data_size (drop (data_size * i) bytes))
    go zero bytes = append-nil (block (take data_size bytes))
    go (suc i) bytes =
        let e : data_size + data_size * i ≡ data_size * suc i = omega arith in
        ap (λ (r : List ℕ). block (take data_size bytes) ++ r) (go i (drop data_size bytes)
        ∙ rw (drop-drop (data_size * i) data_size bytes, e))
        ∙ sym (append_assoc (block (take data_size bytes)) _ _)

pub length_block : (bytes : List ℕ) → length bytes ≡ data_size → length (block bytes) ≡ block_size
unfolding block
length_block bytes e = rw length-append (omega arith)

pub length_blocks : (i : ℕ) (bytes : List ℕ) → data_size * i ≤ length bytes → length (blocks i bytes) ≡ block_size * i
unfolding blocks
length_blocks zero bytes h = refl
length_blocks (suc i) bytes h =
    let one : length (block (take data_size bytes)) ≡ block_size
    = length_block (take data_size bytes) (length-take-le data_size bytes (omega arith)) in
    let more : data_size * i ≤ length (drop data_size bytes) = rw length-drop (omega arith) in
    rw (length-append, one, length_blocks i (drop data_size bytes) more) (omega arith)

-- a turn of the loop: block i takes the place of the bytes that stood there
module _ (count i : ℕ) (xs out : List ℕ) (h : i < count) (l : block_size * count ≤ length out) where
  pub blocks_more : {m b : List ℕ} {w : ℕ} → m ≡ blocks i (pad (data_size * count) 0 xs) ++ drop (block_size * i) out → w ≡ block_size
      → b ≡ block (pad data_size 0 (drop (data_size * i) xs))
      → take (block_size * i) m ++ (b ++ drop w (drop (block_size * i) m))
      ≡ blocks (i + 1) (pad (data_size * count) 0 xs) ++ drop (block_size * (i + 1)) out
  blocks_more p v q =
      let bytes : List ℕ = pad (data_size * count) 0 xs in
      let room : data_size * i ≤ length bytes = rw (length_pad (data_size * count) 0 xs) (omega arith) in
      let size : length (blocks i bytes) ≡ block_size * i = length_blocks i bytes room in
      let front = take_at (blocks i bytes) (drop (block_size * i) out) (block_size * i) size in
      let back = drop_at (blocks i bytes) (drop (block_size * i) out) (block_size * i) size in
      let e : block_size * i + block_size ≡ block_size * (i + 1) = omega arith in
      rw (p, front, back, v, q, drop-drop block_size (block_size * i) out, e, blocks_next i bytes, block_data count i xs h, append_assoc)

  pub blocks_size : length (blocks (i + 1) (pad (data_size * count) 0 xs) ++ drop (block_size * (i + 1)) out) ≡ length out
  blocks_size =
      let bytes : List ℕ = pad (data_size * count) 0 xs in
      let room : data_size * (i + 1) ≤ length bytes = rw (length_pad (data_size * count) 0 xs) (omega arith) in
      rw (length-append, length_blocks (i + 1) bytes room, length-drop) (omega arith)

-- ---- the answer

-- the blocks of any slice can be counted in bytes
pub counted : (L : ℕ) → L < 9223372036854775808 → block_size * block_count L < 18446744073709551616
unfolding block_count
counted L h = omega arith

pub few_blocks : (L : ℕ) → L ≤ code_limit → block_count L ≤ block_limit
unfolding block_count
few_blocks L h = omega arith

module _ (code out : List ℕ) where
  pub write_refused : {n : ℕ} → write_answer code out ≡ refused n
      → (n ≡ (write code out).number) × ((out ≡ (write code out).memory) × (refused n ≡ reply_to (write_answer code out)))
  unfolding write
  write_refused e = (rw e, (rw e, rw e))

  -- with the blocks as the code counts and writes them
  pub write_done : {n : ℕ} {m : List ℕ} → Passed (write_causes code out) (done (written code out)) 3 → n ≡ block_count (length code)
      → m ≡ blocks n (pad (data_size * n) 0 (headed code)) ++ drop (block_size * n) out
      → (0 ≡ (write code out).number) × ((m ≡ (write code out).memory) × (done tt ≡ reply_to (write_answer code out)))
  unfolding write write_answer write_causes written image_of unless
  write_done p c e = (rw p.left, (rw p.left (e ∙ rw c), rw p.left))
