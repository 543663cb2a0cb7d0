-- The rows of the reader in the terms of the code: 22 and 23 by the bytes of an image of n whole blocks. Assumes nothing.
use mathlib.Core.Path.{◌≡◌, sym, ap, ◌∙◌}
use mathlib.Core.Bool.{not}
use mathlib.Core.List.{List}
use Prim.Native.Nat.{ℕ, ◌+◌, ◌-◌, ◌*◌, ◌≤◌, ◌<◌}
use native.Mathlib.Omega.{arith}
use lib.ListN.{length, get_or, take, drop}
use lib.Dec.{eqb, ltb}
use Rattle.words.specs.Parts.{high_at}
use Rattle.rules.specs.Limits.{code_limit}
use Rattle.rules.specs.Refusal.{Row, Answer, unless}
use Rattle.rules.specs.Image.{block_size, data_size, head_size, block_count, code_length, code_in, any_nonzero, read_causes}
use Rattle.rules.proofs.Rows.{row_at, Passed}
use Rattle.image.proofs.Data.{blocks_are, data_byte, length_is, padding_is, code_size}

-- the rows from 22 on
abbrev pub data_rows : List ℕ → List Row
data_rows image = drop 4 (read_causes image)

-- the last block is the one in which the code ends
pub last_block : (n L : ℕ) → block_count L ≡ n → 0 < n → (data_size * (n - 1) ≤ head_size + L) × (head_size + L ≤ data_size * n)
unfolding block_count
last_block n L e h = (omega arith, omega arith)

module _ (n : ℕ) (image : List ℕ) (size : block_size * n ≡ length image) (some : 0 < n) where
  pub first_row : (row_at (data_rows image) 0).1 ≡ not (eqb (get_or image 0 0) 1)
  unfolding read_causes
  first_row = rw (data_byte n image size some 0 (omega arith))

  pub second_row : (row_at (data_rows image) 1).1 ≡ not (eqb (get_or image 1 0) 0)
  unfolding read_causes
  second_row = rw (data_byte n image size some 1 (omega arith))

  -- for the code length L that the image states
  module _ {L : ℕ} (stated : L ≡ high_at image 2) where
    is_length : code_length image ≡ L
    is_length = length_is n image size some ∙ sym stated

    pub none_row : (row_at (data_rows image) 2).1 ≡ eqb L 0
    unfolding read_causes
    none_row = ap (λ (k : ℕ). eqb k 0) is_length

    pub many_row : (row_at (data_rows image) 3).1 ≡ ltb code_limit L
    unfolding read_causes
    many_row = ap (λ (k : ℕ). ltb code_limit k) is_length

    pub count_row : (row_at (data_rows image) 4).1 ≡ not (eqb (block_count L) n)
    unfolding read_causes
    count_row = rw (is_length, blocks_are n image size some)

    -- the code ends in the last block
    module _ (counted : block_count L ≡ n) where
      pub zeros_row : {w : ℕ} → w ≡ data_size * n - (head_size + L)
          → (row_at (data_rows image) 5).1 ≡ any_nonzero (take w (drop (head_size + L + 2 * (n - 1)) image))
      unfolding read_causes
      zeros_row e =
          let b = last_block n L counted some in
          rw (is_length, e, padding_is n image size some (head_size + L) b.0 b.1)

      pub found_size : length (code_in image) ≡ L
      found_size =
          let b = last_block n L counted some in
          let fits : head_size + code_length image ≤ data_size * n = rw is_length b.1 in
          code_size n image size some fits ∙ is_length

-- no row is left
pub rows_end : (image : List ℕ) (a : Answer (List ℕ)) → Passed (data_rows image) a 6 → unless (data_rows image) a ≡ a
unfolding read_causes unless
rows_end image a p = p.left
