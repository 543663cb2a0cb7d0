-- Document 01, "Method image": blocks of 512 bytes, 510 of data and their RFC 1071 checksum; the writer, and the reader with 20 to 23.
-- Assumes nothing.
use Rattle.std.specs.Prelude.{ℕ, zero, suc, ◌+◌, ◌-◌, ◌*◌, ◌/◌, ◌%◌, Bool, true, false, not, List, [], ◌∷◌, ◌++◌, length, get_or, take}
use Rattle.std.specs.Prelude.{drop, ltb, eqb}
use Rattle.rules.specs.Limits.{code_limit}
use Rattle.rules.specs.Bytes.{pad}
use Rattle.rules.specs.Refusal.{Row, Answer, done, unless}

-- bytes of a block, of its data, and of what stands before the code
abbrev pub block_size : ℕ
block_size = 512

abbrev pub data_size : ℕ
data_size = 510

abbrev pub head_size : ℕ
head_size = 4

-- blocks of an image, at most
abbrev pub block_limit : ℕ
block_limit = 16

-- ---- the check

-- the sum of the 16-bit words, high byte first
unfoldable pub word_sum : List ℕ → ℕ
word_sum [] = 0
word_sum (high ∷ []) = 256 * high
word_sum (high ∷ low ∷ rest) = 256 * high + low + word_sum rest

-- the carries above 16 bits are added in below
unfoldable pub folded : ℕ → ℕ
folded n = n % 65536 + n / 65536

-- RFC 1071: the complement of the sum in 16 bits. Two foldings leave no carry for the data of a block
unfoldable pub check_of : List ℕ → ℕ
check_of bytes = 65535 - folded (folded (word_sum bytes))

-- ---- the writer

-- data with its check behind it, high byte first
unfoldable pub block : List ℕ → List ℕ
block bytes = bytes ++ check_of bytes / 256 ∷ check_of bytes % 256 ∷ []

-- data cut into n blocks
unfoldable pub blocks : (n : ℕ) → List ℕ → List ℕ
blocks zero bytes = []
blocks (suc n) bytes = block (take data_size bytes) ++ blocks n (drop data_size bytes)

-- the fewest blocks that hold the code and what stands before it
unfoldable pub block_count : (L : ℕ) → ℕ
block_count L = (head_size + L + (data_size - 1)) / data_size

-- 1, 0, the code length in two bytes, high first, the code
unfoldable pub headed : List ℕ → List ℕ
headed code = 1 ∷ 0 ∷ length code / 256 ∷ length code % 256 ∷ code

-- the image of a code
unfoldable pub image_of : List ℕ → List ℕ
image_of code = blocks (block_count (length code)) (pad (data_size * block_count (length code)) 0 (headed code))

-- 26: code length not 1 to 8,156; 27: output shorter than the blocks
unfoldable pub write_causes : (code out : List ℕ) → List Row
write_causes code out =
    (26, eqb (length code) 0)
    ∷ (26, ltb code_limit (length code))
    ∷ (27, ltb (length out) (block_size * block_count (length code)))
    ∷ []

-- the output with the image in front; what stands past the blocks is kept
unfoldable pub written : (code out : List ℕ) → List ℕ
written code out = image_of code ++ drop (block_size * block_count (length code)) out

-- ---- the reader

-- the blocks of an image: its length in whole blocks
abbrev pub blocks_in : List ℕ → ℕ
blocks_in image = length image / block_size

-- some of n blocks has another check than its data's, compared exactly
unfoldable pub any_check_wrong : (n : ℕ) → List ℕ → Bool
any_check_wrong zero image = false
any_check_wrong (suc n) image =
    elim (eqb (check_of (take data_size image)) (256 * get_or image data_size 0 + get_or image (suc data_size) 0)) [
      | true ↦ any_check_wrong n (drop block_size image)
      | false ↦ true
    ]

-- the data of n blocks, joined
unfoldable pub data_in : (n : ℕ) → List ℕ → List ℕ
data_in zero image = []
data_in (suc n) image = take data_size image ++ data_in n (drop block_size image)

-- the data of an image
unfoldable pub image_data : List ℕ → List ℕ
image_data image = data_in (blocks_in image) image

-- the code length that an image states
unfoldable pub code_length : List ℕ → ℕ
code_length image = 256 * get_or (image_data image) 2 0 + get_or (image_data image) 3 0

-- the code in an image
unfoldable pub code_in : List ℕ → List ℕ
code_in image = take (code_length image) (drop head_size (image_data image))

-- some byte is not zero
unfoldable pub any_nonzero : List ℕ → Bool
any_nonzero [] = false
any_nonzero (b ∷ bs) = elim (eqb b 0) [ true ↦ any_nonzero bs | false ↦ true ]

-- 20: length not 512 times 1 to 16; 21: some block's check wrong; 22: first two bytes, L or block count wrong;
-- 23: a nonzero byte after the code
unfoldable pub read_causes : List ℕ → List Row
read_causes image =
    (20, not (eqb (block_size * blocks_in image) (length image)))
    ∷ (20, eqb (blocks_in image) 0)
    ∷ (20, ltb block_limit (blocks_in image))
    ∷ (21, any_check_wrong (blocks_in image) image)
    ∷ (22, not (eqb (get_or (image_data image) 0 0) 1))
    ∷ (22, not (eqb (get_or (image_data image) 1 0) 0))
    ∷ (22, eqb (code_length image) 0)
    ∷ (22, ltb code_limit (code_length image))
    ∷ (22, not (eqb (block_count (code_length image)) (blocks_in image)))
    ∷ (23, any_nonzero (drop (head_size + code_length image) (image_data image)))
    ∷ []

-- the code of an image, or why it is refused
unfoldable pub read_image : List ℕ → Answer (List ℕ)
read_image image = unless (read_causes image) (done (code_in image))
