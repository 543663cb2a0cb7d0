-- Where the data of an image stands: in a block byte by byte, two bytes further behind for each block before. So the head, the code and the
-- padding are parts of the image. Assumes nothing.
use mathlib.Core.Path.{◌≡◌, refl, sym, ap, ◌∙◌}
use mathlib.Core.List.{List, ◌++◌}
use Prim.Native.Nat.{ℕ, zero, suc, ◌+◌, ◌-◌, ◌*◌, ◌≤◌, ◌<◌}
use native.Mathlib.Nat.{add-zero}
use native.Mathlib.Omega.{arith}
use lib.ListN.{length, get_or, take, drop, length-append, length-drop}
use lib.Seq.{length-take-le, take-take, take-add, take-append-le, drop-append-le, drop-append-add}
use lib.Seq.{drop-drop, drop_at, get_or-take, get_or-drop, take_all}
use Rattle.words.specs.Parts.{high_at}
use Rattle.rules.specs.Image.{block_size, data_size, head_size, blocks_in, data_in, image_data, code_length, code_in}

-- a part of the front
drop_take : (n k : ℕ) (m : List ℕ) → k ≤ n → n ≤ length m → drop k (take n m) ≡ take (n - k) (drop k m)
drop_take n k m h l =
    let e : k + (n - k) ≡ n = omega arith in
    ap (λ (j : ℕ). drop k (take j m)) (sym e)
    ∙ rw (take-add k (n - k) m) (drop_at (take k m) (take (n - k) (drop k m)) k (length-take-le k m (omega arith)))

pub length_data : (n : ℕ) (image : List ℕ) → block_size * n ≤ length image → length (data_in n image) ≡ data_size * n
unfolding data_in
length_data zero image h = refl
length_data (suc n) image h =
    let l : block_size * n ≤ length (drop block_size image) = rw length-drop (omega arith) in
    rw (length-append, length-take-le data_size image (omega arith), length_data n (drop block_size image) l) (omega arith)

-- w bytes of data from p on, all of them in block k
pub data_part : (n k p w : ℕ) (image : List ℕ) → k < n → block_size * n ≤ length image → data_size * k ≤ p → p + w ≤ data_size * (k + 1)
    → take w (drop p (data_in n image)) ≡ take w (drop (p + 2 * k) image)
unfolding data_in
data_part zero k p w image i h l u = absurd (omega arith)
data_part (suc n) zero p w image i h l u =
    let front : length (take data_size image) ≡ data_size = length-take-le data_size image (omega arith) in
    let t : drop p (take data_size image) ≡ take (data_size - p) (drop p image) = drop_take data_size p image (omega arith) (omega arith) in
    let s : w ≤ length (drop p (take data_size image)) = rw (length-drop, front) (omega arith) in
    rw (
      drop-append-le p (take data_size image) (data_in n (drop block_size image)) (rw front (omega arith)),
      take-append-le w (drop p (take data_size image)) (data_in n (drop block_size image)) s,
      t,
      take-take w (data_size - p) (drop p image) (omega arith),
      add-zero,
    )
data_part (suc n) (suc k) p w image i h l u =
    let front : length (take data_size image) ≡ data_size = length-take-le data_size image (omega arith) in
    let q : ℕ = p - data_size in
    let e : p ≡ length (take data_size image) + q = rw front (omega arith) in
    let r : block_size + (q + 2 * k) ≡ p + 2 * suc k = omega arith in
    let lower = data_part n k q w (drop block_size image) (omega arith) (rw length-drop (omega arith)) (omega arith) (omega arith) in
    ap (λ (j : ℕ). take w (drop j (take data_size image ++ data_in n (drop block_size image)))) e
    ∙ rw (drop-append-add (take data_size image) (data_in n (drop block_size image)) q)
    (lower ∙ rw (drop-drop (q + 2 * k) block_size image, r))

-- ---- an image of n whole blocks

module _ (n : ℕ) (image : List ℕ) (size : block_size * n ≡ length image) (some : 0 < n) where
  pub blocks_are : blocks_in image ≡ n
  blocks_are = omega arith

  pub data_is : image_data image ≡ data_in n image
  unfolding image_data
  data_is = ap (λ (k : ℕ). data_in k image) blocks_are

  -- the first block's data
  pub data_byte : (j : ℕ) → j < data_size → get_or (image_data image) j 0 ≡ get_or image j 0
  data_byte j h =
      let e = data_part n 0 j 1 image some (omega arith) (omega arith) (omega arith) in
      let first : (m : List ℕ) (i : ℕ) → get_or (take 1 (drop i m)) 0 0 ≡ get_or m i 0
      = λ m i. rw (get_or-take 1 (drop i m) 0 0 (omega arith), get_or-drop i m 0 0, add-zero) in
      rw data_is (sym (first (data_in n image) j) ∙ ap (λ (m : List ℕ). get_or m 0 0) e ∙ rw add-zero (first image j))

  pub length_is : code_length image ≡ high_at image 2
  unfolding code_length
  length_is = rw (data_byte 2 (omega arith), data_byte 3 (omega arith))

  pub data_size_lem : length (image_data image) ≡ data_size * n
  data_size_lem = rw data_is (length_data n image (omega arith))

  -- what stands behind the code, where the code ends in the last block
  pub padding_is : (p : ℕ) → data_size * (n - 1) ≤ p → p ≤ data_size * n
      → drop p (image_data image) ≡ take (data_size * n - p) (drop (p + 2 * (n - 1)) image)
  padding_is p l u =
      let w : ℕ = data_size * n - p in
      let all : length (drop p (image_data image)) ≤ w = rw (length-drop, data_size_lem) (omega arith) in
      let e = data_part n (n - 1) p w image (omega arith) (omega arith) l (omega arith) in
      sym (take_all w (drop p (image_data image)) all) ∙ rw data_is e

  -- the code, and w bytes of it from j on, all of them in block k
  module _ (fits : head_size + code_length image ≤ data_size * n) where
    pub code_size : length (code_in image) ≡ code_length image
    unfolding code_in
    code_size = length-take-le (code_length image) (drop head_size (image_data image)) (rw (length-drop, data_size_lem) (omega arith))

    pub code_part : (k j w : ℕ) → k < n → j + w ≤ code_length image → data_size * k ≤ head_size + j
        → head_size + j + w ≤ data_size * (k + 1)
        → take w (drop j (code_in image)) ≡ take w (drop (head_size + j + 2 * k) image)
    unfolding code_in
    code_part k j w i h l u =
        let L : ℕ = code_length image in
        let long : L ≤ length (drop head_size (image_data image)) = rw (length-drop, data_size_lem) (omega arith) in
        rw (
          drop_take L j (drop head_size (image_data image)) (omega arith) long,
          take-take w (L - j) (drop j (drop head_size (image_data image))) (omega arith),
          drop-drop j head_size (image_data image),
          data_is,
        )
        (data_part n k (head_size + j) w image i (omega arith) l u)
