-- An image that reads is right in every row, and one that is right in every row reads. Assumes nothing.
use mathlib.Core.Path.{◌≡◌}
use mathlib.Core.Bool.{false, not}
use mathlib.Core.List.{List}
use Prim.Native.Nat.{ℕ, ◌+◌, ◌*◌, ◌≤◌, ◌<◌}
use native.Mathlib.Omega.{arith}
use borrow.Author.Tests.{eqb-true, eqb-false, ltb-false, not-false, eq-eqb, ne_eqb, le-ltb}
use lib.ListN.{length, get_or, drop}
use lib.Dec.{eqb}
use Rattle.rules.specs.Limits.{code_limit}
use Rattle.rules.specs.Refusal.{done, unless}
use Rattle.rules.specs.Image.{block_size, head_size, block_limit, blocks_in, block_count, image_data, code_length}
use Rattle.rules.specs.Image.{code_in, any_check_wrong, any_nonzero, read_causes, read_image}
use Rattle.rules.proofs.Rows.{all_passed}

pub record Right (image : List ℕ) : Type 0 where
  pub size : block_size * blocks_in image ≡ length image
  pub some : 0 < blocks_in image
  pub few : blocks_in image ≤ block_limit
  pub checks : any_check_wrong (blocks_in image) image ≡ false
  pub first : get_or (image_data image) 0 0 ≡ 1
  pub second : get_or (image_data image) 1 0 ≡ 0
  pub long : 0 < code_length image
  pub short : code_length image ≤ code_limit
  pub count : block_count (code_length image) ≡ blocks_in image
  pub zeros : any_nonzero (drop (head_size + code_length image) (image_data image)) ≡ false

-- a number that is not zero
some_of : (n : ℕ) → eqb n 0 ≡ false → 0 < n
some_of n e = let h = eqb-false n 0 e in omega arith

same_of : (a b : ℕ) → not (eqb a b) ≡ false → a ≡ b
same_of a b e = eqb-true a b (not-false (eqb a b) e)

pub right_of : (image code : List ℕ) → read_image image ≡ done code → Right image × (code_in image ≡ code)
unfolding read_image read_causes
right_of image code e =
    let a = all_passed (read_causes image) (done (code_in image)) code e in
    let from21 = a.0.1.1.1 in
    let from22 = from21.1 in (
      record {
        size = same_of (block_size * blocks_in image) (length image) a.0.0;
        some = some_of (blocks_in image) a.0.1.0;
        few = ltb-false block_limit (blocks_in image) a.0.1.1.0;
        checks = from21.0;
        first = same_of (get_or (image_data image) 0 0) 1 from22.0;
        second = same_of (get_or (image_data image) 1 0) 0 from22.1.0;
        long = some_of (code_length image) from22.1.1.0;
        short = ltb-false code_limit (code_length image) from22.1.1.1.0;
        count = same_of (block_count (code_length image)) (blocks_in image) from22.1.1.1.1.0;
        zeros = from22.1.1.1.1.1.0;
      },
      cc,
    )

pub reads : (image : List ℕ) → Right image → read_image image ≡ done (code_in image)
unfolding read_image read_causes unless
reads image r =
    let some = r.some in
    let long = r.long in
    rw (
      eq-eqb (block_size * blocks_in image) (length image) r.size,
      ne_eqb (blocks_in image) 0 (λ e. omega arith),
      le-ltb block_limit (blocks_in image) r.few,
      r.checks,
      eq-eqb (get_or (image_data image) 0 0) 1 r.first,
      eq-eqb (get_or (image_data image) 1 0) 0 r.second,
      ne_eqb (code_length image) 0 (λ e. omega arith),
      le-ltb code_limit (code_length image) r.short,
      eq-eqb (block_count (code_length image)) (blocks_in image) r.count,
      r.zeros,
    )
