-- A turn of the loop that copies the code of an image: the run of the next block. Assumes nothing.
use mathlib.Core.Path.{◌≡◌, sym, ap, ◌∙◌}
use mathlib.Core.List.{List}
use Prim.Native.Nat.{ℕ, ◌+◌, ◌-◌, ◌*◌, ◌≤◌, ◌<◌, min, max}
use native.Mathlib.Omega.{arith}
use lib.ListN.{length, take, drop}
use lib.Seq.{take-add, length-take-le}
use Rattle.words.specs.Parts.{put_at}
use Rattle.words.proofs.Parts.{put_append}
use Rattle.rules.specs.Image.{data_size, head_size, blocks_in, code_length, code_in}
use Rattle.image.proofs.Data.{code_size, code_part}
use Rattle.image.proofs.Causes.{last_block}
use Rattle.image.proofs.Right.{Right}

-- the code ends in the last block
pub ends : (image : List ℕ) → Right image
    → (data_size * (blocks_in image - 1) ≤ head_size + code_length image) × (head_size + code_length image ≤ data_size * blocks_in image)
ends image r = last_block (blocks_in image) (code_length image) r.count r.some

-- what is known of the run of block i, which goes from p to q
pub record Run (L i p q : ℕ) : Type 0 where
  pub head : head_size ≤ p
  pub from : data_size * i ≤ p
  pub order : p ≤ q
  pub block : q ≤ data_size * (i + 1)
  pub code : q ≤ head_size + L

pub run_is : (n L i p q : ℕ) → i < n → data_size * (n - 1) ≤ head_size + L → p ≡ max head_size (min (data_size * i) (head_size + L))
    → q ≡ min (data_size * (i + 1)) (head_size + L) → Run L i p q
run_is n L i p q a b c d =
    record { head = omega arith; from = omega arith; order = omega arith; block = omega arith; code = omega arith }

-- data up to p is copied; its bytes up to q, all of them in block i, are next
pub next_run : (image : List ℕ) → Right image → (out : List ℕ) (at i p q : ℕ) {m m' : List ℕ} → i < blocks_in image
    → Run (code_length image) i p q
    → m ≡ put_at out at (take (p - head_size) (code_in image))
    → m' ≡ put_at m (at + (p - head_size)) (take (q + 2 * i - (p + 2 * i)) (drop (p + 2 * i) image))
    → m' ≡ put_at out at (take (q - head_size) (code_in image))
next_run image r out at i p q a k g h =
    let code : List ℕ = code_in image in
    let j : ℕ = p - head_size in
    let w : ℕ = q - p in
    let fits = (ends image r).1 in
    let long : j ≤ length code = rw (code_size (blocks_in image) image r.size r.some fits) (omega arith) in
    let part = code_part (blocks_in image) image r.size r.some fits i j w a (omega arith) (omega arith) (omega arith) in
    let from : head_size + j + 2 * i ≡ p + 2 * i = omega arith in
    let width : q + 2 * i - (p + 2 * i) ≡ w = omega arith in
    let all : q - head_size ≡ j + w = omega arith in
    let run : take w (drop (p + 2 * i) image) ≡ take w (drop j code) = ap (λ (k : ℕ). take w (drop k image)) (sym from) ∙ sym part in
    h ∙ rw (g, width, run, all, take-add j w code, put_append out at (take j code) (take w (drop j code)), length-take-le j code long)
