-- What a caller of `read` learns, and that its contract allows one answer. Assumes nothing.
use mathlib.Core.Path.{◌≡◌, refl, sym, ap, ◌∙◌}
use mathlib.Core.List.{List}
use Prim.Native.Nat.{ℕ}
use native.Mathlib.Omega.{arith}
use lib.ListN.{length}
use Rattle.rules.specs.Refusal.{Answer, refused, done}
use Rattle.rules.specs.Image.{blocks_in, code_length, code_in, read_image}
use Rattle.std.specs.Prelude.{Result}
use Rattle.rules.specs.declared.Refusal.{Refusal}
use Rattle.rules.specs.Numbers.{answer_of}
use Rattle.rules.proofs.Promises.{same_answer}
use Rattle.image.specs.Answers.{length_read}
use Rattle.image.proofs.Data.{code_size}
use Rattle.image.proofs.Right.{right_of, reads}
use Rattle.image.proofs.Copies.{ends}

-- a code of length n is found: the image reads, as `copy_code` asks, and the code has the length that the image states
pub found_code : (image : List ℕ) (n : ℕ) → done n ≡ length_read (read_image image)
    → (read_image image ≡ done (code_in image)) × (n ≡ code_length image)
found_code image n e = go (read_image image) refl e
  where
    go : (a : Answer (List ℕ)) → read_image image ≡ a → done n ≡ length_read a
        → (read_image image ≡ done (code_in image)) × (n ≡ code_length image)
    go (refused k) q z = absurd (let i : ◌≡◌ {A = ℕ} 0 1 = cc in omega arith)
    go (done code) q z =
        let r = right_of image code q in
        let right = r.0 in
        let long : n ≡ length code = cc in
        let size = code_size (blocks_in image) image right.size right.some (ends image right).1 in
        (reads image right, long ∙ ap length (sym r.1) ∙ size)

-- the image is refused with that number
pub found_refused : (image : List ℕ) (n : ℕ) → refused n ≡ length_read (read_image image) → read_image image ≡ refused n
found_refused image n e = go (read_image image) e
  where
    go : (a : Answer (List ℕ)) → refused n ≡ length_read a → a ≡ refused n
    go (refused k) z = cc
    go (done code) z = absurd (let i : ◌≡◌ {A = ℕ} 0 1 = cc in omega arith)

-- two answers of `read` that say the same are equal
pub found_once : (a b : Result ℕ Refusal) → answer_of a ≡ answer_of b → a ≡ b
found_once a b e = same_answer a b e
