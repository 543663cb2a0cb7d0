-- The cases of a load over plain variables: which test leads to which answer, and the code that an image has. Assumes nothing.
use mathlib.Core.Path.{◌≡◌, refl, sym, ap, ◌∙◌}
use mathlib.Core.Logic.{◌≢◌}
use mathlib.Core.List.{List, []}
use Prim.Native.Nat.{ℕ, ◌≤◌}
use lib.ListN.{length}
use borrow.Author.Tests.{eq-eqb, ne_eqb}
use Rattle.rules.specs.Limits.{code_limit}
use Rattle.rules.specs.Bytes.{bytes_of}
use Rattle.rules.specs.State.{start}
use Rattle.rules.specs.Refusal.{refused, done, unless}
use Rattle.rules.specs.Image.{blocks_in, read_image, code_length, code_in}
use Rattle.rules.specs.Layout.{state_size, layout}
use Rattle.rules.specs.Calls.{load_answer, load}
use Rattle.rules.specs.Numbers.{reply_to}
use Rattle.rules.specs.Promise.{Promise}
use Rattle.words.specs.Parts.{put_at}
use Rattle.image.proofs.Data.{code_size}
use Rattle.image.proofs.Right.{right_of}
use Rattle.image.proofs.Copies.{ends}
use Rattle.memory.proofs.CodeLaws.{code_written}

-- the code of an image that reads has the length that the image states, and that is within the limit
pub code_long : (image : List ℕ) → read_image image ≡ done (code_in image)
    → (length (code_in image) ≡ code_length image) × (code_length image ≤ code_limit)
code_long image e =
    let right = (right_of image (code_in image) e).0 in
    (code_size (blocks_in image) image right.size right.some (ends image right).1, right.short)

-- the start state, the code behind its length, and the length
pub installed : (image : List ℕ) (n : ℕ) → read_image image ≡ done (code_in image) → n ≡ code_length image
    → put_at (put_at (layout (start [])) 2 (code_in image)) 0 (bytes_of 2 n) ≡ layout (start (code_in image))
installed image n e long =
    let l = code_long image e in
    ap (λ (k : ℕ). put_at (put_at (layout (start [])) 2 (code_in image)) 0 (bytes_of 2 k)) (long ∙ sym l.0)
    ∙ code_written (code_in image) (rw l.0 l.1)

module _ (m image : List ℕ) where
  pub length_wrong : length m ≢ state_size → Promise (reply_to (load_answer m image)) (load m image).memory (refused 24) m
  unfolding load_answer load unless
  length_wrong h = rw (ne_eqb (length m) state_size h) (record { answer_is = refl; memory_is = refl })

  pub image_refused : (n : ℕ) → length m ≡ state_size → read_image image ≡ refused n
      → Promise (reply_to (load_answer m image)) (load m image).memory (refused n) m
  unfolding load_answer load unless
  image_refused n h e = rw (eq-eqb (length m) state_size h, e) (record { answer_is = refl; memory_is = refl })

  pub image_loaded : (left : List ℕ) → length m ≡ state_size → read_image image ≡ done (code_in image)
      → left ≡ layout (start (code_in image))
      → Promise (reply_to (load_answer m image)) (load m image).memory (done tt) left
  unfolding load_answer load unless
  image_loaded left h e q = rw (eq-eqb (length m) state_size h, e) (record { answer_is = refl; memory_is = q })
