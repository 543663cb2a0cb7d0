-- The start state, then the code, then its length. Assumes nothing.
use Rattle.std.proofs.Common.{ap, ◌∙◌, List, ℕ}
use Rattle.rules.specs.Bytes.{bytes_of}
use Rattle.rules.specs.Image.{code_in}
use Rattle.words.specs.Parts.{put_at}
use Rattle.loading.proofs.Loads.{installed}
use Rattle.loading.proofs.install.Goals as goal

pub returns : goal.returns
returns c =
    let a = c.args in
    c.put_code_length.ensures
    ∙ ap (λ (m : List ℕ). put_at m 0 (bytes_of 2 a.length))
    (c.copy_code.ensures ∙ ap (λ (m : List ℕ). put_at m 2 (code_in a.image.now)) c.start.ensures)
    ∙ installed a.image.now a.length c.requires.image_reads.1 c.requires.length_right.0
