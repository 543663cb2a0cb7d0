-- `code::decode` meets its contract: a place past the code, and a fixed part that runs past it, are refused here; the rest is
-- `decode_fixed`'s. Assumes nothing.
use Rattle.std.proofs.Common.{ap, ◌∙◌, ℕ, arith}
use Rattle.rules.specs.Instruction.{size_of, form_of}
use Rattle.code.proofs.Decoding.{outside, short}
use Rattle.code.proofs.decode.Goals as goal

pub returns-then-code-place : goal.returns-then-code-place
returns-then-code-place c = outside _ _ c.if-code-place.true

pub returns-then-code-place-2 : goal.returns-then-code-place-2
returns-then-code-place-2 c =
    let place = c.args.place in
    let size = c.fixed_length-size.ensures ∙ ap (λ (b : ℕ). size_of (form_of b)) c.byte_at-first.ensures in
    short c.args.code.now place (omega arith)
