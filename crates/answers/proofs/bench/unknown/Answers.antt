-- The first word, and no more of it than a line has. Assumes nothing.
use Rattle.std.proofs.Common.{◌≡◌, ap, ◌∙◌, ℕ, arith, length, take}
use Rattle.rules.specs.Text.{text}
use Rattle.text.proofs.Texts.{written_more, written_as, printed_length}
use Rattle.commands.specs.Asked.{line_limit, first_word}
use Rattle.answers.proofs.Texts.{unknown_text, unknown_length}
use Rattle.answers.proofs.bench.unknown.Goals as goal
use Rattle.answers.proofs.bench.unknown.Goals.{After-front}

pub put_bytes-requires : goal.put_bytes-requires
put_bytes-requires c = omega (arith, unknown_length c.args.line.now, c.requires)

-- what is printed of the line
word : (c : After-front)
    → let line = c.args.line.now in
    c.front.result.now ≡ take line_limit (first_word line)
unfolding first_word
word c =
    let line = c.args.line.now in
    c.front.ensures ∙ ap (λ (k : ℕ). take line_limit (take k line)) c.length_before-n.ensures.is

pub put_bytes-requires-2 : goal.put_bytes-requires-2
put_bytes-requires-2 c =
    let line = c.args.line.now in
    omega (arith, unknown_length line, ap length (word c), c.requires, c.put_bytes.ensures.place, printed_length c.put_bytes.ensures)

pub put_bytes-requires-3 : goal.put_bytes-requires-3
put_bytes-requires-3 c =
    let line = c.args.line.now in
    let p = c.put_bytes.ensures in
    omega (
      arith,
      unknown_length line,
      ap length (word (goal.at.put_bytes-requires-3 c).After-front),
      c.requires,
      p.place,
      printed_length p,
      c.put_bytes-2.ensures.place,
      printed_length c.put_bytes-2.ensures,
    )

pub returns : goal.returns
unfolding text
returns c =
    let line = c.args.line.now in
    written_as (unknown_text line)
    (written_more c.put_bytes.ensures
    (written_more (written_as (word (goal.at.returns c).After-front) c.put_bytes-2.ensures) c.put_bytes-3.ensures))
