-- The word of the kind, and behind it the number where it has one. Assumes nothing.
use Rattle.std.proofs.Common.{◌≡◌, sym, ap, ◌∙◌, ◌++◌, w32, to_z-of_z}
use Rattle.rules.specs.Text.{signed_decimal}
use Rattle.rules.specs.Printed.{kind_text}
use Rattle.text.specs.Page.{Puts}
use Rattle.text.proofs.Texts.{written_more, written_as, room_as, room_rest}
use Rattle.printed.specs.Meaning.{kind_in}
use Rattle.printed.specs.Words.{word_text, word_of}
use Rattle.printed.proofs.WordLaws.{kind_below, numbered_text, plain_text, word_room}
use Rattle.printed.proofs.lines.put_kind.Goals as goal
use Rattle.printed.proofs.lines.put_kind.Goals.{After-put_word, Then-is_numbered}

pub put_word-requires : goal.put_word-requires
put_word-requires c =
    let a = c.args in
    let row = c.word_of.ensures in
    (rw row (kind_below a.kind), rw row (word_room a.kind a.number a.page.now c.requires))

-- the word that was written is the kind's
worded : (c : After-put_word)
    → let a = c.args in
    Puts a.page.now (word_text (word_of a.kind)) c.put_word.new.page
worded c = written_as (ap word_text c.word_of.ensures) c.put_word.ensures

-- the text with its number
numbered : (c : Then-is_numbered)
    → let a = c.args in
    word_text (word_of a.kind) ++ signed_decimal a.number ≡ kind_text (kind_in a.kind) a.number
numbered c =
    let a = c.args in
    numbered_text a.kind a.number (sym c.is_numbered.ensures ∙ c.if-is_numbered.true)

pub put_signed-requires : goal.put_signed-requires
put_signed-requires c =
    let a = c.args in
    let whole = room_as a.page.now (numbered (goal.at.put_signed-requires c).Then-is_numbered) c.requires in
    rw (to_z-of_z {w = w32} {z = a.number} c.ranges.number) (room_rest (signed_decimal a.number) whole
    (worded (goal.at.put_signed-requires c).After-put_word))

pub returns-then-is_numbered : goal.returns-then-is_numbered
returns-then-is_numbered c =
    let digits = rw (to_z-of_z {w = w32} {z = c.args.number} c.ranges.number) at c.put_signed.ensures in
    written_as (numbered (goal.at.returns-then-is_numbered c).Then-is_numbered)
    (written_more (worded (goal.at.returns-then-is_numbered c).After-put_word) digits)

pub returns-else-is_numbered : goal.returns-else-is_numbered
returns-else-is_numbered c =
    let a = c.args in
    written_as (plain_text a.kind a.number (sym c.is_numbered.ensures ∙ c.if-is_numbered.false))
    (worded (goal.at.returns-else-is_numbered c).After-put_word)
