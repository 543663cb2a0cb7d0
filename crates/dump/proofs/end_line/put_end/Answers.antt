-- The words, the queue, and the line's end; a free end shows nothing. Assumes nothing.
use Rattle.std.proofs.Common.{◌≡◌, sym, ap, ◌∙◌, [], ◌∷◌, ◌++◌, ℕ}
use Rattle.rules.specs.State.{end_at}
use Rattle.rules.specs.Layout.{view}
use Rattle.stepping.proofs.Steps.{memory_sized}
use Rattle.text.specs.Page.{Room}
use Rattle.text.proofs.Texts.{written_none, written_more, written_as, room_as, room_first, room_rest}
use Rattle.dump.specs.Shown.{list_text, end_text}
use Rattle.dump.specs.Pieces.{item_texts}
use Rattle.dump.proofs.Queued.{free_line, head_text, used_line}
use Rattle.dump.proofs.end_line.put_end.Goals as goal
use Rattle.dump.proofs.end_line.put_end.Goals.{After-partner}

pub returns-then-is_free : goal.returns-then-is_free
returns-then-is_free c =
    let a = c.args in
    let m = a.m.now in
    let s = c.requires.sound.2 in
    let free = sym (c.is_free.ensures (view m) (memory_sized m s) s.laid_out) ∙ c.if-is_free.true in
    written_as (free_line a.e (end_at (view m) a.e) free) (written_none a.page.now)

-- the parts of the line
parts : (c : After-partner)
    → let a = c.args in
    let x = end_at (view a.m.now) a.e in
    head_text a.e c.partner.result.0 ++ list_text (item_texts x) ++ 10 ∷ [] ≡ end_text a.e x
parts c =
    let a = c.args in
    let m = a.m.now in
    let s = c.requires.sound.2 in
    let x = end_at (view m) a.e in
    let in_use = sym (c.is_free.ensures (view m) (memory_sized m s) s.laid_out) ∙ c.if-is_free.false in
    ap (λ (p : ℕ). head_text a.e p ++ list_text (item_texts x) ++ 10 ∷ [])
    (c.partner.ensures (view m) (memory_sized m s) s.laid_out)
    ∙ used_line a.e x in_use

-- room for all, and for the words and the queue
whole : (c : After-partner)
    → let a = c.args in
    let x = end_at (view a.m.now) a.e in
    Room a.page.now (head_text a.e c.partner.result.0 ++ list_text (item_texts x) ++ 10 ∷ [])
whole c = room_as c.args.page.now (parts c) c.requires.room

two : (c : After-partner)
    → let a = c.args in
    let x = end_at (view a.m.now) a.e in
    Room a.page.now (head_text a.e c.partner.result.0 ++ list_text (item_texts x))
two c =
    let a = c.args in
    let x = end_at (view a.m.now) a.e in
    room_first a.page.now (head_text a.e c.partner.result.0 ++ list_text (item_texts x)) (10 ∷ []) (whole c)

pub put_head-requires : goal.put_head-requires
put_head-requires c =
    let a = c.args in
    let x = end_at (view a.m.now) a.e in
    room_first a.page.now (head_text a.e c.partner.result.0) (list_text (item_texts x)) (two c)

pub put_queue-requires : goal.put_queue-requires
put_queue-requires c =
    let a = c.args in
    record {
      sound = c.requires.sound;
      room = room_rest (list_text (item_texts (end_at (view a.m.now) a.e)))
          (two (goal.at.put_queue-requires c).After-partner) c.put_head.ensures;
    }

pub put_letter-requires : goal.put_letter-requires
put_letter-requires c =
    room_rest (10 ∷ []) (whole (goal.at.put_letter-requires c).After-partner)
    (written_more c.put_head.ensures c.put_queue.ensures)

pub returns : goal.returns
returns c =
    let queue = written_more c.put_head.ensures c.put_queue.ensures in
    written_as (parts (goal.at.returns c).After-partner) (written_more queue c.put_letter.ensures)
