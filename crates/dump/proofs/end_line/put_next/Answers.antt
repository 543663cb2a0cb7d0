-- A comma and the item at the index. Assumes nothing.
use Rattle.std.proofs.Common.{◌≡◌, sym, ap, ◌∙◌, [], ◌<◌, arith, get_or}
use Rattle.rules.specs.Limits.{queue_depth}
use Rattle.rules.specs.State.{end_at}
use Rattle.rules.specs.Layout.{view}
use Rattle.ends.specs.Items.{item_of, head_in}
use Rattle.ends.proofs.Fitting.{sound_fits}
use Rattle.stepping.proofs.Steps.{memory_sized}
use Rattle.text.proofs.Texts.{written_more, written_as, room_as, room_rest}
use Rattle.dump.specs.Shown.{item_text}
use Rattle.dump.specs.Pieces.{item_texts}
use Rattle.dump.proofs.Queued.{index_within, item_shown, item_there}
use Rattle.dump.proofs.end_line.put_next.Goals as goal
use Rattle.dump.proofs.end_line.put_next.Goals.{In-Some, Start}

-- the index is one of a cell
inside : (s : Start) → s.args.k < queue_depth
inside s = let a = s.args in index_within a.m.now s.requires.sound.2 a.e a.k s.requires.in_queue

pub overflow_cast-k : goal.overflow_cast-k
overflow_cast-k c = let small = inside (goal.at.overflow_cast-k c).Start in omega arith

pub item_at-requires : goal.item_at-requires
item_at-requires c = (c.requires.sound.0, c.requires.sound.1, inside (goal.at.item_at-requires c).Start)

pub returns-in_default : goal.returns-in_default
returns-in_default c =
    let m = c.args.m.now in
    let s = c.requires.sound.2 in
    let x = end_at (view m) c.args.e in
    let found = c.item_at.ensures (view m) (memory_sized m s) s.laid_out (sound_fits (view m) s.state_sound _) in
    item_there x c.args.k c.requires.in_queue (ap head_in (sym c.in_default.is) ∙ found)

-- what is found is what is shown
item_is : (c : In-Some)
    → let a = c.args in
    item_text (item_of c.in-Some.item) ≡ get_or (item_texts (end_at (view a.m.now) a.e)) a.k []
item_is c =
    let m = c.args.m.now in
    let s = c.requires.sound.2 in
    let x = end_at (view m) c.args.e in
    let found = c.item_at.ensures (view m) (memory_sized m s) s.laid_out (sound_fits (view m) s.state_sound _) in
    item_shown x c.args.k _ (ap head_in (sym c.in-Some.is) ∙ found)

pub put_item-requires : goal.put_item-requires
put_item-requires c =
    let a = c.args in
    let item = get_or (item_texts (end_at (view a.m.now) a.e)) a.k [] in
    let put = c.put_comma in
    room_as put.new.page (item_is (goal.at.put_item-requires c).In-Some)
    (room_rest item c.requires.room put.ensures)

pub returns : goal.returns
returns c =
    written_more c.put_comma.ensures (written_as (item_is (goal.at.returns c).In-Some) c.put_item.ensures)
