-- One item after the other. The invariant: the first k items stand. Assumes nothing.
use Rattle.std.proofs.Common.{◌≡◌, [], ◌<◌, arith, length}
use Rattle.rules.specs.State.{end_at}
use Rattle.rules.specs.Layout.{view}
use Rattle.stepping.proofs.Steps.{memory_sized}
use Rattle.dump.specs.Pieces.{item_texts}
use Rattle.text.proofs.Texts.{written_none}
use Rattle.dump.proofs.OneByOne.{so_far, index_room, index_more, index_dash_room, index_done}
use Rattle.dump.proofs.Queued.{items_count}
use Rattle.dump.proofs.end_line.put_queue.Goals as goal
use Rattle.dump.proofs.end_line.put_queue.Goals.{After-queued-count}

-- as many items as are queued
counted : (c : After-queued-count)
    → let a = c.args in length (item_texts (end_at (view a.m.now) a.e)) ≡ c.queued-count.result
counted c =
    let a = c.args in
    let m = a.m.now in
    let s = c.requires.sound.2 in
    let is = c.queued-count.ensures.queued (view m) (memory_sized m s) s.laid_out in
    omega (arith, is, items_count (end_at (view m) a.e))

pub loop-k-init : goal.loop-k-init
unfolding so_far
loop-k-init c = written_none c.args.page.now

pub put_next-requires : goal.put_next-requires
put_next-requires c =
    let a = c.args in
    let all = item_texts (end_at (view a.m.now) a.e) in
    let l = c.loop-k in
    let inside : l.k < length all = omega (arith, c.loop-k-test.true, counted (goal.at.put_next-requires c).After-queued-count) in
    record {
      sound = c.requires.sound;
      in_queue = inside;
      room = index_room all l.k l.invariant [] inside c.requires.room;
    }

pub loop-k-preserved : goal.loop-k-preserved
loop-k-preserved c =
    let a = c.args in
    let all = item_texts (end_at (view a.m.now) a.e) in
    let l = c.loop-k in
    let below = c.loop-k-test.true in
    let inside : l.k < length all = omega (arith, below, counted (goal.at.loop-k-preserved c).After-queued-count) in
    index_more all l.k l.invariant [] inside c.put_next.ensures

pub put_dash-requires : goal.put_dash-requires
put_dash-requires c =
    let a = c.args in
    let all = item_texts (end_at (view a.m.now) a.e) in
    let l = c.loop-k in
    let enough = counted (goal.at.put_dash-requires c).After-queued-count in
    index_dash_room all l.k l.invariant enough (omega arith) c.requires.room

pub returns : goal.returns
returns c =
    let a = c.args in
    let all = item_texts (end_at (view a.m.now) a.e) in
    let l = c.loop-k in
    let enough = counted (goal.at.returns c).After-queued-count in
    index_done all l.k l.invariant enough (omega arith) c.put_dash.ensures
