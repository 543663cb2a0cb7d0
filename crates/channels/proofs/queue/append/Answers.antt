-- `append`: 13 where the queue of the slot's end has no room, else the item stands on it. Assumes nothing.
use Rattle.std.proofs.Common.{◌≡◌, ℕ, ◌<◌, arith}
use Rattle.rules.specs.Limits.{end_count}
use Rattle.rules.specs.State.{Registers as Process, end_in}
use Rattle.keeping.proofs.Memories.{memory_length}
use Rattle.stepping.proofs.Steps.{registers_ok}
use Rattle.channels.specs.Appending.{Runs}
use Rattle.channels.proofs.Holding.{end_within_lem}
use Rattle.channels.proofs.Appends.{not_appended, item_appended}
use Rattle.channels.proofs.queue.append.Goals as goal
use Rattle.channels.proofs.queue.append.Goals.{After-own_end-end}

-- the end is one of the state's
within : (c : After-own_end-end) → c.own_end-end.result.0 < end_count
within c = end_within_lem c.requires c.own_end-end.ensures

-- it is the end in slot c of the running record
here : (c : After-own_end-end) (r : ℕ) (g : Process) → let a = c.args in
    Runs a.m.now r a.held g a.c.0 → c.own_end-end.result.0 ≡ end_in g a.c.0
here c r g h = c.own_end-end.ensures g (registers_ok _ c.requires.sound r g h.runs) h.is_held

pub queued-requires : goal.queued-requires
queued-requires c = (memory_length _ c.requires.sound, within c)

pub returns-then-queued-ge-QUEUE_DEPTH : goal.returns-then-queued-ge-QUEUE_DEPTH
returns-then-queued-ge-QUEUE_DEPTH c r g h =
    let s = c.requires.sound in
    let is = here (goal.at.returns-then-queued-ge-QUEUE_DEPTH c).After-own_end-end r g h in
    not_appended s h _ is c.queued.ensures.queued c.if-queued-ge-QUEUE_DEPTH.true _

pub append-requires : goal.append-requires
append-requires c =
    let room = c.queued.ensures.counted in (
      memory_length _ c.requires.sound,
      within (goal.at.append-requires c).After-own_end-end,
      omega
          (arith, c.if-queued-ge-QUEUE_DEPTH.false, room),
    )

pub returns : goal.returns
returns c r g h =
    let s = c.requires.sound in
    let is = here (goal.at.returns c).After-own_end-end r g h in
    item_appended s h _ is c.queued.ensures.queued c.if-queued-ge-QUEUE_DEPTH.false _ c.append.ensures
