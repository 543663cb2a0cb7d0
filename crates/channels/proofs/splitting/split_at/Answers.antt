-- split_at: 13 by the count, 15 by the word of free ends, or the four lowest free ends in use. Assumes nothing.
use Rattle.std.proofs.Common.{◌≡◌, ◌<◌, arith}
use Rattle.rules.specs.Limits.{end_count}
use Rattle.rules.specs.State.{Registers as Process, end_in}
use Rattle.rules.specs.Layout.{view, free_word}
use Rattle.keeping.proofs.Memories.{memory_length}
use Rattle.stepping.proofs.Steps.{refused_step, done_step, memory_sized, registers_ok}
use Rattle.stepping.proofs.FreeEnds.{few_ends}
use Rattle.channels.specs.Appending.{Runs}
use Rattle.channels.proofs.Holding.{end_within_lem, own}
use Rattle.channels.proofs.Appends.{full, not_full}
use Rattle.channels.proofs.Splits.{split_ends, split_registers, sized_split, split_full, split_few, split_done}
use Rattle.channels.proofs.Splits.{NewEnds, new_ends, new_within}
use Rattle.channels.proofs.splitting.split_at.Goals as goal
use Rattle.channels.proofs.splitting.split_at.Goals.{After-four_lowest-new, After-free_word-free, After-own_end-end}

-- the end is one of the state's
within : (c : After-own_end-end) → c.own_end-end.result.0 < end_count
within c = end_within_lem c.requires.holds_end c.own_end-end.ensures

-- it is the end in slot c of the running record
here : (c : After-own_end-end) (g : Process) → let a = c.args in
    Runs a.m.now a.r.0 a.held g a.c.0 → c.own_end-end.result.0 ≡ end_in g a.c.0
here c g h = c.own_end-end.ensures g (registers_ok _ c.requires.holds_end.sound _ g h.runs) h.is_held

pub queued-requires : goal.queued-requires
queued-requires c = (memory_length _ c.requires.holds_end.sound, within c)

pub returns-then-queued-ge-QUEUE_DEPTH : goal.returns-then-queued-ge-QUEUE_DEPTH
returns-then-queued-ge-QUEUE_DEPTH c g h =
    let a = c.args in
    let s = c.requires.holds_end.sound in
    let is_full = full s h _ (here (goal.at.returns-then-queued-ge-QUEUE_DEPTH c).After-own_end-end g h) c.queued.ensures.queued
    c.if-queued-ge-QUEUE_DEPTH.true in
    record { shared = refused_step 13 (split_full (view a.m.now) _ _ g _ _ _ is_full) }

-- the word that is read is that of the free ends
word_is : (c : After-free_word-free) → c.free_word-free.result ≡ free_word (view c.args.m.now).ends
word_is c =
    let s = c.requires.holds_end.sound in
    c.free_word-free.ensures _ (memory_sized _ s) s.laid_out

pub returns-then-count-lt4 : goal.returns-then-count-lt4
returns-then-count-lt4 c g h =
    let a = c.args in
    let s = c.requires.holds_end.sound in
    let room = not_full s h _ (here (goal.at.returns-then-count-lt4 c).After-own_end-end g h) c.queued.ensures.queued
    c.if-queued-ge-QUEUE_DEPTH.false in
    let too_few = few_ends _ (memory_sized _ s) _ (word_is (goal.at.returns-then-count-lt4 c).After-free_word-free)
    c.count.ensures 4 c.if-count-lt4.true in
    record { shared = refused_step 15 (split_few (view a.m.now) _ _ g _ _ _ room too_few) }

-- the four ends are the lowest free ones
new : (c : After-four_lowest-new) → NewEnds (view c.args.m.now) c.four_lowest-new.result
new c =
    let s = c.requires.holds_end.sound in
    new_ends _ (memory_sized _ s) _ (word_is c.before.before.before) c.count.ensures c.if-count-lt4.false _ c.four_lowest-new.ensures

pub split_ends-requires : goal.split_ends-requires
split_ends-requires c =
    let s = c.requires.holds_end.sound in
    let left = c.if-queued-ge-QUEUE_DEPTH.false in
    let four = new_within _ (memory_sized _ s) _ (new (goal.at.split_ends-requires c).After-four_lowest-new) in
    record {
      m_len = (memory_length _ s, within (goal.at.split_ends-requires c).After-own_end-end, omega (arith, left, c.queued.ensures.counted));
      four_within = four;
    }

pub split_registers-requires : goal.split_registers-requires
split_registers-requires c =
    let w = new_within _ (memory_sized _ c.requires.holds_end.sound) _ (new (goal.at.split_registers-requires c).After-four_lowest-new) in
    (w.p_within, w.s_within)

pub returns : goal.returns
returns c g h =
    let a = c.args in
    let s = c.requires.holds_end.sound in
    let st = view a.m.now in
    let z = memory_sized _ s in
    let is = here (goal.at.returns c).After-own_end-end g h in
    let room = not_full s h _ is c.queued.ensures.queued c.if-queued-ge-QUEUE_DEPTH.false in
    let n = new (goal.at.returns c).After-four_lowest-new in
    let mine = own s h _ is in
    let ends_stored = c.split_ends.ensures st z s.laid_out mine.in_use mine.no_last n.free in
    let registers = c.split_registers.ensures g (registers_ok _ s _ g h.runs).slots_within h.is_held in
    let answer = split_done st _ _ g _ _ _ room n.enough is n.p_is n.q_is n.s_is n.t_is in
    let e = c.own_end-end.result.0 in
    let four = c.four_lowest-new.result in
    let after = split_ends st e four.p.0 four.q.0 four.s.0 four.t.0 in
    let z' = sized_split st z e four.p.0 four.q.0 four.s.0 four.t.0 in
    let holds = split_registers g a.c.0 a.a.0 a.b.0 a.next four.p.0 four.s.0 in
    record { shared = done_step a.m.now _ answer (c.save_running.ensures after holds z' ends_stored registers) }
