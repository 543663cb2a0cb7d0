-- plug: what its rows say, 15, or the two processes. Assumes nothing.
use Rattle.std.proofs.Common.{◌≡◌, ap, false, arith}
use Rattle.rules.specs.Limits.{record_count}
use Rattle.registers.specs.Registers.{record_or}
use Rattle.rules.specs.State.{lowest_free_record}
use Rattle.rules.specs.Instruction.{plug}
use Rattle.rules.specs.Causes.{few_free_ends, no_free_record}
use Rattle.rules.specs.Layout.{view, free_word}
use Rattle.keeping.proofs.Memories.{memory_length}
use Rattle.stepping.proofs.Steps.{refused_step, done_step, memory_sized, in_range}
use Rattle.stepping.proofs.FreeEnds.{few_ends, enough_ends}
use Rattle.stepping.proofs.FreeRecords.{no_record, some_record}
use Rattle.stepping.proofs.Begun.{Begun, own_refuses, held, passes}
use Rattle.processes.proofs.PlugCases.{too_few_ends, no_free_record_lem, plugged}
use Rattle.processes.proofs.plugging.plug.Goals as goal
use Rattle.processes.proofs.plugging.plug.Goals.{After-free_word-word, After-lowest_free_record, Else-count-lt2, In-Some}
use Rattle.processes.proofs.plugging.plug.Goals.{In_ok-plug}
use Rattle.rules.specs.Refusal.{done}

pub load-held-requires : goal.load-held-requires
load-held-requires c = let p = c.requires in (memory_length _ p.0, in_range _ p.0 _ p.1)

-- no row 5 to 11 holds
passed : (c : In_ok-plug) → let a = c.args in
    Begun a.m.now a.r.0 (plug a.a.0 a.first.set a.first.place a.second.set a.second.place) c.load-held.result (done tt)
passed c = record { sound = c.requires.0; load_is = c.load-held.ensures; reply_is = c.in_ok-plug.ensures }

pub returns-in_err-plug : goal.returns-in_err-plug
returns-in_err-plug c next g is =
    own_refuses _ _ c.from_residual.ensures.1
    (record { sound = c.requires.0; load_is = c.load-held.ensures; reply_is = c.in_err-plug.ensures }) next g is

-- the word that is read is that of the free ends
word_read : (c : After-free_word-word) → c.free_word-word.result ≡ free_word (view c.args.m.now).ends
word_read c =
    let s = c.requires.0 in
    c.free_word-word.ensures _ (memory_sized _ s) s.laid_out

pub returns-then-count-lt2 : goal.returns-then-count-lt2
returns-then-count-lt2 c next g is =
    let a = c.args in
    let st = view a.m.now in
    let few = few_ends st (memory_sized _ c.requires.0) _ (word_read (goal.at.returns-then-count-lt2 c).After-free_word-word)
    c.count.ensures 2 c.if-count-lt2.true in
    refused_step 15 (too_few_ends st a.r.0 next g _ _ _ _ _ (passes (passed (goal.at.returns-then-count-lt2 c).In_ok-plug) g is) few)

-- two ends are free
two : (c : Else-count-lt2) → few_free_ends 2 (view c.args.m.now) ≡ false
two c =
    let s = c.requires.0 in
    enough_ends _ (memory_sized _ s) _ (word_read c.before.before) c.count.ensures 2 c.if-count-lt2.false

-- what is found is the lowest free record, if there is one
read : (c : After-lowest_free_record) → record_or record_count c.lowest_free_record.result ≡ lowest_free_record (view c.args.m.now)
read c =
    let s = c.requires.0 in
    c.lowest_free_record.ensures.lowest _ (memory_sized _ s) s.laid_out

pub returns-in_default : goal.returns-in_default
returns-in_default c next g is =
    let a = c.args in
    let at = goal.at.returns-in_default c in
    let st = view a.m.now in
    let none = no_record st c.requires.0.state_sound
    (omega (arith, ap (record_or record_count) c.in_default.is, read at.After-lowest_free_record)) in
    refused_step 15 (no_free_record_lem st a.r.0 next g _ _ _ _ _ (passes (passed at.In_ok-plug) g is) (two at.Else-count-lt2) none)

-- the record that is found is the lowest free one, and is free
new_read : (c : In-Some) → c.in-Some.new.0 ≡ lowest_free_record (view c.args.m.now)
new_read c = let s = c.requires.0 in c.in-Some.ensures.lowest _ (memory_sized _ s) s.laid_out

some : (c : In-Some) → no_free_record (view c.args.m.now) ≡ false
some c = some_record _ (omega (arith, c.in-Some.ensures.within, new_read c))

pub divide-requires-clause-sound_memory : goal.divide-requires-clause-sound_memory
divide-requires-clause-sound_memory c =
    let at = goal.at.divide-requires-clause-sound_memory c in (
      c.requires.0,
      c.requires.1,
      record {
        word_is = word_read at.After-free_word-word;
        two_ends = two at.Else-count-lt2;
        new_is = new_read at.In-Some;
        a_record = some at.In-Some;
      },
    )

pub returns : goal.returns
returns c next g is =
    let a = c.args in
    let m = a.m.now in
    let b = passed (goal.at.returns c).In_ok-plug in
    done_step m _ (plugged (view m) a.r.0 next g _ _ _ _ _ (passes b g is) (two (goal.at.returns c).Else-count-lt2)
    (some (goal.at.returns c).In-Some))
    (c.divide.ensures next g is (held b g is))
