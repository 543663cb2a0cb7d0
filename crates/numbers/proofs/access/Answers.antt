-- access: 6, 7, or the environment's value pushed. Assumes nothing.
use Rattle.std.proofs.Common.{sym, ap, ◌∙◌, subst, arith, length, get_or, ℤ, pos, le-leb, w32, SFits, to_z-of_z}
use borrow.Author.Tests.{lt-leb}
use Rattle.rules.specs.State.{RecordState}
use Rattle.rules.specs.Layout.{view}
use Rattle.rules.specs.Sound.{ValueWithin}
use Rattle.keeping.proofs.Memories.{memory_length}
use Rattle.registers.specs.Registers.{registers_of, registers_in, pushed}
use Rattle.registers.proofs.Fields.{by_fields}
use Rattle.stepping.proofs.Steps.{refused_step, done_step, memory_sized, registers_ok, held_is, held_small}
use Rattle.numbers.proofs.Cases.{access_full, access_none, access_done}
use Rattle.numbers.proofs.Loaded.{stack_full_lem, stack_room}
use Rattle.numbers.proofs.access.Goals as goal

pub load-held-requires : goal.load-held-requires
load-held-requires c = (memory_length _ c.requires.0, c.requires.1)

pub returns-then-held-ge16 : goal.returns-then-held-ge16
returns-then-held-ge16 c g is =
    let m = c.args.m.now in
    let x = held_is m c.requires.0 _ g is c.load-held.ensures in
    refused_step 6 (access_full (view m) _ _ g _ (stack_full_lem g x c.if-held-ge16.true))

pub returns-then-held-n : goal.returns-then-held-n
returns-then-held-n c g is =
    let a = c.args in
    let m = a.m.now in
    let x = held_is m c.requires.0 _ g is c.load-held.ensures in
    let past = le-leb (length g.environment) a.n (omega (arith, c.if-held-n.true, (by_fields g x).environment_count_is)) in
    refused_step 7 (access_none (view m) _ _ g _ (stack_room g x c.if-held-ge16.false) past)

pub environment_value-v-requires : goal.environment_value-v-requires
environment_value-v-requires c =
    let small = held_small c.args.m.now c.requires.0 _ c.load-held.ensures in
    record {
      m_len = (memory_length _ c.requires.0, c.requires.1);
      n_lt_environment_depth = omega (arith, c.if-held-n.false, small);
    }

pub save_running-requires : goal.save_running-requires
save_running-requires c = (memory_length _ c.requires.0, c.requires.1)

pub returns : goal.returns
returns c g is =
    let a = c.args in
    let m = a.m.now in
    let s = c.requires.0 in
    let x = held_is m s _ g is c.load-held.ensures in
    let there = lt-leb (length g.environment) a.n (omega (arith, c.if-held-n.false, (by_fields g x).environment_count_is)) in
    let ok = s.state_sound.S1.records_within _ in
    let value = c.environment_value-v.ensures (view m) (memory_sized m s) ok s.laid_out
    ∙ ap (λ (y : RecordState). get_or (registers_in y).environment a.n (pos 0)) is in
    let fits : SFits w32 c.environment_value-v.result =
    record { sfits = subst ValueWithin (sym value) ((registers_ok m s _ g is).environment_values a.n) } in
    let Moved-value = to_z-of_z {w = w32} fits ∙ value in
    let pushed_is = c.push-pushed.ensures.value g x ∙ ap (λ (z : ℤ). registers_of (pushed g z)) Moved-value in
    let moved = c.at.ensures _ pushed_is in
    done_step m _ (access_done (view m) _ _ g _ (stack_room g x c.if-held-ge16.false) there)
    (c.save_running.ensures (view m) _ (memory_sized m s) s.laid_out moved)
