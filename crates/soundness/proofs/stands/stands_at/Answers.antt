-- `stands_at` reads the record's status and registers, and decodes the instruction at its place. Assumes nothing.
use Rattle.std.proofs.Common.{◌≡◌, ap, ◌∙◌}
use Rattle.rules.specs.State.{RecordState, record_at}
use Rattle.rules.specs.Sound.{RecordWithin}
use Rattle.rules.specs.Layout.{view}
use Rattle.rules.specs.Numbers.{end_number, record_number}
use Rattle.rules.specs.SoundTest.{stands_decoded}
use Rattle.words.specs.Parts.{Bytes}
use Rattle.registers.specs.declared.Registers.{Registers}
use Rattle.registers.specs.Registers.{registers_of, registers_in, status_of}
use Rattle.soundness.proofs.Instructions.{shown_within, shown_sized, shown_layout, code_short, stands_not, waiting_within}
use Rattle.soundness.proofs.Instructions.{stands_decoded_lem}
use borrow.Enum.Refused.{opened}
use Rattle.soundness.proofs.stands.stands_at.Goals as goal
use Rattle.soundness.proofs.stands.stands_at.Goals.{After-load-held, After-status_of, Start}

-- the registers of the state that the memory shows
abbrev shown : Start → RecordState
shown s = record_at (view s.args.m.now) (record_number s.args.r)

-- what the status and the registers that were read are
told : (c : After-status_of) → c.status_of.result ≡ status_of (shown c.before.before.before)
told c =
    let m = c.args.m.now in
    let bytes : Bytes m = λ j. (c.shared_slice_known-1.given j).fits in
    c.status_of.ensures (view m) (shown_sized m bytes c.requires.m_len.0 c.requires.m_len.1)
    (shown_layout m bytes c.requires.m_len.0 c.requires.m_len.1)

within : (c : After-status_of) → RecordWithin (shown c.before.before.before)
within c =
    let m = c.args.m.now in
    let all_within = shown_within m (λ j. (c.shared_slice_known-1.given j).fits) c.requires.m_len.0 c.requires.m_len.1 in
    all_within.records_within (record_number c.args.r)

loaded : (c : After-load-held) (within_here : RecordWithin (shown c.before.before.before.before.before))
    → c.load-held.result ≡ registers_of (registers_in (shown c.before.before.before.before.before))
loaded c within_here =
    let m = c.args.m.now in
    let bytes : Bytes m = λ j. (c.shared_slice_known-1.given j).fits in
    c.load-held.ensures (view m) (shown_sized m bytes c.requires.m_len.0 c.requires.m_len.1) within_here
    (shown_layout m bytes c.requires.m_len.0 c.requires.m_len.1)

pub code-requires : goal.code-requires
code-requires c = (c.requires.m_len.0, code_short c.args.m.now c.requires.m_len.1)

pub returns : goal.returns
unfolding stands_decoded registers_of
returns c =
    let x = shown (goal.at.returns c).Start in
    let w = c.in-Waiting.is in
    let code = (view c.args.m.now).code in
    let e = end_number c.args.e in
    let held = loaded (goal.at.returns c).After-load-held (within (goal.at.returns c).After-status_of) in
    c.stands_named.ensures (registers_in x) c.code.result.now c.load-held.result.place c.in-Some.decoded.next
    (waiting_within code e x (told (goal.at.returns c).After-status_of) w (within (goal.at.returns c).After-status_of)) held
    ∙ stands_decoded_lem code e x (told (goal.at.returns c).After-status_of) w c.code.ensures (ap (λ (h : Registers). h.place) held)
    c.decode.ensures c.in-Some.is

pub returns-in_default-decode : goal.returns-in_default-decode
unfolding stands_decoded registers_of
returns-in_default-decode c =
    let code = (view c.args.m.now).code in
    stands_decoded_lem code (end_number c.args.e) (shown (goal.at.returns-in_default-decode c).Start)
    (told (goal.at.returns-in_default-decode c).After-status_of) c.in-Waiting.is c.code.ensures
    (ap (λ (h : Registers). h.place) (loaded (goal.at.returns-in_default-decode c).After-load-held
    (within (goal.at.returns-in_default-decode c).After-status_of))) c.decode.ensures c.in_default-decode.is

pub returns-in_default : goal.returns-in_default
returns-in_default c =
    stands_not (view c.args.m.now).code (end_number c.args.e) (shown (goal.at.returns-in_default c).Start)
    (told (goal.at.returns-in_default c).After-status_of)
    (opened c.in_default.in_default-own.keys2)
