-- The pair, then the two processes. Assumes nothing.
use Rattle.std.proofs.Common.{ap, ◌∙◌, rules}
use Rattle.rules.specs.Layout.{layout, view}
use Rattle.rules.specs.Numbers.{record_number, end_number}
use Rattle.stepping.proofs.Steps.{memory_sized, sized_record, in_range, registers_ok}
use Rattle.processes.proofs.PlugCases.{Taken, taken, sized_paired, divided}
use Rattle.processes.proofs.plugging.divide.Goals as goal
use Rattle.processes.proofs.plugging.divide.Goals.{After-lowest-q}

-- what the code has taken
names : (c : After-lowest-q)
    → Taken (view c.args.m.now) (end_number c.lowest-p.result)
    (end_number c.lowest-q.result) (record_number c.args.new)
names c =
    let m = c.args.m.now in
    let p = c.requires.sound_memory in
    taken (view m) p.0.state_sound (memory_sized m p.0) _ _ _ _ _ p.2 c.lowest-p.ensures
    c.without_lowest.ensures c.lowest-q.ensures

pub pair-requires : goal.pair-requires
pair-requires c = let t = names (goal.at.pair-requires c).After-lowest-q in (search rules, t.p_in_range, t.q_in_range)

pub begin-requires : goal.begin-requires
begin-requires c =
    let p = c.requires.sound_memory in
    (search rules, in_range _ p.0 _ p.1, (names (goal.at.begin-requires c).After-lowest-q).p_in_range)

pub begin-requires-2 : goal.begin-requires-2
begin-requires-2 c =
    let t = names (goal.at.begin-requires-2 c).After-lowest-q in
    (search rules, t.new_in_range, t.q_in_range)

pub returns : goal.returns
returns c next g is h =
    let a = c.args in
    let m = a.m.now in
    let s = c.requires.sound_memory.0 in
    let st = view m in
    let t = names (goal.at.returns c).After-lowest-q in
    let all = memory_sized m s in
    let slots = (registers_ok m s _ g is).slots_within in
    let paired = c.pair.ensures st all s.laid_out t.p_free t.q_free t.differ in
    let with_pair = sized_paired st _ _ all in
    let one = c.begin.ensures _ g with_pair paired slots h in
    let two = c.begin-2.ensures _ g (sized_record _ _ _ with_pair) one slots h in
    two ∙ ap layout (divided st _ next g _ _ _ _ _ _ _ _ t)
