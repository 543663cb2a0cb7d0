-- One value after the other. The invariant: the first k values stand. Assumes nothing.
use Rattle.std.proofs.Common.{◌≡◌, sym, ap, ◌∙◌, List, ◌++◌, ℕ, ◌<◌, arith, pos, length, get_or, w32, SFits, to_z-of_z, rules}
use Rattle.rules.specs.Limits.{stack_depth}
use Rattle.rules.specs.State.{Value}
use Rattle.rules.specs.Text.{signed_decimal}
use Rattle.registers.proofs.ValueLaws.{moved, values_fit}
use Rattle.text.proofs.Texts.{written_none, written_as, room_as}
use Rattle.dump.specs.Shown.{values_text}
use Rattle.dump.specs.Pieces.{comma_behind}
use Rattle.dump.proofs.OneByOne.{so_far, index_room, index_more, index_dash_room, index_done}
use Rattle.dump.proofs.ValueTexts.{value_texts, values_count, value_at}
use Rattle.dump.proofs.lists.put_values.Goals as goal
use Rattle.dump.proofs.lists.put_values.Goals.{Start}

-- as many values as are counted
counted : (s : Start) → length (value_texts s.args.count s.args.values) ≡ s.args.count
counted s =
    let long : length s.args.values ≡ stack_depth = search rules in
    values_count s.args.count s.args.values (omega (arith, long, s.requires.count_le_stack_depth))

-- the text of a value that was read
value_text : (count k : ℕ) (values : List Value) → k < count → SFits w32 (get_or values k (pos 0))
    → comma_behind k ++ signed_decimal (moved (get_or values k (pos 0)))
    ≡ comma_behind k ++ get_or (value_texts count values) k (signed_decimal (pos 0))
value_text count k values h f =
    ap (λ (t : List ℕ). comma_behind k ++ t)
    (ap signed_decimal (to_z-of_z {w = w32} {z = get_or values k (pos 0)} f) ∙ sym (value_at count k values h))

pub loop-k-init : goal.loop-k-init
unfolding so_far
loop-k-init c = written_none c.args.page.now

pub put_value-requires : goal.put_value-requires
unfolding values_text
put_value-requires c =
    let a = c.args in
    let l = c.loop-k in
    let all = value_texts a.count a.values in
    let below = c.loop-k-test.true in
    let fits = values_fit stack_depth a.values _ c.well_formed.1.0 l.k in
    let inside : l.k < length all = omega (arith, below, counted (goal.at.put_value-requires c).Start) in
    room_as l.page (value_text a.count l.k a.values below fits)
    (index_room all l.k l.invariant (signed_decimal (pos 0)) inside c.requires.room)

pub loop-k-preserved : goal.loop-k-preserved
loop-k-preserved c =
    let a = c.args in
    let l = c.loop-k in
    let all = value_texts a.count a.values in
    let below = c.loop-k-test.true in
    let fits = values_fit stack_depth a.values _ c.well_formed.1.0 l.k in
    let inside : l.k < length all = omega (arith, below, counted (goal.at.loop-k-preserved c).Start) in
    let value = written_as (value_text a.count l.k a.values below fits) c.put_value.ensures in
    index_more all l.k l.invariant (signed_decimal (pos 0)) inside value

pub put_dash-requires : goal.put_dash-requires
unfolding values_text
put_dash-requires c =
    let l = c.loop-k in
    let all = value_texts c.args.count c.args.values in
    let enough = counted (goal.at.put_dash-requires c).Start in
    index_dash_room all l.k l.invariant enough (omega arith) c.requires.room

pub returns : goal.returns
unfolding values_text
returns c =
    let l = c.loop-k in
    let all = value_texts c.args.count c.args.values in
    let enough = counted (goal.at.returns c).Start in
    index_done all l.k l.invariant enough (omega arith) c.put_dash.ensures
