-- One case for each item. Assumes nothing.
use Rattle.std.proofs.Common.{◌≡◌, sym, ap, w32, SFits, to_z-of_z, rules}
use Rattle.rules.specs.Text.{text}
use Rattle.text.proofs.Texts.{written_as, room_as}
use Rattle.ends.specs.declared.item.Item.{Item}
use Rattle.ends.specs.Items.{item_of}
use Rattle.dump.specs.Shown.{datum_text, last_text, item_text}
use Rattle.dump.proofs.end_line.put_item.Goals as goal

-- an item that is known is printed by its words
shown : {x y : Item} → x ≡ y → item_text (item_of y) ≡ item_text (item_of x)
shown e = ap (λ (i : Item). item_text (item_of i)) (sym e)

pub put_queued_value-requires : goal.put_queued_value-requires
unfolding item_text datum_text
put_queued_value-requires c =
    let a = c.args in
    let fits : SFits w32 c.in-Value.v = search rules in
    rw (to_z-of_z fits) (room_as a.page.now (shown c.in-Value.is) c.requires)

pub put_lettered-requires : goal.put_lettered-requires
unfolding item_text datum_text text
put_lettered-requires c =
    let a = c.args in
    room_as a.page.now (shown c.in-Handle.is) c.requires

pub put_split-requires : goal.put_split-requires
unfolding item_text last_text
put_split-requires c =
    let a = c.args in
    room_as a.page.now (shown c.in-Split.is) c.requires

pub put_letter-requires : goal.put_letter-requires
unfolding item_text last_text text
put_letter-requires c =
    let a = c.args in
    room_as a.page.now (shown c.in-Close.is) c.requires

pub put_lettered-requires-in-Wait : goal.put_lettered-requires-in-Wait
unfolding item_text last_text text
put_lettered-requires-in-Wait c =
    let a = c.args in
    room_as a.page.now (shown c.in-Wait.is) c.requires

pub returns-in-Value : goal.returns-in-Value
unfolding item_text datum_text
returns-in-Value c =
    let fits : SFits w32 c.in-Value.v = search rules in
    written_as (shown c.in-Value.is) (rw (to_z-of_z fits) at c.put_queued_value.ensures)

pub returns-in-Handle : goal.returns-in-Handle
unfolding item_text datum_text text
returns-in-Handle c = written_as (shown c.in-Handle.is) c.put_lettered.ensures

pub returns-in-Split : goal.returns-in-Split
unfolding item_text last_text
returns-in-Split c = written_as (shown c.in-Split.is) c.put_split.ensures

pub returns-in-Close : goal.returns-in-Close
unfolding item_text last_text text
returns-in-Close c = written_as (shown c.in-Close.is) c.put_letter.ensures

pub returns-in-Wait : goal.returns-in-Wait
unfolding item_text last_text text
returns-in-Wait c = written_as (shown c.in-Wait.is) c.put_lettered-in-Wait.ensures
