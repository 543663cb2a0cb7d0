-- The number, and the image where there is one. Assumes nothing.
use Rattle.std.proofs.Common.{◌≡◌, refl, sym, ap, ◌∙◌, List, ℕ, arith, length, take, length-append, length-take-le}
use Rattle.rules.specs.Image.{image_of}
use Rattle.rules.specs.Calls.{write_answer}
use Rattle.rules.specs.Text.{text}
use Rattle.text.proofs.Texts.{written_more, written_as, printed_length}
use Rattle.answers.specs.Answers.{number_line, hex_line, image_room, write_answered}
use Rattle.answers.proofs.Cases.{write_refused, Written-image, image_done}
use Rattle.answers.proofs.requests.write.Goals as goal
use Rattle.answers.proofs.requests.write.Goals.{After-image_size-size, In-Ok}

-- it is done: the image stands in front of the room
done : (c : In-Ok)
    → Written-image c.args.code.now c.write.new.out
unfolding image_room
done c =
    let code = c.args.code.now in
    image_done code _ refl c.in-Ok.ensures.reply c.in-Ok.ensures.memory

pub put_number_line-requires : goal.put_number_line-requires
unfolding text
put_number_line-requires c =
    let code = c.args.code.now in
    let e = ap length (done (goal.at.put_number_line-requires c).In-Ok).text_is in
    omega (arith, e, length-append (number_line (text "write ") 0) (hex_line (image_of code)), c.requires)

pub image_size-size-requires : goal.image_size-size-requires
image_size-size-requires c = (done (goal.at.image_size-size-requires c).In-Ok).short

pub slice_bounds-image-end : goal.slice_bounds-image-end
slice_bounds-image-end c =
    let is = done (goal.at.slice_bounds-image-end c).In-Ok in
    omega (arith, c.image_size-size.ensures, is.long)

pub slice_bounds-put_hex_line-end : goal.slice_bounds-put_hex_line-end
slice_bounds-put_hex_line-end c =
    let is = done (goal.at.slice_bounds-put_hex_line-end c).In-Ok in
    sym (length-take-le c.image_size-size.result c.write.new.out
    (omega (arith, c.image_size-size.ensures, is.long)))

-- the part that is printed
front : (c : After-image_size-size) (done_here : Written-image c.args.code.now c.write.new.out)
    → take c.image_size-size.result c.write.new.out ≡ image_of c.args.code.now
front c done_here =
    let image = c.write.new.out in
    ap (λ (k : ℕ). take k image) c.image_size-size.ensures ∙ done_here.front_is

pub put_hex_line-requires : goal.put_hex_line-requires
unfolding text
put_hex_line-requires c =
    let code = c.args.code.now in
    let e = ap length (done (goal.at.put_hex_line-requires c).In-Ok).text_is in
    let parts = length-append (number_line (text "write ") 0) (hex_line (image_of code)) in
    let f = ap (λ (bytes : List ℕ). length (hex_line bytes)) (front (goal.at.put_hex_line-requires c).After-image_size-size
    (done (goal.at.put_hex_line-requires c).In-Ok)) in
    omega (arith, e, parts, f, c.requires, c.put_number_line.ensures.place, printed_length c.put_number_line.ensures)

pub put_refusal_line-requires : goal.put_refusal_line-requires
unfolding image_room write_answered text
put_refusal_line-requires c =
    let code = c.args.code.now in
    let e = ap length (write_refused code (write_answer code image_room) _ c.in-Err.ensures.reply) in
    omega (arith, e, c.requires)

pub returns-in-Ok : goal.returns-in-Ok
unfolding text
returns-in-Ok c =
    let hex = written_as (ap (λ (bytes : List ℕ). hex_line bytes) (front (goal.at.returns-in-Ok c).After-image_size-size
    (done (goal.at.returns-in-Ok c).In-Ok))) c.put_hex_line.ensures in
    written_as (done (goal.at.returns-in-Ok c).In-Ok).text_is (written_more c.put_number_line.ensures hex)

pub returns-in-Err : goal.returns-in-Err
unfolding image_room write_answered text
returns-in-Err c =
    let code = c.args.code.now in
    written_as (write_refused code (write_answer code image_room) _ c.in-Err.ensures.reply) c.put_refusal_line.ensures
