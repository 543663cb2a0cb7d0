-- `free` writes the word of free ends with the end, and zeros where its partner, its count and its first cell stand. Assumes nothing.
use Rattle.ends.proofs.Changes.{free_written}
use Rattle.ends.proofs.change.free.Goals as goal

pub returns : goal.returns
returns c st z laid no-data =
    let a = c.args in
    let word = c.freed-word.ensures st z (c.free_word.ensures st z laid) in
    free_written st z a.end.0 c.requires.1 laid no-data c.freed-word.result word
    c.put_word.ensures c.put_partner.ensures c.put_count.ensures
    c.put_cell.ensures
