-- What is decoded at the place says what is wanted there. Assumes nothing.
use Rattle.rules.specs.Layout.{view}
use Rattle.stepping.proofs.Decoding.{decoded_good, next_small}
use Rattle.meetings.proofs.wanted.wanted_at.Goals as goal

pub overflow_cast-decoded : goal.overflow_cast-decoded
overflow_cast-decoded c =
    let m = c.args.m.now in
    let told = c.in_ok-decoded.was in
    let good = decoded_good (view m).code _ _ _ c.code.ensures c.decode.ensures told in
    record { fits = next_small m c.requires _ _ good }
