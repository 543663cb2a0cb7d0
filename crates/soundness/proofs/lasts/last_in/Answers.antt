-- `last_in` goes by the cell's kind. Assumes nothing.
use Rattle.std.proofs.Common.{arith}
use Rattle.soundness.proofs.Finals.{split_ends_is, says_split, says_close, wait_record, says_wait, says_nothing}
use Rattle.soundness.proofs.lasts.last_in.Goals as goal

pub narrow-requires-in-3 : goal.narrow-requires-in-3
narrow-requires-in-3 c = omega (arith, (split_ends_is c.args.cell c.requires c.in-3.is).1)

pub narrow-requires-in-5 : goal.narrow-requires-in-5
narrow-requires-in-5 c = omega (arith, wait_record c.args.cell c.requires c.in-5.is)

pub returns-in-3 : goal.returns-in-3
returns-in-3 c =
    let told = says_split c.args.cell c.requires c.in-3.is c.narrow.ensures c.narrow-in-3.ensures in
    record {
      is = told.0;
      within = told.1;
    }

pub returns-in-4 : goal.returns-in-4
returns-in-4 c =
    let told = says_close c.args.cell c.requires c.in-4.is in
    record {
      is = told.0;
      within = told.1;
    }

pub returns-in-5 : goal.returns-in-5
returns-in-5 c =
    let told = says_wait c.args.cell c.requires c.in-5.is c.narrow-in-5.ensures in
    record {
      is = told.0;
      within = told.1;
    }

pub returns-in_default : goal.returns-in_default
returns-in_default c =
    let r = c.in_default.in_default-own.rest in
    let told = says_nothing c.args.cell c.requires r.0.0.1 r.0.1 r.1 in
    record {
      is = told.0;
      within = told.1;
    }
