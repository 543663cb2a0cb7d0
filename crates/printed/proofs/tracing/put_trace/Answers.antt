-- A refused image, or the run. Assumes nothing.
use Rattle.std.proofs.Common.{◌≡◌, refl, sym, ap, ◌<◌, arith, w8, Fits, rules}
use Rattle.rules.specs.Refusal.{refused}
use Rattle.rules.specs.Run.{steps}
use Rattle.rules.specs.Printed.{trace_budget, run_text, trace_text}
use Rattle.rules.specs.Layout.{view}
use Rattle.keeping.specs.Demand3.{SoundMemory}
use Rattle.text.proofs.Texts.{written_as}
use Rattle.printed.proofs.Lengths.{refused_short}
use Rattle.printed.proofs.Whole.{refused_image, loaded_image}
use Rattle.printed.proofs.tracing.put_trace.Goals as goal
use Rattle.printed.proofs.tracing.put_trace.Goals.{After-number, In-Ok}

-- a number has one byte
number_small : (c : After-number) → c.number.result < 1000
number_small c = let f : Fits w8 c.number.result = search rules in omega (arith, f.fits)

pub put_refused-requires : goal.put_refused-requires
put_refused-requires c = omega (arith, refused_short c.number.result (number_small c), c.requires)

-- the memory is sound, and its run has the text of the image
loaded : (c : In-Ok)
    → let m = c.load.new.state in
    SoundMemory m
    × (run_text (view m) (steps trace_budget (view m) 0) ≡ trace_text c.args.image.now)
loaded c =
    loaded_image _ c.args.image.now refl c.in-Ok.ensures (λ i. (c.shared_slice_known-1.given i).fits) refl

pub put_run-requires : goal.put_run-requires
put_run-requires c = ((loaded (goal.at.put_run-requires c).In-Ok).0, c.requires)

pub returns-in-Err : goal.returns-in-Err
returns-in-Err c =
    let short = refused_short c.number.result (number_small (goal.at.returns-in-Err c).After-number) in record {
      is = written_as (refused_image _ c.args.image.now refl c.in-Err.ensures _ (ap refused (sym c.number.ensures))) c.put_refused.ensures;
      within = omega (arith, c.put_refused.ensures.place, short);
    }

pub returns-in-Ok : goal.returns-in-Ok
returns-in-Ok c =
    record {
      is = written_as (loaded (goal.at.returns-in-Ok c).In-Ok).1 c.put_run.ensures.is;
      within = c.put_run.ensures.within;
    }
