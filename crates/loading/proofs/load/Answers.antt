-- load: 24, what the reader says, or the start state with the image's code. Assumes nothing.
use Rattle.std.proofs.Common.{sym, ap, ◌∙◌, arith}
use Rattle.rules.specs.Numbers.{answer_of}
use Rattle.rules.proofs.Promises.{handed_on}
use Rattle.image.proofs.Answers.{found_code, found_refused}
use Rattle.loading.proofs.Loads.{code_long, length_wrong, image_refused, image_loaded}
use Rattle.loading.proofs.load.Goals as goal

pub returns-then-state-ne-STATE_SIZE : goal.returns-then-state-ne-STATE_SIZE
returns-then-state-ne-STATE_SIZE c =
    let a = c.args in
    length_wrong a.state.now a.image.now (λ e. absurd (omega (arith, e, c.if-state-ne-STATE_SIZE.true)))

pub returns-in_err-length : goal.returns-in_err-length
returns-in_err-length c =
    let a = c.args in
    rw (handed_on c.from_residual.result c.in_err-length.field-0.0 c.from_residual.ensures.1)
    (image_refused a.state.now a.image.now _ c.if-state-ne-STATE_SIZE.false (found_refused a.image.now _ c.in_err-length.ensures))

pub install-requires : goal.install-requires
install-requires c =
    let image = c.args.image.now in
    let found = found_code image _ c.in_ok-length.ensures in
    record {
      image_reads = (c.if-state-ne-STATE_SIZE.false, found.0);
      length_right = (found.1, omega (arith, found.1, (code_long image found.0).1));
    }

pub returns : goal.returns
returns c =
    let a = c.args in
    let found = found_code a.image.now _ c.in_ok-length.ensures in
    image_loaded a.state.now a.image.now _ c.if-state-ne-STATE_SIZE.false found.0 c.install.ensures
