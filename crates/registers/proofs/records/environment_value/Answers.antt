-- `environment_value` reads the value where it stands. Assumes nothing.
use Rattle.std.proofs.Common.{◌≡◌, ap, ◌∙◌, ℕ, ◌+◌, ◌*◌, ◌≤◌, ◌<◌, arith, pos, w32, to_z, to_z-of_z, rules}
use Rattle.rules.specs.Limits.{environment_depth}
use Rattle.rules.specs.Bytes.{number_at}
use Rattle.rules.specs.State.{record_at}
use Rattle.rules.specs.Layout.{value_size, record_size}
use Rattle.rules.specs.Numbers.{record_number}
use Rattle.words.proofs.Pads.{get_d_pad}
use Rattle.registers.specs.Registers.{status_of, status_byte, registers_in}
use Rattle.registers.proofs.RecordLaws.{environment_from, registers_within_lem, record_read, environment_read}
use Rattle.registers.proofs.records.environment_value.Goals as goal

pub returns : goal.returns
returns c st z w e =
    let n = c.args.n in
    let small : n < environment_depth = c.requires.n_lt_environment_depth in
    let r = record_number c.args.r in
    let x = record_at st r in
    let g = registers_in x in
    let p = c.start_of.ensures in
    let fits : environment_from + value_size * n + value_size ≤ record_size = omega arith in
    let at = c.start_of.result in
    let together : at + environment_from + value_size * n ≡ at + (environment_from + value_size * n) = omega arith in
    to_z-of_z {w = w32} (search rules)
    ∙ c.get_signed.ensures
    ∙ ap (λ (k : ℕ). to_z w32 (number_at value_size c.args.m.now k)) together
    ∙ ap (to_z w32) (record_read st z r c.requires.m_len.1 e p value_size (environment_from + value_size * n) fits)
    ∙ environment_read (status_byte (status_of x)) g (registers_within_lem x w) n small
    ∙ get_d_pad environment_depth (pos 0) g.environment n small
