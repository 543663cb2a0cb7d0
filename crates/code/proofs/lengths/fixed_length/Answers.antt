-- `code::lengths::fixed_length` meets its contract: one law carries the agreement of the whole table to each of its rows. Assumes nothing.
use Rattle.std.proofs.Common.{◌≡◌, ap, ◌∙◌, List, ℕ, ◌<◌, rules, get_or}
use Rattle.rules.specs.Instruction.{lengths, size_of, form_of}
use Rattle.code.proofs.Tables.{get_d_table}
use Rattle.code.proofs.lengths.fixed_length.Goals as goal

row : (b : ℕ) → b < 256 → get_or lengths b 0 ≡ size_of (form_of b)
unfolding lengths
row b h = get_d_table 256 (λ (k : ℕ). size_of (form_of k)) b 0 h

pub returns : goal.returns
returns c = ap (λ (t : List ℕ). get_or t c.args.first 0) c.length_table.ensures ∙ row c.args.first (search rules)
