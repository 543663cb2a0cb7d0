-- How long a line of the printing program can be. Assumes nothing.
use mathlib.Core.Path.{ap}
use mathlib.Core.List.{[], ◌∷◌, ◌++◌}
use mathlib.Core.Option.{some}
use Prim.Native.Nat.{ℕ, ◌-◌, ◌≤◌, ◌<◌}
use native.Mathlib.Decide.{dec_lt}
use native.Mathlib.Omega.{arith}
use lib.ListN.{length, length-append}
use lib.IntN.{ℤ}
use mir.Syntax.{w32}
use mir.Val.{SFits}
use Rattle.rules.specs.Limits.{record_count, position_count}
use Rattle.rules.specs.Text.{text, decimal}
use Rattle.rules.specs.Instruction.{Name, cst_name, access_name, store_name, add_name, mul_name, leq_name, put_name, get_name, split_name}
use Rattle.rules.specs.Instruction.{fork_name, plug_name, close_name, halt_name, same_name, hput_name, hcase_name, run_name}
use Rattle.rules.specs.Printed.{Kind, instruction_kind, value_kind, handle_kind, split_kind, close_kind, Printed}
use Rattle.rules.specs.Printed.{name_text, kind_text, position_text, line_text, verdict_text}
use Rattle.text.proofs.Shortness.{decimal_short, signed_short}
use Rattle.runner.specs.declared.verdict.Verdict.{Verdict}
use Rattle.runner.specs.declared.verdict.Verdict.TheVariants.{Spent, Finished, Stuck}
use Rattle.printed.specs.Meaning.{verdict_in, last_line}
use Rattle.printed.specs.Traced.{line_limit, last_limit}
use Rattle.printed.proofs.LineBytes.{record_text, end_text, from_position, from_kind, line_text_lem}
use Rattle.printed.proofs.LineBytes.{from_steps, from_next, last_text_lem, refused_word, refused_text}

-- ---- the parts of a line

name_short : (name : Name) → length (name_text name) ≤ 6
unfolding name_text text
name_short cst_name = omega arith
name_short access_name = omega arith
name_short store_name = omega arith
name_short add_name = omega arith
name_short mul_name = omega arith
name_short leq_name = omega arith
name_short put_name = omega arith
name_short get_name = omega arith
name_short split_name = omega arith
name_short fork_name = omega arith
name_short plug_name = omega arith
name_short close_name = omega arith
name_short halt_name = omega arith
name_short same_name = omega arith
name_short hput_name = omega arith
name_short hcase_name = omega arith
name_short run_name = omega arith

kind_short : (k : Kind) (z : ℤ) → SFits w32 z → length (kind_text k z) ≤ 18
unfolding kind_text text
kind_short (instruction_kind name) z f = omega (arith, name_short name)
kind_short value_kind z f = omega (arith, signed_short z f)
kind_short handle_kind z f = omega (arith, signed_short z f)
kind_short split_kind z f = omega arith
kind_short close_kind z f = omega arith

position_short : (p : ℕ) → p < position_count → length (position_text p) ≤ 3
position_short p h = go (dec_lt p record_count)
  where
    go : Dec (p < record_count) → length (position_text p) ≤ 3
    go (yes l) = omega (arith, ap length (record_text p l), decimal_short 1 p (omega arith))
    go (no l) = omega (arith, ap length (end_text p (omega arith)), decimal_short 1 (p - record_count) (omega arith))

-- ---- a line, and the last one

pub line_short : (number : ℕ) (x : Printed) → number < 100000 → x.position < position_count → SFits w32 x.number
    → length (line_text number (some x)) ≤ line_limit
line_short number x n p f =
    omega (
      arith,
      ap length (line_text_lem number x),
      length-append (decimal number) ((32 ∷ []) ++ from_position x),
      length-append (position_text x.position) ((32 ∷ []) ++ from_kind x),
      length-append (kind_text x.kind x.number) (10 ∷ []),
      decimal_short 4 number n,
      position_short x.position p,
      kind_short x.kind x.number f,
    )

verdict_short : (v : Verdict) → length (verdict_text (verdict_in v)) ≤ 8
unfolding verdict_text text
verdict_short Spent = omega arith
verdict_short Finished = omega arith
verdict_short Stuck = omega arith

pub last_short : (v : Verdict) (made next : ℕ) → made < 100000 → next < position_count → length (last_line v made next) ≤ last_limit
last_short v made next n p =
    omega (
      arith,
      ap length (last_text_lem v made next),
      length-append (verdict_text (verdict_in v)) ((32 ∷ []) ++ from_steps made next),
      length-append (decimal made) ((32 ∷ []) ++ from_next next),
      length-append (decimal next) (10 ∷ []),
      verdict_short v,
      decimal_short 4 made n,
      decimal_short 1 next (omega arith),
    )

pub refused_short : (n : ℕ) → n < 1000 → length (text "refused " ++ decimal n ++ text "\n") ≤ last_limit
refused_short n h =
    let parts = length-append refused_word (decimal n ++ 10 ∷ []) in
    omega (arith, ap length (refused_text n), parts, length-append (decimal n) (10 ∷ []), decimal_short 2 n h)
