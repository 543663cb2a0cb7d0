-- `data_byte` is byte `at` of the head and the code, or 0 behind them. Assumes nothing.
use Rattle.std.proofs.Common.{◌≡◌, sym, ap, ◌∙◌, List, ℕ, ◌+◌, ◌-◌, ◌≤◌, arith, get_or}
use lib.ListN.{get_or-eq_default}
use Rattle.rules.specs.Image.{head_size, headed}
use Rattle.image.proofs.Writes.{behind_head}
use Rattle.image.proofs.writing.data_byte.Goals as goal

-- byte `at` of the data, where `at` is known or is behind the head
at_known : (code : List ℕ) (at k : ℕ) → at ≡ k → get_or (headed code) k 0 ≡ get_or (headed code) at 0
at_known code at k e = ap (λ (i : ℕ). get_or (headed code) i 0) (sym e)

at_code : (code : List ℕ) (at : ℕ) → head_size ≤ at → get_or code (at - head_size) 0 ≡ get_or (headed code) at 0
at_code code at h = sym (behind_head code (at - head_size)) ∙ at_known code at (head_size + (at - head_size)) (omega arith)

pub returns-then-at-eq0 : goal.returns-then-at-eq0
unfolding headed
returns-then-at-eq0 c = let a = c.args in at_known a.code.now a.at 0 c.if-at-eq0.true

pub returns-then-at-eq1 : goal.returns-then-at-eq1
unfolding headed
returns-then-at-eq1 c = let a = c.args in at_known a.code.now a.at 1 c.if-at-eq1.true

pub returns-then-at-eq2 : goal.returns-then-at-eq2
unfolding headed
returns-then-at-eq2 c = let a = c.args in at_known a.code.now a.at 2 c.if-at-eq2.true

pub returns-then-at-eq3 : goal.returns-then-at-eq3
unfolding headed
returns-then-at-eq3 c = let a = c.args in at_known a.code.now a.at 3 c.if-at-eq3.true

pub returns-then-i-code : goal.returns-then-i-code
returns-then-i-code c =
    let a = c.args in
    at_code a.code.now a.at (omega arith)

pub returns : goal.returns
returns c =
    let a = c.args in
    sym (get_or-eq_default a.code.now 0 c.if-i-code.false) ∙ at_code a.code.now a.at (omega arith)
