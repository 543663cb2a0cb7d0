-- `full` is one case of the definition for each name. Assumes nothing.
use Rattle.std.proofs.Common.{sym, ap, ◌∙◌}
use Rattle.commands.specs.declared.Name.{Name}
use Rattle.commands.specs.Asked.{full_asked}
use Rattle.commands.proofs.full.Goals as goal

pub returns-in-Load-clause-is : goal.returns-in-Load-clause-is
unfolding full_asked
returns-in-Load-clause-is c = c.with_bytes.ensures.is ∙ ap (λ (n : Name). full_asked n c.args.words.now) (sym c.in-Load.is)

pub returns-in-Write-clause-is : goal.returns-in-Write-clause-is
unfolding full_asked
returns-in-Write-clause-is c = c.with_bytes-in-Write.ensures.is ∙ ap (λ (n : Name). full_asked n c.args.words.now) (sym c.in-Write.is)

pub returns-in-Record-clause-is : goal.returns-in-Record-clause-is
unfolding full_asked
returns-in-Record-clause-is c = c.with_number.ensures.is c.args.bytes.now
    ∙ ap (λ (n : Name). full_asked n c.args.words.now) (sym c.in-Record.is)

pub returns-in-End-clause-is : goal.returns-in-End-clause-is
unfolding full_asked
returns-in-End-clause-is c = c.with_number-in-End.ensures.is c.args.bytes.now
    ∙ ap (λ (n : Name). full_asked n c.args.words.now) (sym c.in-End.is)

pub returns-in-Run-clause-is : goal.returns-in-Run-clause-is
unfolding full_asked
returns-in-Run-clause-is c = c.with_numbers.ensures.is c.args.bytes.now ∙ ap (λ (n : Name). full_asked n c.args.words.now) (sym c.in-Run.is)

pub returns-in-Peek-clause-is : goal.returns-in-Peek-clause-is
unfolding full_asked
returns-in-Peek-clause-is c = c.with_numbers-in-Peek.ensures.is c.args.bytes.now
    ∙ ap (λ (n : Name). full_asked n c.args.words.now) (sym c.in-Peek.is)
