-- `lowest_free_record` looks at one record after the other: the first number whose record is free, taken for that record. Assumes nothing.
use Rattle.std.proofs.Common.{◌≡◌, ℕ, true, false, rules}
use Rattle.std.proofs.lemmas.Iterator.{first_from_Range}
use borrow.Author.Tests.{tests}
use Rattle.rules.specs.State.{record_at, is_free_record}
use Rattle.registers.proofs.FreeRecords.{lowest_found}
use Rattle.registers.proofs.records.lowest_free_record.Goals as goal

pub returns-clause-lowest : goal.returns-clause-lowest
returns-clause-lowest c st z e =
    let free = λ (k : ℕ). is_free_record (record_at st k) in
    lowest_found st z (λ i r h. search rules) c.find.result c.map.result
    (first_from_Range _ _ _ _ (λ k. free k ≡ true) (λ k. free k ≡ false) c.find.ensures.ran (λ k q h. search (rules, tests))
    (λ k q h. search (rules, tests)))
    c.map.ensures.cases
