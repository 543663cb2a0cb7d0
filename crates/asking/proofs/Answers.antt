-- The cases of asking a record over plain variables: which status and which decoding leads to which answer. Assumes nothing.
use mathlib.Core.Path.{◌≡◌, refl}
use mathlib.Core.Option.{none, some}
use Prim.Native.Nat.{ℕ, ◌-◌, ◌≤◌, ◌<◌}
use native.Mathlib.Omega.{arith}
use lib.ListN.{get_or-eq_default}
use borrow.Author.Tests.{lt-ltb, le-ltb}
use Rattle.rules.specs.Limits.{record_count}
use Rattle.rules.specs.State.{State, Registers, RecordState, free_record, running, waiting, record_at}
use Rattle.rules.specs.Refusal.{refused}
use Rattle.rules.specs.Instruction.{Instruction, decode}
use Rattle.rules.specs.Ask.{answer_to, ask_record, ask_end, ask}
use Rattle.rules.specs.Sound.{Sound}
use Rattle.registers.specs.declared.records.Status.TheVariants.{Free, Waiting}
use Rattle.registers.specs.Registers.{status_of}

-- ---- a record that runs

module _ (st : State) (r : ℕ) (g : Registers) (is : record_at st r ≡ running g) where
  pub no_instruction : decode st.code g.place ≡ none → ask_record st r ≡ refused 4
  unfolding ask_record
  no_instruction e = rw (is, e)

  pub an_instruction : (i : Instruction) (next : ℕ) → decode st.code g.place ≡ some (record { instruction = i; next = next })
      → ask_record st r ≡ answer_to st r next g i
  unfolding ask_record
  an_instruction i next e = rw (is, e)

-- ---- any record

pub over : (st : State) → Sound st → (r : ℕ) → record_count ≤ r → ask_record st r ≡ refused 2
unfolding ask_record
over st s r h = rw (get_or-eq_default st.records free_record {n = r} (omega (arith, h, s.S1.record_count_is)))

pub free : (st : State) (r : ℕ) → Free ≡ status_of (record_at st r) → ask_record st r ≡ refused 2
unfolding ask_record
free st r e = go (record_at st r) refl e
  where
    go : (x : RecordState) → record_at st r ≡ x → Free ≡ status_of x → ask_record st r ≡ refused 2
    go free_record q z = rw q
    go (running g) q z = absurd cc
    go (waiting g) q z = absurd cc

pub waits : (st : State) (r : ℕ) → Waiting ≡ status_of (record_at st r) → ask_record st r ≡ refused 3
unfolding ask_record
waits st r e = go (record_at st r) refl e
  where
    go : (x : RecordState) → record_at st r ≡ x → Waiting ≡ status_of x → ask_record st r ≡ refused 3
    go free_record q z = absurd cc
    go (running g) q z = absurd cc
    go (waiting g) q z = rw q

-- ---- a position

pub of_a_record : (st : State) (p : ℕ) → p < record_count → ask st p ≡ ask_record st p
unfolding ask
of_a_record st p h = rw (lt-ltb p record_count h)

pub of_an_end : (st : State) (p : ℕ) → record_count ≤ p → ask st p ≡ ask_end st (p - record_count)
unfolding ask
of_an_end st p h = rw (le-ltb p record_count h)
