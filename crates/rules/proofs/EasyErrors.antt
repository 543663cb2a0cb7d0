-- Document 01, "Easy errors here": for each a fact, computed from the definitions, that the error would change. `easy_errors` is the
-- list with one statement; the edits in must-fail/ make each error and are refused here. Assumes nothing.
use mathlib.Core.Path.{◌≡◌, refl}
use Prim.Native.Nat.{ℕ}
use mathlib.Core.List.{List, [], ◌∷◌, ◌++◌, map}
use lib.ListN.{replicate}
use lib.IntN.{ℤ, pos}
use Rattle.rules.specs.State.{State, Datum, value, handle, end_at, data_of, slot_at}
use Rattle.rules.specs.RecordStep.{partner_in}
use Rattle.rules.specs.SoundTest.{sound_test}
use Rattle.rules.specs.Count.{one_if}
use Rattle.rules.specs.Events.{events, new_history, history}
use Rattle.rules.specs.Layout.{optional}
use Rattle.rules.specs.Image.{any_check_wrong}
use Rattle.rules.proofs.Computing.{computing}
use Rattle.rules.proofs.SmallFacts.{asked, state_after, number_after, registers_after, end, plug_to, cst_bytes, put_bytes, get_bytes}
use Rattle.rules.proofs.SmallFacts.{hput_bytes, same_bytes, Fact, fact, found_in, said_in}

abbrev number_in : Datum → ℤ
number_in (value v) = v
number_in (handle n) = pos n

-- ---- same

-- records 1 and 2 put 5 and 7, each on its own channel to record 0, which then makes their ends partners
abbrev pub joining : List ℕ
joining =
    plug_to 19
    ++ (0x14 ∷ 1 ∷ 1 ∷ 0 ∷ 16 ∷ 0 ∷ 0 ∷ 26 ∷ [])
    ++ same_bytes 0 1
    ++ cst_bytes 5
    ++ put_bytes
    ++ cst_bytes 7
    ++ (0x10 ∷ 1 ∷ [])

abbrev pub joined_after : State
joined_after = state_after joining (0 ∷ 0 ∷ 1 ∷ 1 ∷ 2 ∷ 2 ∷ 0 ∷ [])

-- at same nothing is poured into the other queue: 5 and 7 stay where they were put
abbrev pub not_poured : Fact
not_poured = record {
  found = map number_in (data_of (end_at joined_after 1) ++ data_of (end_at joined_after 3));
  said = pos 5 ∷ pos 7 ∷ [];
}

-- 2k and 2k + 1 are not partners for ever: after same ends 1 and 3 are
abbrev pub new_partners : Fact
new_partners = fact (partner_in joined_after 1 ∷ partner_in joined_after 3 ∷ []) (3 ∷ 1 ∷ [])

-- ---- plug

-- the branch that does not keep slot 0 does not hold it, and the state is sound
abbrev pub shared_out : Fact
shared_out =
    fact
    (optional (slot_at (registers_after joining (0 ∷ 0 ∷ []) 0) 0)
    ∷ optional (slot_at (registers_after joining (0 ∷ 0 ∷ []) 2) 0)
    ∷ one_if (sound_test (state_after joining (0 ∷ 0 ∷ [])))
    ∷ []) (1 ∷ 0 ∷ 1 ∷ [])

-- ---- a get takes the head and nothing behind it

-- a handle stands before the value
abbrev pub behind_the_head : Fact
behind_the_head =
    fact (number_after (plug_to 18 ++ hput_bytes 9 ++ cst_bytes 4 ++ put_bytes ++ get_bytes) (0 ∷ 0 ∷ 0 ∷ 0 ∷ 1 ∷ []) (end 0) ∷ [])
    (18 ∷ [])

-- ---- a put is an event

abbrev pub put_is_noted : Fact
put_is_noted = record {
  found = map number_in (history 0 new_history (events (state_after (plug_to 0 ++ cst_bytes 4 ++ put_bytes) (0 ∷ 0 ∷ [])) 0)).put_so_far;
  said = pos 4 ∷ [];
}

-- ---- checks are compared exactly

-- data all zero: FF FF is right, 00 00 is not
abbrev pub exact_check : Fact
exact_check =
    fact (one_if (any_check_wrong 1 (replicate 510 0 ++ (0xFF ∷ 0xFF ∷ []))) ∷ one_if (any_check_wrong 1 (replicate 510 0 ++ (0 ∷ 0 ∷ [])))
    ∷ []) (0 ∷ 1 ∷ [])

abbrev pub errors : List Fact
errors = not_poured ∷ new_partners ∷ shared_out ∷ behind_the_head ∷ put_is_noted ∷ exact_check ∷ []

pub easy_errors : map found_in errors ≡ map said_in errors
unfolding computing asked
easy_errors = refl
