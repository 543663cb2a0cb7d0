-- Document 01, "Small facts, all proved together": what the definitions find in each of the twelve, and what the document says, as one list
-- with one statement, `small_facts`. Each fact is some code, asked position by position from the start state. Assumes nothing.
use mathlib.Core.Path.{◌≡◌, refl}
use Prim.Native.Nat.{ℕ, ◌+◌}
use mathlib.Core.List.{List, [], ◌∷◌, ◌++◌, map}
use lib.ListN.{length, get_or, replicate}
use lib.IntN.{ℤ, pos}
use Rattle.rules.specs.Limits.{record_count}
use Rattle.rules.specs.State.{State, Registers, RecordState, free_record, running, waiting, record_at, end_in, start, free_ends}
use Rattle.rules.specs.Refusal.{Answer, refused, done, number_of}
use Rattle.rules.specs.Layout.{no_registers}
use Rattle.rules.specs.Ask.{ask}
use Rattle.rules.proofs.Computing.{computing}

-- ---- asking and looking

-- the position of end e
abbrev pub end : ℕ → ℕ
end e = record_count + e

abbrev state_or : State → Answer State → State
state_or st (refused n) = st
state_or st (done st') = st'

-- the state after these positions were asked, one after the other
unfoldable pub asked : State → List ℕ → State
asked st [] = st
asked st (p ∷ ps) = asked (state_or st (ask st p)) ps

abbrev pub state_after : (code asks : List ℕ) → State
state_after code asks = asked (start code) asks

-- the number that position p then gets
abbrev pub number_after : (code asks : List ℕ) → ℕ → ℕ
number_after code asks p = number_of (ask (state_after code asks) p)

abbrev registers_in : RecordState → Registers
registers_in free_record = no_registers
registers_in (running g) = g
registers_in (waiting g) = g

-- the registers that record r then has
abbrev pub registers_after : (code asks : List ℕ) → ℕ → Registers
registers_after code asks r = registers_in (record_at (state_after code asks) r)

-- ---- code

-- a channel between two branches that keep nothing, its ends in slot 0; the first goes on behind, the second at the place given
abbrev pub plug_to : (place : ℕ) → List ℕ
plug_to place = 0x14 ∷ 0 ∷ 0 ∷ 0 ∷ 8 ∷ 0 ∷ 0 ∷ place ∷ []

-- the instructions cst n, put 0, get 0, halt 0, hput 0 n and same c d
abbrev pub cst_bytes : ℕ → List ℕ
cst_bytes n = 0x01 ∷ 0 ∷ 0 ∷ 0 ∷ n ∷ []

abbrev pub put_bytes : List ℕ
put_bytes = 0x10 ∷ 0 ∷ []

abbrev pub get_bytes : List ℕ
get_bytes = 0x11 ∷ 0 ∷ []

abbrev pub halt_bytes : List ℕ
halt_bytes = 0x16 ∷ 0 ∷ []

abbrev pub hput_bytes : ℕ → List ℕ
hput_bytes n = 0x18 ∷ 0 ∷ n ∷ []

abbrev pub same_bytes : ℕ → ℕ → List ℕ
same_bytes c d = 0x17 ∷ c ∷ d ∷ []

-- ---- the facts: what is found, and what the document says

pub record Fact : Type 0 where
  pub found : List ℤ
  pub said : List ℤ

abbrev pub fact : List ℕ → List ℕ → Fact
fact found said = record { found = map pos found; said = map pos said }

-- (1) plug at the start gives records 0 and 1 the ends 0 and 1
abbrev pub fact_1 : Fact
fact_1 = fact (end_in (registers_after (plug_to 8) (0 ∷ []) 0) 0 ∷ end_in (registers_after (plug_to 8) (0 ∷ []) 1) 0 ∷ []) (0 ∷ 1 ∷ [])

-- (2) the eighth put is done, the ninth gets 13
abbrev pub nine_puts : List ℕ
nine_puts =
    plug_to 0
    ++ cst_bytes 1 ++ cst_bytes 2 ++ cst_bytes 3 ++ cst_bytes 4 ++ cst_bytes 5 ++ cst_bytes 6 ++ cst_bytes 7 ++ cst_bytes 8 ++ cst_bytes 9
    ++ put_bytes ++ put_bytes ++ put_bytes ++ put_bytes ++ put_bytes ++ put_bytes ++ put_bytes ++ put_bytes ++ put_bytes

abbrev pub fact_2 : Fact
fact_2 = fact (number_after nine_puts (replicate 17 0) 0 ∷ number_after nine_puts (replicate 18 0) 0 ∷ []) (0 ∷ 13 ∷ [])

-- (3) a waiting record gets 3
abbrev pub fact_3 : Fact
fact_3 = fact (number_after (plug_to 8 ++ get_bytes) (0 ∷ 1 ∷ []) 1 ∷ []) (3 ∷ [])

-- (4) value 4 meets a get: it is done, and 4 is on the stack of the record that waited
abbrev pub value_and_get : List ℕ
value_and_get = plug_to 15 ++ cst_bytes 4 ++ put_bytes ++ get_bytes

abbrev pub fact_4 : Fact
fact_4 = record {
  found = pos (number_after value_and_get (0 ∷ 0 ∷ 0 ∷ 1 ∷ []) (end 0)) ∷
      (registers_after value_and_get (0 ∷ 0 ∷ 0 ∷ 1 ∷ end 0 ∷ []) 1).stack;
  said = pos 0 ∷ pos 4 ∷ [];
}

-- (5) heads 5 and 7 get 18
abbrev pub fact_5 : Fact
fact_5 =
    fact (number_after (plug_to 15 ++ cst_bytes 5 ++ put_bytes ++ cst_bytes 7 ++ put_bytes) (0 ∷ 0 ∷ 0 ∷ 1 ∷ 1 ∷ []) (end 0) ∷ []) (18 ∷ [])

-- (6) same with an unread own value gets 14: a second channel in slot 1, then a value on the first
abbrev pub unread : List ℕ
unread = plug_to 0 ++ (0x14 ∷ 1 ∷ 1 ∷ 0 ∷ 16 ∷ 0 ∷ 0 ∷ 0 ∷ []) ++ cst_bytes 5 ++ put_bytes ++ same_bytes 0 1

abbrev pub fact_6 : Fact
fact_6 = fact (number_after unread (0 ∷ 0 ∷ 0 ∷ 0 ∷ []) 0 ∷ []) (14 ∷ [])

-- (7) same 0 0, only slot 0 held, gets 12
abbrev pub fact_7 : Fact
fact_7 = fact (number_after (plug_to 0 ++ same_bytes 0 0) (0 ∷ []) 0 ∷ []) (12 ∷ [])

-- (8) plug with one slot in both m gets 10
abbrev pub fact_8 : Fact
fact_8 = fact (number_after (plug_to 0 ++ (0x14 ∷ 1 ∷ 1 ∷ 0 ∷ 0 ∷ 1 ∷ 0 ∷ 0 ∷ [])) (0 ∷ []) 0 ∷ []) (10 ∷ [])

-- (9) two closes free two ends: how many are free before and after
abbrev pub fact_9 : Fact
fact_9 =
    fact
    (length (free_ends (state_after (plug_to 8 ++ halt_bytes) (0 ∷ 0 ∷ 1 ∷ [])))
    ∷ length (free_ends (state_after (plug_to 8 ++ halt_bytes) (0 ∷ 0 ∷ 1 ∷ end 0 ∷ [])))
    ∷ []) (62 ∷ 64 ∷ [])

-- (10) 2,147,483,647 + 1 gets 9
abbrev pub fact_10 : Fact
fact_10 = fact (number_after ((0x01 ∷ 0x7F ∷ 0xFF ∷ 0xFF ∷ 0xFF ∷ []) ++ cst_bytes 1 ++ (0x04 ∷ [])) (0 ∷ 0 ∷ []) 0 ∷ []) (9 ∷ [])

-- (11) handle 2 against k = 2 gets 18, handle 1 runs at the second place
abbrev pub choice_of : (handle : ℕ) → List ℕ
choice_of n = plug_to 11 ++ hput_bytes n ++ (0x19 ∷ 0 ∷ 2 ∷ 0 ∷ 30 ∷ 0 ∷ 40 ∷ [])

abbrev pub fact_11 : Fact
fact_11 =
    fact
    (number_after (choice_of 2) (0 ∷ 0 ∷ 1 ∷ []) (end 0)
    ∷ number_after (choice_of 1) (0 ∷ 0 ∷ 1 ∷ []) (end 0)
    ∷ (registers_after (choice_of 1) (0 ∷ 0 ∷ 1 ∷ end 0 ∷ []) 1).place
    ∷ []) (18 ∷ 0 ∷ 40 ∷ [])

-- (12) pushing 10 then 20 and run with n = 2 makes environment place 0 hold 10
abbrev pub fact_12 : Fact
fact_12 = record {
  found = get_or (registers_after (cst_bytes 10 ++ cst_bytes 20 ++ (0x1A ∷ 0 ∷ 0 ∷ 2 ∷ 0 ∷ [])) (0 ∷ 0 ∷ 0 ∷ []) 0).environment 0 (pos 0)
      ∷ [];
  said = pos 10 ∷ [];
}

abbrev pub facts : List Fact
facts =
    fact_1 ∷ fact_2 ∷ fact_3 ∷ fact_4 ∷ fact_5 ∷ fact_6 ∷ fact_7 ∷ fact_8 ∷ fact_9 ∷ fact_10 ∷ fact_11 ∷ fact_12 ∷ []

abbrev pub found_in : Fact → List ℤ
found_in f = f.found

abbrev pub said_in : Fact → List ℤ
said_in f = f.said

-- all twelve: what is found is what the document says
pub small_facts : map found_in facts ≡ map said_in facts
unfolding computing asked
small_facts = refl
