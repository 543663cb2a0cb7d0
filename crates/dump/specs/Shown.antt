-- A state in words, as the bench console shows it: a line for the code, one for each record in use, one for each end in use, and `end`.
-- A record's line has its place, stack, environment and slots, an end's line its partner and its queue, head first. Assumes nothing.
use Rattle.std.specs.Prelude.{ℕ, suc, List, [], ◌∷◌, ◌++◌, map}
use Rattle.std.proofs.Math.Option.{Option, none, some}
use Rattle.rules.specs.State.{State, Value, Datum, value, handle, Last, split_item, close_item, wait_item, Item, datum, last}
use Rattle.rules.specs.State.{EndState, free_end, used, Registers, RecordState, free_record, running, waiting}
use Rattle.rules.specs.Text.{text, decimal, signed_decimal}
use Rattle.text.specs.Written.{hex_text}

-- ---- lists

-- a comma and a thing, for each of the things
unfoldable pub behind_commas : List (List ℕ) → List ℕ
behind_commas [] = []
behind_commas (thing ∷ things) = text "," ++ thing ++ behind_commas things

-- things with commas between them, `-` for none
unfoldable pub list_text : List (List ℕ) → List ℕ
list_text [] = text "-"
list_text (thing ∷ things) = thing ++ behind_commas things

-- what each thing of a list gives by its number, counted from n, one behind the other
unfoldable pub by_number : {A B : Type 0} → (ℕ → A → List B) → (n : ℕ) → List A → List B
by_number f n [] = []
by_number f n (x ∷ xs) = f n x ++ by_number f (suc n) xs

-- ---- records

-- the values of a stack or an environment
unfoldable pub values_text : List Value → List ℕ
values_text values = list_text (map signed_decimal values)

-- a slot that holds an end: its number and the end's
unfoldable pub slot_text : (c e : ℕ) → List ℕ
slot_text c e = decimal c ++ text ":" ++ decimal e

-- an empty slot is not shown
unfoldable pub slot_texts : (c : ℕ) → Option ℕ → List (List ℕ)
slot_texts c none = []
slot_texts c (some e) = slot_text c e ∷ []

-- the slots that hold an end
unfoldable pub slots_text : List (Option ℕ) → List ℕ
slots_text slots = list_text (by_number slot_texts 0 slots)

-- what a process has, and the line's end
unfoldable pub registers_text : Registers → List ℕ
registers_text g =
    decimal g.place ++ text " stack " ++ values_text g.stack ++ text " env " ++ values_text g.environment ++ text " slots "
    ++ slots_text g.slots
    ++ text "\n"

-- the line of record r: its number, what it does, and what it has; a free one has none
unfoldable pub record_text : (r : ℕ) → RecordState → List ℕ
record_text r free_record = []
record_text r (running g) = text "R" ++ decimal r ++ text " running " ++ registers_text g
record_text r (waiting g) = text "R" ++ decimal r ++ text " waiting " ++ registers_text g

-- ---- ends

-- a value, or a handle
unfoldable pub datum_text : Datum → List ℕ
datum_text (value v) = text "v" ++ signed_decimal v
datum_text (handle n) = text "h" ++ decimal n

-- a split with its two ends, a close, or a wait with its record
unfoldable pub last_text : Last → List ℕ
last_text (split_item p q) = text "s" ++ decimal p ++ text ":" ++ decimal q
last_text close_item = text "c"
last_text (wait_item r) = text "w" ++ decimal r

-- an item of a queue
unfoldable pub item_text : Item → List ℕ
item_text (datum d) = datum_text d
item_text (last l) = last_text l

-- the last item, if there is one
unfoldable pub last_texts : Option Last → List (List ℕ)
last_texts none = []
last_texts (some l) = last_text l ∷ []

-- the items of a queue, head first
unfoldable pub queue_texts : List Datum → Option Last → List (List ℕ)
queue_texts ds l = map datum_text ds ++ last_texts l

-- the line of end e: its number, its partner's, and its queue; a free one has none
unfoldable pub end_text : (e : ℕ) → EndState → List ℕ
end_text e free_end = []
end_text e (used m ds l) =
    text "E" ++ decimal e ++ text " partner " ++ decimal m ++ text " queue " ++ list_text (queue_texts ds l) ++ text "\n"

-- ---- the state

-- the bytes of the code in hex, `-` for none
unfoldable pub code_text : List ℕ → List ℕ
code_text [] = text "-"
code_text (b ∷ code) = hex_text (b ∷ code)

-- the lines of the records, from record 0 on
unfoldable pub records_text : List RecordState → List ℕ
records_text records = by_number record_text 0 records

-- the lines of the ends, from end 0 on
unfoldable pub ends_text : List EndState → List ℕ
ends_text ends = by_number end_text 0 ends

-- the whole text
unfoldable pub state_text : State → List ℕ
state_text st = text "code " ++ code_text st.code ++ text "\n" ++ records_text st.records ++ ends_text st.ends ++ text "end\n"
