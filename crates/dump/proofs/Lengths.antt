-- How long the text of a sound state can be: each part takes no more than its room. Assumes nothing.
use mathlib.Core.Path.{◌≡◌, refl, ap}
use mathlib.Core.Option.{Option, none, some}
use mathlib.Core.List.{List, [], ◌∷◌, ◌++◌, map}
use Prim.Native.Nat.{ℕ, zero, suc, ◌+◌, ◌*◌, ◌≤◌}
use native.Mathlib.Nat.{mul-suc, le_of_suc-le-suc}
use native.Mathlib.Omega.{arith}
use lib.ListN.{length, get_or, length-append, length-map}
use lib.IntN.{pos}
use Rattle.rules.specs.Limits.{code_limit, slot_count, stack_depth}
use Rattle.rules.specs.State.{State, Value, Datum, value, handle, Last, split_item, close_item, wait_item}
use Rattle.rules.specs.State.{EndState, free_end, used, Registers, RecordState, free_record, running, waiting}
use Rattle.rules.specs.Sound.{ValueWithin, DatumWithin, RegistersWithin, RecordWithin, EndWithin, Sound}
use Rattle.rules.specs.Text.{text, decimal, signed_decimal}
use Rattle.rules.specs.Layout.{view}
use Rattle.keeping.specs.Demand3.{SoundMemory}
use Rattle.text.proofs.Hex.{length_text}
use Rattle.text.proofs.Shortness.{decimal_room, signed_short}
use Rattle.dump.specs.Shown.{behind_commas, list_text, by_number, values_text, slot_text, slot_texts, slots_text, registers_text}
use Rattle.dump.specs.Shown.{record_text}
use Rattle.dump.specs.Shown.{datum_text, last_text, last_texts, queue_texts, end_text, code_text, records_text, ends_text, state_text}
use Rattle.dump.specs.Pieces.{item_texts}
use Rattle.dump.specs.Rooms.{number_room, signed_room, values_room, slot_room, slots_room, record_room, item_room, end_room, dump_room}
use Rattle.dump.proofs.Parts.{stack_part, environment_part, slots_word, through_stack, through_environment, through_word, through_slots}
use Rattle.dump.proofs.Parts.{registers_parts}
use Rattle.dump.proofs.Processes.{running_word, waiting_word}
use Rattle.dump.proofs.Queued.{items_count}

-- ---- lists

-- each thing takes no more than a room
abbrev AllShort : (room : ℕ) → List (List ℕ) → Type 0
AllShort room [] = Unit {0}
AllShort room (t ∷ ts) = (length t ≤ room) × AllShort room ts

module _ (room : ℕ) where
  behind_short : (n : ℕ) (ts : List (List ℕ)) → AllShort room ts → length ts ≤ n → length (behind_commas ts) ≤ (room + 1) * n
  unfolding behind_commas text
  behind_short n [] h l = omega arith
  behind_short zero (t ∷ ts) h l = absurd (omega arith)
  behind_short (suc n) (t ∷ ts) h l =
      omega (
        arith,
        h.0,
        length-append (44 ∷ t) (behind_commas ts),
        behind_short n ts h.1 (le_of_suc-le-suc l),
        mul-suc (room + 1) n,
      )

  -- so many things at most, one place for them at least
  list_short : (n : ℕ) (ts : List (List ℕ)) → AllShort room ts → length ts ≤ suc n → length (list_text ts) ≤ (room + 1) * suc n
  unfolding list_text text
  list_short n [] h l = omega (arith, mul-suc (room + 1) n)
  list_short n (t ∷ ts) h l =
      omega (
        arith,
        h.0,
        length-append t (behind_commas ts),
        behind_short n ts h.1 (le_of_suc-le-suc l),
        mul-suc (room + 1) n,
      )

  -- lines by number
  lines_short : {A : Type 0} (line : ℕ → A → List ℕ) (d : A) (n : ℕ) (xs : List A)
      → ((r i : ℕ) → length (line r (get_or xs i d)) ≤ room) → length (by_number line n xs) ≤ room * length xs
  unfolding by_number
  lines_short line d n [] h = omega arith
  lines_short line d n (x ∷ xs) h =
      omega (
        arith,
        h n 0,
        length-append (line n x) (by_number line (suc n) xs),
        lines_short line d (suc n) xs (λ r i. h r (suc i)),
        mul-suc room (length xs),
      )

-- ---- records

values_short : (vs : List Value) → ((i : ℕ) → ValueWithin (get_or vs i (pos 0))) → AllShort signed_room (map signed_decimal vs)
values_short [] h = tt
values_short (v ∷ vs) h = (signed_short v (record { sfits = h 0 }), values_short vs (λ i. h (suc i)))

values_room_lem : (vs : List Value) → length vs ≤ stack_depth → ((i : ℕ) → ValueWithin (get_or vs i (pos 0)))
    → length (values_text vs) ≤ values_room
unfolding values_text
values_room_lem vs l h = list_short signed_room 15 (map signed_decimal vs) (values_short vs h)
    (omega (arith, l, length-map vs signed_decimal))

slot_room_lem : (c e : ℕ) → length (slot_text c e) ≤ slot_room
unfolding slot_text text
slot_room_lem c e =
    omega (
      arith,
      length-append (decimal c ++ 58 ∷ []) (decimal e),
      length-append (decimal c) (58 ∷ []),
      decimal_room c,
      decimal_room e,
    )

slots_short : (n : ℕ) (slots : List (Option ℕ))
    → AllShort slot_room (by_number slot_texts n slots) × (length (by_number slot_texts n slots) ≤ length slots)
unfolding by_number slot_texts
slots_short n [] = (tt, omega arith)
slots_short n (none ∷ slots) = let rest = slots_short (suc n) slots in (rest.0, omega (arith, rest.1))
slots_short n (some e ∷ slots) = let rest = slots_short (suc n) slots in ((slot_room_lem n e, rest.0), omega (arith, rest.1))

slots_room_lem : (slots : List (Option ℕ)) → length slots ≡ slot_count → length (slots_text slots) ≤ slots_room
unfolding slots_text
slots_room_lem slots l =
    let short = slots_short 0 slots in list_short slot_room 7 (by_number slot_texts 0 slots) short.0 (omega (arith, l, short.1))

registers_room : (g : Registers) → RegistersWithin g → length (registers_text g) ≤ number_room + 2 * values_room + slots_room + 20
registers_room g w =
    omega (
      arith,
      ap length (registers_parts g),
      length-append (through_slots g) (10 ∷ []),
      length-append (through_word g) (slots_text g.slots),
      length-append (through_environment g) slots_word,
      length-append (through_stack g) (environment_part (values_text g.environment)),
      length-append (decimal g.place) (stack_part (values_text g.stack)),
      decimal_room g.place,
      values_room_lem g.stack w.stack_within w.stack_values,
      values_room_lem g.environment w.environment_within w.environment_values,
      slots_room_lem g.slots w.slots_within,
    )

-- a record's number, a word of nine bytes, and the registers
line_room : (r : ℕ) (word : List ℕ) (g : Registers) → length word ≡ 9 → RegistersWithin g
    → length (82 ∷ decimal r ++ word ++ registers_text g) ≤ record_room
line_room r word g l w =
    omega (
      arith,
      l,
      length-append (82 ∷ decimal r ++ word) (registers_text g),
      length-append (82 ∷ decimal r) word,
      decimal_room r,
      registers_room g w,
    )

record_room_lem : (r : ℕ) (x : RecordState) → RecordWithin x → length (record_text r x) ≤ record_room
unfolding record_text text
record_room_lem r free_record w = omega arith
record_room_lem r (running g) w = line_room r running_word g refl w
record_room_lem r (waiting g) w = line_room r waiting_word g refl w

-- ---- ends

datum_room : (d : Datum) → DatumWithin d → length (datum_text d) ≤ item_room
unfolding datum_text text
datum_room (value v) w = omega (arith, signed_short v (record { sfits = w }))
datum_room (handle n) w = omega (arith, decimal_room n)

last_room : (l : Last) → length (last_text l) ≤ item_room
unfolding last_text text
last_room (split_item p q) =
    omega (
      arith,
      length-append (115 ∷ decimal p ++ 58 ∷ []) (decimal q),
      length-append (115 ∷ decimal p) (58 ∷ []),
      decimal_room p,
      decimal_room q,
    )
last_room close_item = omega arith
last_room (wait_item r) = omega (arith, decimal_room r)

items_short : (ds : List Datum) (l : Option Last) → ((i : ℕ) → DatumWithin (get_or ds i (handle 0))) → AllShort item_room (queue_texts ds l)
unfolding queue_texts last_texts
items_short [] none w = tt
items_short [] (some l) w = (last_room l, tt)
items_short (d ∷ ds) l w = (datum_room d (w 0), items_short ds l (λ i. w (suc i)))

end_room_lem : (e : ℕ) (x : EndState) → EndWithin x → length (end_text e x) ≤ end_room
unfolding end_text item_texts text
end_room_lem e free_end w = omega arith
end_room_lem e (used m ds l) w =
    let queue = list_text (queue_texts ds l) in
    let short = list_short item_room 7 (queue_texts ds l) (items_short ds l w.1) (omega (arith, w.0, items_count (used m ds l))) in
    let partner = 69 ∷ decimal e ++ text " partner " ++ decimal m in
    omega (
      arith,
      length-append (partner ++ text " queue " ++ queue) (text "\n"),
      length-append (partner ++ text " queue ") queue,
      length-append partner (text " queue "),
      length-append (69 ∷ decimal e ++ text " partner ") (decimal m),
      length-append (69 ∷ decimal e) (text " partner "),
      decimal_room e,
      decimal_room m,
      short,
    )

-- ---- the state

code_room : (code : List ℕ) → length code ≤ code_limit → length (code_text code) ≤ 2 * code_limit
unfolding code_text text
code_room [] h = omega arith
code_room (b ∷ code) h = omega (arith, h, length_text (b ∷ code))

sound_room : (st : State) → Sound st → length (state_text st) ≤ dump_room
unfolding state_text records_text ends_text text
sound_room st s =
    let within = s.S1 in
    let code = text "code " ++ code_text st.code in
    let records = records_text st.records in
    let ends = ends_text st.ends in
    omega (
      arith,
      length-append (code ++ text "\n" ++ records ++ ends) (text "end\n"),
      length-append (code ++ text "\n" ++ records) ends,
      length-append (code ++ text "\n") records,
      length-append code (text "\n"),
      length-append (text "code ") (code_text st.code),
      code_room st.code within.code_within,
      lines_short record_room record_text free_record 0 st.records (λ r i. record_room_lem r _ (within.records_within i)),
      lines_short end_room end_text free_end 0 st.ends (λ r i. end_room_lem r _ (within.ends_within i)),
      within.record_count_is,
      within.end_count_is,
    )

-- the text of the state that a sound memory shows fits the room of a dump
pub state_room : (m : List ℕ) → SoundMemory m → length (state_text (view m)) ≤ dump_room
state_room m s = sound_room (view m) s.state_sound
