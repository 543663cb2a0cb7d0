-- Reading back a laid-out state within the limits gives the state: `view_layout`. Assumes nothing.
use mathlib.Core.Path.{◌≡◌, refl, sym, ap, ◌∙◌, subst}
use mathlib.Core.Option.{Option, none, some}
use mathlib.Core.List.{List, [], ◌∷◌, ◌++◌, map, append-nil, append_assoc}
use Prim.Native.Nat.{ℕ, zero, suc, ◌+◌, ◌*◌, ◌/◌, ◌%◌, ◌^◌, ◌≤◌, ◌<◌}
use native.Mathlib.Nat.{le_of_suc-le-suc, pow-succ'}
use native.Mathlib.Omega.{arith}
use lib.ListN.{length, get_or, take, drop, length-append, length-map}
use lib.Seq.{take_at, drop_at, drop-drop, take-append-le}
use lib.IntN.{pos}
use mir.Syntax.{w32}
use mir.Val.{to_z, of_z, SFits}
use mir.Facts.{to_z-of_z, Fits-of_z}
use Rattle.rules.specs.Limits.{record_count, end_count, slot_count, stack_depth, environment_depth, queue_depth, code_limit}
use Rattle.rules.specs.Bytes.{bytes_of, number_at, flat, pad, pieces}
use Rattle.rules.specs.State.{State, Value, Datum, value, handle, Last, split_item, close_item, wait_item, EndState, free_end, used}
use Rattle.rules.specs.State.{Registers, registers, RecordState, free_record, running, waiting, end_at, queue_length, last_of, is_free_end}
use Rattle.rules.specs.Slots.{Slots, low_bit}
use Rattle.rules.specs.Layout.{value_size, cell_size, record_size, free_size, queue_size, records_at, free_at, partners_at, counts_at}
use Rattle.rules.specs.Layout.{queues_at}
use Rattle.rules.specs.Layout.{optional, value_bytes, registers_bytes, record_bytes, free_word, partner_byte, datum_cell, last_cell}
use Rattle.rules.specs.Layout.{last_cells}
use Rattle.rules.specs.Layout.{queue_cells, queue_bytes, layout, view_optional, view_value, view_values, view_registers, view_status}
use Rattle.rules.specs.Layout.{view_record}
use Rattle.rules.specs.Layout.{Queue, queue, in_front, view_cell, view_cells, view_queue, view_end, view_ends, view}
use Rattle.rules.specs.Sound.{ValueWithin, DatumWithin, RegistersWithin, RecordWithin, EndWithin, Within}
use Rattle.words.proofs.Numbers.{length_bytes, number_skip, number_bytes}
use Rattle.words.proofs.Pads.{length_pad, pad_all, pad_same}
use Rattle.words.proofs.Pieces.{length_flat, pieces_flat}
use Rattle.keeping.proofs.LayoutLaws.{length_value, length_record, length_queue}

-- ---- lists

-- what is written and read back, element by element
map_back : {A B : Type 0} (f : A → B) (g : B → A) (d : A) (xs : List A)
    → ((i : ℕ) → g (f (get_or xs i d)) ≡ get_or xs i d) → map g (map f xs)
    ≡ xs
map_back f g d [] h = refl
map_back f g d (x ∷ xs) h = λ i. h 0 i ∷ map_back f g d xs (λ j. h (suc j)) i

-- the elements in front of a pad
take_padded : {A : Type 0} (n : ℕ) (z : A) (xs : List A) → length xs ≤ n → take (length xs) (pad n z xs) ≡ xs
unfolding pad
take_padded n z [] h = refl
take_padded zero z (x ∷ xs) h = absurd (omega arith)
take_padded (suc n) z (x ∷ xs) h = ap (λ (r : List _). x ∷ r) (take_padded n z xs (le_of_suc-le-suc h))

-- ---- values

value_back : (v : Value) → ValueWithin v → view_value (value_bytes v) ≡ v
unfolding view_value value_bytes
value_back v h =
    let fits : SFits w32 v = record { sfits = h } in
    let bits : of_z w32 v < 256 ^ value_size = (Fits-of_z {w = w32} {z = v} fits).fits in
    ap (to_z w32) (ap (λ (l : List ℕ). number_at value_size l 0) (sym (append-nil (bytes_of value_size (of_z w32 v))))
    ∙ number_bytes value_size (of_z w32 v) [] bits)
    ∙ to_z-of_z {w = w32} {z = v} fits

values_back : (n : ℕ) (l : List Value) (t : List ℕ) → length l ≤ n → ((i : ℕ) → ValueWithin (get_or l i (pos 0)))
    → view_values n (length l) (flat value_bytes (pad n (pos 0) l) ++ t) ≡ l
unfolding view_values
values_back n l t h w =
    let padded = pad n (pos 0) l in
    let all = pad_all ValueWithin n (pos 0) l (omega arith) w in
    let cut : pieces n value_size (flat value_bytes padded ++ t) ≡ map value_bytes padded =
    subst (λ (k : ℕ). pieces k value_size (flat value_bytes padded ++ t) ≡ map value_bytes padded) (length_pad n (pos 0) l)
    (pieces_flat value_bytes value_size length_value padded t) in
    ap (λ (ps : List (List ℕ)). take (length l) (map view_value ps)) cut
    ∙ ap (take (length l)) (map_back value_bytes view_value (pos 0) padded (λ i. value_back (get_or padded i (pos 0)) (all i)))
    ∙ take_padded n (pos 0) l h

-- ---- records

slot_back : (x : Option ℕ) → view_optional (optional x) ≡ x
unfolding view_optional
slot_back none = refl
slot_back (some e) = refl

slots_back : (l : Slots) (t : List ℕ) → length l ≡ slot_count
    → map view_optional (take slot_count (map optional (pad slot_count none l) ++ t)) ≡ l
slots_back l t h =
    let padded = pad slot_count none l in
    ap (map view_optional) (take_at (map optional padded) t slot_count (length-map padded optional ∙ length_pad slot_count none l))
    ∙ map_back optional view_optional none padded (λ i. slot_back (get_or padded i none)) ∙ pad_same slot_count none l h

registers_back : (status : ℕ) (g : Registers) → RegistersWithin g → view_registers (status ∷ registers_bytes g) ≡ g
unfolding view_registers registers_bytes
registers_back status g w =
    let slots = map optional (pad slot_count none g.slots) in
    let stack = flat value_bytes (pad stack_depth (pos 0) g.stack) in
    let environment = flat value_bytes (pad environment_depth (pos 0) g.environment) in
    let slots_long : length slots ≡ slot_count = length-map (pad slot_count none g.slots) optional
    ∙ length_pad slot_count none g.slots in
    let stack_long : length stack ≡ value_size * stack_depth = length_flat value_bytes value_size length_value
    (pad stack_depth (pos 0) g.stack) ∙ ap (λ (k : ℕ). value_size * k) (length_pad stack_depth (pos 0) g.stack) in
    let rest : List ℕ = slots ++ (stack ++ environment) in
    let head : List ℕ = length g.stack ∷ length g.environment ∷ rest in
    let p : number_at 2 (status ∷ (bytes_of 2 g.place ++ head)) 1 ≡ g.place = number_skip 2 (status ∷ [])
    (bytes_of 2 g.place ++ head) 0 ∙ number_bytes 2 g.place head w.place_within in
    let q : view_values stack_depth (length g.stack) (drop slot_count rest) ≡ g.stack =
    ap (view_values stack_depth (length g.stack)) (drop_at slots (stack ++ environment) slot_count slots_long)
    ∙ values_back stack_depth g.stack environment w.stack_within w.stack_values in
    let behind : drop (slot_count + value_size * stack_depth) rest ≡ environment ++ [] =
    sym (drop-drop (value_size * stack_depth) slot_count rest)
    ∙ ap (drop (value_size * stack_depth)) (drop_at slots (stack ++ environment) slot_count slots_long)
    ∙ drop_at stack environment (value_size * stack_depth) stack_long ∙ sym (append-nil environment) in
    let r : view_values environment_depth (length g.environment) (drop (slot_count + value_size * stack_depth) rest) ≡ g.environment =
    ap (view_values environment_depth (length g.environment)) behind
    ∙ values_back environment_depth g.environment [] w.environment_within w.environment_values in
    let s : map view_optional (take slot_count rest) ≡ g.slots = slots_back g.slots (stack ++ environment) w.slots_within in
    λ i. registers (p i) (q i) (r i) (s i)

record_back : (x : RecordState) → RecordWithin x → view_record (record_bytes x) ≡ x
unfolding view_record record_bytes view_status
record_back free_record w = refl
record_back (running g) w = ap running (registers_back 1 g w)
record_back (waiting g) w = ap waiting (registers_back 2 g w)

records_back : (l : List RecordState) (t : List ℕ) → length l ≡ record_count → ((r : ℕ) → RecordWithin (get_or l r free_record))
    → map view_record (pieces record_count record_size (flat record_bytes l ++ t)) ≡ l
records_back l t h w =
    ap (λ (ps : List (List ℕ)). map view_record ps)
    (subst (λ (k : ℕ). pieces k record_size (flat record_bytes l ++ t) ≡ map record_bytes l) h
    (pieces_flat record_bytes record_size length_record l t))
    ∙ map_back record_bytes view_record free_record l (λ i. record_back (get_or l i free_record) (w i))

-- ---- queues

-- the numbers in a last item fit its cell
abbrev pub LastFits : Option Last → Type 0
LastFits none = Unit {0}
LastFits (some (split_item p q)) = (p < 256) × (q < 256)
LastFits (some close_item) = Unit {0}
LastFits (some (wait_item r)) = r < 256

kind_is : (k x : ℕ) → k < 256 → (k + 256 * x) % 256 ≡ k
kind_is k x h = omega arith

payload_is : (k x : ℕ) → k < 256 → (k + 256 * x) / 256 ≡ x
payload_is k x h = omega arith

last_back : (l : Option Last) → LastFits l → view_cells (last_cells l) ≡ queue [] l
unfolding view_cells view_cell last_cells last_cell
last_back none h = refl
last_back (some (split_item p q)) h =
    let x : ℕ = p + 256 * q in
    rw (kind_is 3 x (omega arith), payload_is 3 x (omega arith), kind_is p q h.0, payload_is p q h.0)
last_back (some close_item) h = refl
last_back (some (wait_item r)) h = rw (kind_is 5 r (omega arith), payload_is 5 r (omega arith))

cells_back : (ds : List Datum) (l : Option Last) → ((i : ℕ) → DatumWithin (get_or ds i (handle 0))) → LastFits l
    → view_cells (map datum_cell ds ++ last_cells l) ≡ queue ds l
unfolding view_cells view_cell datum_cell
cells_back [] l w h = last_back l h
cells_back (value v ∷ ds) l w h =
    let fits : SFits w32 v = record { sfits = w 0 } in
    rw (kind_is 1 (of_z w32 v) (omega arith), payload_is 1 (of_z w32 v) (omega arith), to_z-of_z {w = w32} {z = v} fits)
    (ap (in_front (value v)) (cells_back ds l (λ i. w (suc i)) h))
cells_back (handle n ∷ ds) l w h =
    rw (kind_is 2 n (omega arith), payload_is 2 n (omega arith)) (ap (in_front (handle n)) (cells_back ds l (λ i. w (suc i)) h))

datum_fits_lem : (d : Datum) → DatumWithin d → datum_cell d < 256 ^ cell_size
unfolding datum_cell
datum_fits_lem (value v) h = let bits : of_z w32 v < 4294967296 = (Fits-of_z {w = w32} {z = v} (record { sfits = h })).fits in omega arith
datum_fits_lem (handle n) h = omega arith

cells_fit : (ds : List Datum) (l : Option Last) → ((i : ℕ) → DatumWithin (get_or ds i (handle 0))) → LastFits l → (i : ℕ)
    → get_or (map datum_cell ds ++ last_cells l) i 0 < 256 ^ cell_size
unfolding last_cells last_cell
cells_fit [] none w h i = omega arith
cells_fit [] (some (split_item p q)) w h zero = omega (arith, h.0, h.1)
cells_fit [] (some (split_item p q)) w h (suc i) = omega arith
cells_fit [] (some close_item) w h zero = omega arith
cells_fit [] (some close_item) w h (suc i) = omega arith
cells_fit [] (some (wait_item r)) w h zero = omega arith
cells_fit [] (some (wait_item r)) w h (suc i) = omega arith
cells_fit (d ∷ ds) l w h zero = datum_fits_lem d (w 0)
cells_fit (d ∷ ds) l w h (suc i) = cells_fit ds l (λ j. w (suc j)) h i

length_cells : (m : ℕ) (ds : List Datum) (l : Option Last) → length (map datum_cell ds ++ last_cells l) ≡ queue_length (used m ds l)
unfolding last_cells
length_cells m ds none = omega (arith, length-append (map datum_cell ds) [], length-map ds datum_cell)
length_cells m ds (some l) = omega (arith, length-append (map datum_cell ds) (last_cell l ∷ []), length-map ds datum_cell)

cell_back : (n : ℕ) → n < 256 ^ cell_size → number_at cell_size (bytes_of cell_size n) 0 ≡ n
cell_back n h = ap (λ (l : List ℕ). number_at cell_size l 0) (sym (append-nil (bytes_of cell_size n))) ∙ number_bytes cell_size n [] h

queue_back : (m : ℕ) (ds : List Datum) (l : Option Last) → EndWithin (used m ds l) → LastFits l
    → view_queue (queue_length (used m ds l)) (queue_bytes (used m ds l)) ≡ queue ds l
unfolding view_queue queue_bytes queue_cells
queue_back m ds l w h =
    let cells = map datum_cell ds ++ last_cells l in
    let padded = pad queue_depth 0 cells in
    let fit = pad_all (λ (n : ℕ). n < 256 ^ cell_size) queue_depth 0 cells (omega arith) (cells_fit ds l w.1 h) in
    let cut : pieces queue_depth cell_size (flat (bytes_of cell_size) padded) ≡ map (bytes_of cell_size) padded =
    ap (pieces queue_depth cell_size) (sym (append-nil (flat (bytes_of cell_size) padded)))
    ∙ subst (λ (k : ℕ). pieces k cell_size (flat (bytes_of cell_size) padded ++ []) ≡ map (bytes_of cell_size) padded)
    (length_pad queue_depth 0 cells)
    (pieces_flat (bytes_of cell_size) cell_size (length_bytes cell_size) padded []) in
    let long = length_cells m ds l in
    ap (λ (ps : List (List ℕ)). view_cells (take (queue_length (used m ds l)) (map (λ (cell : List ℕ). number_at cell_size cell 0) ps))) cut
    ∙ ap (λ (ns : List ℕ). view_cells (take (queue_length (used m ds l)) ns))
    (map_back (bytes_of cell_size) (λ (cell : List ℕ). number_at cell_size cell 0) 0 padded (λ i. cell_back (get_or padded i 0) (fit i)))
    ∙ ap (λ (k : ℕ). view_cells (take k padded)) (sym long)
    ∙ ap view_cells (take_padded queue_depth 0 cells (omega (arith, long, w.0)))
    ∙ cells_back ds l w.1 h

-- ---- ends

free_bit : (x : EndState) (xs : List EndState) → (low_bit (free_word (x ∷ xs)) ≡ is_free_end x) × (free_word (x ∷ xs) / 2 ≡ free_word xs)
unfolding free_word
free_bit free_end xs = (rw (one_left (free_word xs)), omega arith)
  where
    one_left : (n : ℕ) → (1 + 2 * n) % 2 ≡ 1
    one_left n = omega arith
free_bit (used m ds l) xs = (rw (none_left (free_word xs)), omega arith)
  where
    none_left : (n : ℕ) → (2 * n) % 2 ≡ 0
    none_left n = omega arith

pub free_word_fits : (l : List EndState) → free_word l < 2 ^ length l
unfolding free_word
free_word_fits [] = omega arith
free_word_fits (free_end ∷ l) = omega (arith, free_word_fits l, pow-succ' 2 (length l))
free_word_fits (used m ds k ∷ l) = omega (arith, free_word_fits l, pow-succ' 2 (length l))

end_back : (x : EndState) → EndWithin x → LastFits (last_of x)
    → view_end (is_free_end x) (partner_byte x) (queue_length x) (queue_bytes x) ≡ x
unfolding view_end partner_byte
end_back free_end w h = refl
end_back (used m ds l) w h = ap (λ (q : Queue). used m q.queued q.final) (queue_back m ds l w h)

ends_back : (l : List EndState) (t u v : List ℕ) → ((e : ℕ) → EndWithin (get_or l e free_end))
    → ((e : ℕ) → LastFits (last_of (get_or l e free_end)))
    → view_ends (length l) (free_word l) (map partner_byte l ++ t) (map queue_length l ++ u) (flat queue_bytes l ++ v) ≡ l
unfolding view_ends flat
ends_back [] t u v w h = refl
ends_back (x ∷ xs) t u v w h =
    let bit = free_bit x xs in
    let behind = flat queue_bytes xs ++ v in
    rw (
      bit.0,
      bit.1,
      append_assoc (queue_bytes x) (flat queue_bytes xs) v,
      take_at (queue_bytes x) behind queue_size
          (length_queue x),
      drop_at (queue_bytes x) behind queue_size (length_queue x),
    )
    (λ i. end_back x (w 0) (h 0) i ∷ ends_back xs t u v (λ e. w (suc e)) (λ e. h (suc e)) i)

-- ---- the memory

module _ (st : State) (w : Within st) (fits : (e : ℕ) → LastFits (last_of (end_at st e))) where
  -- the sections behind the code, behind the records, and so on
  behind_counts : List ℕ
  behind_counts = flat queue_bytes st.ends

  behind_partners : List ℕ
  behind_partners = map queue_length st.ends ++ behind_counts

  behind_free : List ℕ
  behind_free = map partner_byte st.ends ++ behind_partners

  behind_records : List ℕ
  behind_records = bytes_of free_size (free_word st.ends) ++ behind_free

  behind_code : List ℕ
  behind_code = flat record_bytes st.records ++ behind_records

  sections : layout st ≡ bytes_of 2 (length st.code) ++ (pad code_limit 0 st.code ++ behind_code)
  unfolding layout behind_counts behind_partners behind_free behind_records behind_code
  sections = refl

  drop_code : drop records_at (layout st) ≡ behind_code
  drop_code =
      ap (drop records_at) sections ∙ drop_at (pad code_limit 0 st.code) behind_code code_limit (length_pad code_limit 0 st.code)

  drop_records : drop free_at (layout st) ≡ behind_records
  unfolding behind_code
  drop_records =
      sym (drop-drop (record_size * record_count) records_at (layout st)) ∙ ap (drop (record_size * record_count)) drop_code
      ∙ drop_at (flat record_bytes st.records) behind_records (record_size * record_count)
      (length_flat record_bytes record_size length_record st.records ∙ ap (λ (k : ℕ). record_size * k) w.record_count_is)

  drop_free : drop partners_at (layout st) ≡ behind_free
  unfolding behind_records
  drop_free =
      sym (drop-drop free_size free_at (layout st)) ∙ ap (drop free_size) drop_records
      ∙ drop_at (bytes_of free_size (free_word st.ends)) behind_free free_size (length_bytes free_size (free_word st.ends))

  drop_partners : drop counts_at (layout st) ≡ behind_partners
  unfolding behind_free
  drop_partners =
      sym (drop-drop end_count partners_at (layout st)) ∙ ap (drop end_count) drop_free
      ∙ drop_at (map partner_byte st.ends) behind_partners end_count (length-map st.ends partner_byte ∙ w.end_count_is)

  drop_counts : drop queues_at (layout st) ≡ behind_counts ++ []
  unfolding behind_partners
  drop_counts =
      sym (drop-drop end_count counts_at (layout st)) ∙ ap (drop end_count) drop_partners
      ∙ drop_at (map queue_length st.ends) behind_counts end_count (length-map st.ends queue_length ∙ w.end_count_is)
      ∙ sym (append-nil behind_counts)

  code_back : take (number_at 2 (layout st) 0) (drop 2 (layout st)) ≡ st.code
  code_back =
      let padded = pad code_limit 0 st.code in
      let long : number_at 2 (layout st) 0 ≡ length st.code =
      ap (λ (m : List ℕ). number_at 2 m 0) sections
      ∙ number_bytes 2 (length st.code) (padded ++ behind_code) (omega (arith, w.code_within)) in
      ap (λ (k : ℕ). take k (drop 2 (layout st))) long ∙ ap (λ (m : List ℕ). take (length st.code) (drop 2 m)) sections
      ∙ take-append-le (length st.code) padded behind_code (omega (arith, length_pad code_limit 0 st.code, w.code_within))
      ∙ take_padded code_limit 0 st.code w.code_within

  records_read : map view_record (pieces record_count record_size (drop records_at (layout st))) ≡ st.records
  unfolding behind_code
  records_read =
      ap (λ (m : List ℕ). map view_record (pieces record_count record_size m)) drop_code
      ∙ records_back st.records behind_records w.record_count_is w.records_within

  word_read : number_at free_size (drop free_at (layout st)) 0 ≡ free_word st.ends
  unfolding behind_records
  word_read =
      ap (λ (m : List ℕ). number_at free_size m 0) drop_records
      ∙ number_bytes free_size (free_word st.ends) behind_free
      (subst (λ (k : ℕ). free_word st.ends < 2 ^ k) w.end_count_is (free_word_fits st.ends))

  ends_read : view_ends end_count (number_at free_size (drop free_at (layout st)) 0)
      (drop partners_at (layout st)) (drop counts_at (layout st))
      (drop queues_at (layout st)) ≡ st.ends
  unfolding behind_free behind_partners behind_counts
  ends_read =
      (λ i. view_ends end_count (word_read i) (drop_free i) (drop_partners i) (drop_counts i))
      ∙ subst (λ (k : ℕ). view_ends k (free_word st.ends) behind_free behind_partners (behind_counts ++ []) ≡ st.ends) w.end_count_is
      (ends_back st.ends behind_partners behind_counts [] w.ends_within fits)

  -- reading back a laid-out state gives the state
  pub view_layout : view (layout st) ≡ st
  unfolding view
  view_layout = λ i. record { code = code_back i; records = records_read i; ends = ends_read i }
