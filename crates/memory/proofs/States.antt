-- The state memory by records and ends: a record written is the state with that record, an end's four sections written are the state
-- with that end, and each is read where it stands. Writing asks only that the lists have their lengths (`Sized`). Assumes nothing.
use mathlib.Core.Path.{◌≡◌, refl, sym, ap, ◌∙◌, subst}
use mathlib.Core.List.{List, [], ◌∷◌, map, append-nil}
use Prim.Native.Nat.{ℕ, zero, suc, ◌+◌, ◌*◌, ◌^◌, ◌≤◌, ◌<◌}
use native.Mathlib.Omega.{arith}
use lib.ListN.{length, get_or, set, take, drop, length-set, length-map, get_or-map}
use lib.Seq.{get_or-take, get_or-drop}
use Rattle.rules.specs.Limits.{record_count, end_count, queue_depth}
use Rattle.rules.specs.Bytes.{bytes_of, number_at, flat}
use Rattle.rules.specs.State.{State, EndState, free_end, RecordState, record_at, end_at, set_record, set_end, queue_length}
use Rattle.rules.specs.Layout.{cell_size, record_size, free_size, records_at, free_at, partners_at, counts_at, queues_at, record_bytes}
use Rattle.rules.specs.Layout.{free_word}
use Rattle.rules.specs.Layout.{partner_byte, queue_cells, layout}
use Rattle.words.specs.Parts.{put_at}
use Rattle.words.proofs.Pads.{length_pad}
use Rattle.words.proofs.Pieces.{length_flat, put_flat, cut_flat}
use Rattle.keeping.proofs.LayoutLaws.{Sized}
use Rattle.keeping.proofs.ViewLaws.{free_word_fits}
use Rattle.memory.specs.Sections.{sectioned, cells_of, partners_of, counts_of, all_cells}
use Rattle.memory.proofs.Sections.{layout_is, put_record, number_record, put_word, number_word, put_partner, read_partner, put_count}
use Rattle.memory.proofs.Sections.{read_count, number_cell, put_cells}

-- ---- lengths

pub length_cells : (x : EndState) → length (cells_of x) ≡ queue_depth
unfolding cells_of
length_cells x = length_pad queue_depth 0 (queue_cells x)

length_partners : (l : List EndState) → length (partners_of l) ≡ length l
unfolding partners_of
length_partners l = length-map l partner_byte

length_counts : (l : List EndState) → length (counts_of l) ≡ length l
unfolding counts_of
length_counts l = length-map l queue_length

pub length_all_cells : (l : List EndState) → length (all_cells l) ≡ queue_depth * length l
unfolding all_cells
length_all_cells l = length_flat cells_of queue_depth length_cells l

-- ---- one end put anew

-- a list with one thing anew, each thing changed alike
pub map_set : {A B : Type 0} (f : A → B) (l : List A) (i : ℕ) (x : A) → map f (set l i x) ≡ set (map f l) i (f x)
map_set f [] i x = refl
map_set f (a ∷ l) zero x = refl
map_set f (a ∷ l) (suc i) x = ap (λ (r : List _). f a ∷ r) (map_set f l i x)

pub partners_set : (l : List EndState) (e : ℕ) (x : EndState) → partners_of (set l e x) ≡ set (partners_of l) e (partner_byte x)
unfolding partners_of
partners_set l e x = map_set partner_byte l e x

pub counts_set : (l : List EndState) (e : ℕ) (x : EndState) → counts_of (set l e x) ≡ set (counts_of l) e (queue_length x)
unfolding counts_of
counts_set l e x = map_set queue_length l e x

pub cells_set : (l : List EndState) (e : ℕ) (x : EndState) → e < length l → all_cells (set l e x)
    ≡ put_at (all_cells l) (queue_depth * e) (cells_of x)
unfolding all_cells
cells_set l e x h = sym (put_flat cells_of queue_depth length_cells l e x h)

module _ (st : State) (z : Sized st) where
  partners_long : length (partners_of st.ends) ≡ end_count
  partners_long = length_partners st.ends ∙ z.ends_sized

  counts_long : length (counts_of st.ends) ≡ end_count
  counts_long = length_counts st.ends ∙ z.ends_sized

  -- ---- records

  pub record_written : (i : ℕ) (x : RecordState) → i < record_count
      → put_at (layout st) (records_at + record_size * i) (record_bytes x) ≡ layout (set_record st i x)
  record_written i x h =
      let w = free_word st.ends in
      ap (λ (m : List ℕ). put_at m (records_at + record_size * i) (record_bytes x)) (layout_is st)
      ∙ put_record st.code st.records w (partners_of st.ends) (counts_of st.ends) (all_cells st.ends)
      z.records_sized partners_long counts_long i x h
      ∙ sym (layout_is (set_record st i x))

  pub record_number : (k i o : ℕ) → i < record_count → o + k ≤ record_size
      → number_at k (layout st) (records_at + record_size * i + o) ≡ number_at k (record_bytes (record_at st i)) o
  record_number k i o h l =
      ap (λ (m : List ℕ). number_at k m (records_at + record_size * i + o)) (layout_is st)
      ∙ number_record st.code st.records (free_word st.ends) (partners_of st.ends) (counts_of st.ends) (all_cells st.ends)
      z.records_sized
      partners_long counts_long k i o h l

  -- ---- ends

  pub word_read : number_at free_size (layout st) free_at ≡ free_word st.ends
  word_read =
      ap (λ (m : List ℕ). number_at free_size m free_at) (layout_is st)
      ∙ number_word st.code st.records (free_word st.ends) (partners_of st.ends) (counts_of st.ends) (all_cells st.ends)
      z.records_sized
      partners_long counts_long (subst (λ (k : ℕ). free_word st.ends < 2 ^ k) z.ends_sized (free_word_fits st.ends))

  pub partner_read : (e : ℕ) → e < end_count → get_or (layout st) (partners_at + e) 0 ≡ partner_byte (end_at st e)
  unfolding partners_of partner_byte
  partner_read e h =
      ap (λ (m : List ℕ). get_or m (partners_at + e) 0) (layout_is st)
      ∙ read_partner st.code st.records (free_word st.ends) (partners_of st.ends) (counts_of st.ends) (all_cells st.ends)
      z.records_sized
      partners_long counts_long e h
      ∙ get_or-map partner_byte st.ends e free_end

  pub count_read : (e : ℕ) → e < end_count → get_or (layout st) (counts_at + e) 0 ≡ queue_length (end_at st e)
  unfolding counts_of
  count_read e h =
      ap (λ (m : List ℕ). get_or m (counts_at + e) 0) (layout_is st)
      ∙ read_count st.code st.records (free_word st.ends) (partners_of st.ends) (counts_of st.ends) (all_cells st.ends)
      z.records_sized
      partners_long counts_long e h
      ∙ get_or-map queue_length st.ends e free_end

  cells_at : (e i : ℕ) → e < end_count → i < queue_depth
      → get_or (all_cells st.ends) (queue_depth * e + i) 0 ≡ get_or (cells_of (end_at st e)) i 0
  unfolding all_cells
  cells_at e i h k =
      let all = all_cells st.ends in
      sym (get_or-drop (queue_depth * e) all i 0) ∙ sym (get_or-take queue_depth (drop (queue_depth * e) all) i 0 k)
      ∙ ap (λ (r : List ℕ). get_or (take queue_depth (drop (queue_depth * e) r)) i 0) (sym (append-nil all))
      ∙ ap (λ (r : List ℕ). get_or r i 0) (cut_flat cells_of queue_depth length_cells st.ends e free_end [] (omega (arith, z.ends_sized)))

  -- cell i of end e
  pub cell_read : (e i : ℕ) → e < end_count → i < queue_depth → get_or (cells_of (end_at st e)) i 0 < 256 ^ cell_size
      → number_at cell_size (layout st) (queues_at + cell_size * (queue_depth * e + i)) ≡ get_or (cells_of (end_at st e)) i 0
  cell_read e i h k l =
      let at = cells_at e i h k in
      let within : queue_depth * e + i < length (all_cells st.ends) = omega (arith, length_all_cells st.ends, z.ends_sized) in
      ap (λ (m : List ℕ). number_at cell_size m (queues_at + cell_size * (queue_depth * e + i))) (layout_is st)
      ∙ number_cell st.code st.records (free_word st.ends) (partners_of st.ends) (counts_of st.ends) (all_cells st.ends)
      z.records_sized
      partners_long counts_long (queue_depth * e + i) within (rw at l)
      ∙ at

  -- an end's four sections, one after the other
  pub end_written : (e : ℕ) (x : EndState) → e < end_count
      → put_at (put_at (put_at (put_at (layout st) free_at (bytes_of free_size (free_word (set st.ends e x)))) (partners_at + e)
      (partner_byte x ∷ []))
      (counts_at + e) (queue_length x ∷ [])) (queues_at + cell_size * (queue_depth * e)) (flat (bytes_of cell_size) (cells_of x))
      ≡ layout (set_end st e x)
  end_written e x h =
      let c = st.code in
      let r = st.records in
      let w = free_word (set st.ends e x) in
      let p = partners_of st.ends in
      let q = counts_of st.ends in
      let s = all_cells st.ends in
      let p_long : length (set p e (partner_byte x)) ≡ end_count = length-set p e (partner_byte x) ∙ partners_long in
      let q_long : length (set q e (queue_length x)) ≡ end_count = length-set q e (queue_length x) ∙ counts_long in
      let within : queue_depth * e + length (cells_of x) ≤ length s = omega
      (arith, length_all_cells st.ends, z.ends_sized, length_cells x) in
      ap (λ (m : List ℕ). after_word (put_at m free_at (bytes_of free_size w))) (layout_is st)
      ∙ ap after_word (put_word c r (free_word st.ends) p q s z.records_sized partners_long counts_long w)
      ∙ ap after_partner (put_partner c r w p q s z.records_sized partners_long counts_long e (partner_byte x) h)
      ∙ ap after_count (put_count c r w (set p e (partner_byte x)) q s z.records_sized p_long counts_long e (queue_length x) h)
      ∙ put_cells c r w (set p e (partner_byte x)) (set q e (queue_length x)) z.records_sized p_long q_long s (queue_depth * e)
      (cells_of x) within
      ∙ sym (λ i. sectioned c r w (partners_set st.ends e x i) (counts_set st.ends e x i)
      (cells_set st.ends e x (omega (arith, z.ends_sized)) i))
      ∙ sym (layout_is (set_end st e x))
    where
      after_count : List ℕ → List ℕ
      after_count m = put_at m (queues_at + cell_size * (queue_depth * e)) (flat (bytes_of cell_size) (cells_of x))

      after_partner : List ℕ → List ℕ
      after_partner m = after_count (put_at m (counts_at + e) (queue_length x ∷ []))

      after_word : List ℕ → List ℕ
      after_word m = after_partner (put_at m (partners_at + e) (partner_byte x ∷ []))
