-- A memory as the sections of the ends, changed one section after the other: what each write of `section` makes of it, and that the
-- sections of a state with one end anew are that state's layout. A section that an end leaves as it was is the same list. Assumes nothing.
use mathlib.Core.Path.{◌≡◌, sym, ap, ◌∙◌}
use mathlib.Core.List.{List, [], ◌∷◌}
use Prim.Native.Nat.{ℕ, zero, suc, ◌+◌, ◌*◌, ◌≤◌, ◌<◌}
use native.Mathlib.Nat.{mul-zero, mul-suc, zero-add, le_of_suc-le-suc}
use native.Mathlib.Omega.{arith}
use lib.ListN.{length, get_or, set, length-set, length-map}
use lib.Seq.{map-set_same, set-append_left}
use Rattle.rules.specs.Limits.{end_count, queue_depth}
use Rattle.rules.specs.Bytes.{bytes_of, flat}
use Rattle.rules.specs.State.{State, EndState, free_end, end_at, set_end, queue_length}
use Rattle.rules.specs.Layout.{free_size, cell_size, free_at, queues_at, free_word, partner_byte, layout}
use Rattle.words.specs.Parts.{put_at}
use Rattle.words.proofs.Parts.{put_skip, length_put}
use Rattle.words.proofs.Pieces.{flat_same}
use Rattle.keeping.proofs.LayoutLaws.{Sized}
use Rattle.memory.specs.Sections.{sectioned, cells_of, partners_of, counts_of, all_cells}
use Rattle.memory.proofs.Sections.{layout_is, put_word, put_partner, put_count, put_cell, put_cells}
use Rattle.memory.proofs.States.{length_cells, length_all_cells}
use Rattle.ends.specs.Sections.{with_word, with_partner_byte, with_count, cell_at, with_cell, with_cells}

-- m has the code and the records of a state, and these sections of ends
pub record Parts (st : State) (m : List ℕ) (word : ℕ) (partners counts cells : List ℕ) : Type 0 where
  pub is : m ≡ sectioned st.code st.records word partners counts cells
  pub partners_long : length partners ≡ end_count
  pub counts_long : length counts ≡ end_count
  pub cells_long : length cells ≡ queue_depth * end_count

-- ---- one cell of one queue

module _ {A : Type 0} (f : A → List ℕ) (w : ℕ) (wide : (x : A) → length (f x) ≡ w) where
  flat_one : (xs : List A) (i k : ℕ) (x d : A) (n : ℕ) → i < length xs → k < w → f x ≡ set (f (get_or xs i d)) k n
      → flat f (set xs i x) ≡ set (flat f xs) (w * i + k) n
  unfolding flat
  flat_one [] i k x d n h l e = absurd (omega arith)
  flat_one (a ∷ xs) zero k x d n h l e =
      let inside : k < length (f a) = rw (wide a) l in
      rw (mul-zero w, zero-add k, set-append_left (f a) (flat f xs) k n inside, e)
  flat_one (a ∷ xs) (suc i) k x d n h l e =
      let at : w * suc i + k ≡ length (f a) + (w * i + k) = rw (mul-suc w i, wide a) (omega arith) in
      rw (at, put_skip (f a) (flat f xs) (w * i + k) (n ∷ []), flat_one xs i k x d n (le_of_suc-le-suc h) l e)

module _ {st : State} (z : Sized st) where
  -- ---- the layout, and each write

  pub parts : {m : List ℕ} → m ≡ layout st
      → Parts st m (free_word st.ends) (partners_of st.ends) (counts_of st.ends) (all_cells st.ends)
  unfolding partners_of counts_of
  parts e = record {
    is = e ∙ layout_is st;
    partners_long = length-map st.ends partner_byte ∙ z.ends_sized;
    counts_long = length-map st.ends queue_length ∙ z.ends_sized;
    cells_long = length_all_cells st.ends ∙ ap (λ (k : ℕ). queue_depth * k) z.ends_sized;
  }

  module _ {m : List ℕ} {word : ℕ} {partners counts cells : List ℕ} (p : Parts st m word partners counts cells) where
    pub word_put : (word' : ℕ) {m' : List ℕ} → m' ≡ with_word m word' → Parts st m' word' partners counts cells
    unfolding with_word
    word_put word' e = record {
      is =
          e ∙ ap (λ (b : List ℕ). put_at b free_at (bytes_of free_size word')) p.is
          ∙ put_word st.code st.records word partners counts cells z.records_sized p.partners_long p.counts_long word';
      partners_long = p.partners_long;
      counts_long = p.counts_long;
      cells_long = p.cells_long;
    }

    pub partner_put : (e partner : ℕ) {m' : List ℕ} → e < end_count → m' ≡ with_partner_byte m e partner
        → Parts st m' word (set partners e partner) counts cells
    partner_put e partner h q = record {
      is =
          q ∙ ap (λ (b : List ℕ). with_partner_byte b e partner) p.is
          ∙ put_partner st.code st.records word partners counts cells z.records_sized p.partners_long p.counts_long
          e partner h;
      partners_long = length-set partners e partner ∙ p.partners_long;
      counts_long = p.counts_long;
      cells_long = p.cells_long;
    }

    pub count_put : (e count : ℕ) {m' : List ℕ} → e < end_count → m' ≡ with_count m e count
        → Parts st m' word partners (set counts e count) cells
    count_put e count h q = record {
      is =
          q ∙ ap (λ (b : List ℕ). with_count b e count) p.is
          ∙ put_count st.code st.records word partners counts cells z.records_sized p.partners_long p.counts_long e count h;
      partners_long = p.partners_long;
      counts_long = length-set counts e count ∙ p.counts_long;
      cells_long = p.cells_long;
    }

    pub cell_put : (e i cell : ℕ) {m' : List ℕ} → e < end_count → i < queue_depth → m' ≡ with_cell m e i cell
        → Parts st m' word partners counts (set cells (queue_depth * e + i) cell)
    unfolding with_cell
    cell_put e i cell h k q = record {
      is =
          let inside : queue_depth * e + i < length cells = rw p.cells_long (omega arith) in
          q ∙ ap (λ (b : List ℕ). put_at b (cell_at e i) (bytes_of cell_size cell)) p.is
          ∙ put_cell st.code st.records word partners counts cells z.records_sized p.partners_long p.counts_long
          (queue_depth * e + i) cell inside;
      partners_long = p.partners_long;
      counts_long = p.counts_long;
      cells_long = length-set cells (queue_depth * e + i) cell ∙ p.cells_long;
    }

    pub cells_put : (e : ℕ) (new : List ℕ) {m' : List ℕ} → e < end_count → length new ≡ queue_depth → m' ≡ with_cells m e new
        → Parts st m' word partners counts (put_at cells (queue_depth * e) new)
    unfolding with_cells
    cells_put e new h k q = record {
      is =
          let inside : queue_depth * e + length new ≤ length cells = rw (p.cells_long, k) (omega arith) in
          let at : cell_at e 0 ≡ queues_at + cell_size * (queue_depth * e) = omega arith in
          q ∙ ap (λ (b : List ℕ). put_at b (cell_at e 0) (flat (bytes_of cell_size) new)) p.is
          ∙ ap (λ (i : ℕ). put_at (sectioned st.code st.records word partners counts cells) i (flat (bytes_of cell_size) new)) at
          ∙ put_cells st.code st.records word partners counts z.records_sized p.partners_long p.counts_long
          cells (queue_depth * e) new inside;
      partners_long = p.partners_long;
      counts_long = p.counts_long;
      cells_long = length_put cells (queue_depth * e) new ∙ p.cells_long;
    }

    -- the sections of the state with end e anew
    pub anew : (e : ℕ) (x : EndState) → free_word (set st.ends e x) ≡ word → partners_of (set st.ends e x) ≡ partners
        → counts_of (set st.ends e x) ≡ counts → all_cells (set st.ends e x) ≡ cells → m ≡ layout (set_end st e x)
    anew e x a b c d = p.is ∙ sym (layout_is (set_end st e x) ∙ (λ i. sectioned st.code st.records (a i) (b i) (c i) (d i)))

  -- ---- sections that an end leaves as they were

  module _ (e : ℕ) (x : EndState) where
    pub partners_kept : partner_byte x ≡ partner_byte (end_at st e) → partners_of (set st.ends e x) ≡ partners_of st.ends
    unfolding partners_of
    partners_kept h = map-set_same partner_byte st.ends e x free_end h

    pub counts_kept : queue_length x ≡ queue_length (end_at st e) → counts_of (set st.ends e x) ≡ counts_of st.ends
    unfolding counts_of
    counts_kept h = map-set_same queue_length st.ends e x free_end h

    pub cells_kept : cells_of x ≡ cells_of (end_at st e) → all_cells (set st.ends e x) ≡ all_cells st.ends
    unfolding all_cells
    cells_kept h = flat_same cells_of st.ends e x free_end h

    -- one cell changed
    pub cell_changed : (i cell : ℕ) → e < end_count → i < queue_depth → cells_of x ≡ set (cells_of (end_at st e)) i cell
        → all_cells (set st.ends e x) ≡ set (all_cells st.ends) (queue_depth * e + i) cell
    unfolding all_cells
    cell_changed i cell h k q = flat_one cells_of queue_depth length_cells st.ends e i x free_end cell (rw z.ends_sized h) k q
