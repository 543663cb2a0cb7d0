-- The sections of the state memory: the layout of a state is its sections (`layout_is`), and for each section one law that replaces a
-- piece of it and one that reads a piece of it. Writing asks only for lengths. Assumes nothing.
use mathlib.Core.Path.{◌≡◌, refl, sym, ap, ◌∙◌, subst}
use mathlib.Core.List.{List, [], ◌∷◌, ◌++◌, map, append-nil}
use Prim.Native.Nat.{ℕ, ◌+◌, ◌*◌, ◌^◌, ◌≤◌, ◌<◌}
use native.Mathlib.Omega.{arith}
use lib.ListN.{length, get_or, set, take, drop, length-set, get_or-append}
use lib.Seq.{set-append_left}
use Rattle.rules.specs.Limits.{record_count, end_count, queue_depth, code_limit}
use Rattle.rules.specs.Bytes.{bytes_of, number_at, flat, pad}
use Rattle.rules.specs.State.{State, EndState, RecordState, free_record, queue_length}
use Rattle.rules.specs.Layout.{cell_size, record_size, free_size, records_at, free_at, partners_at, counts_at, queues_at, record_bytes}
use Rattle.rules.specs.Layout.{free_word}
use Rattle.rules.specs.Layout.{partner_byte, queue_cells, queue_bytes, layout}
use Rattle.words.specs.Parts.{put_at}
use Rattle.words.proofs.Parts.{put_skip, put_in, put_all, put_append}
use Rattle.words.proofs.Numbers.{length_bytes, number_skip, number_in, number_bytes}
use Rattle.words.proofs.Pads.{length_pad}
use Rattle.words.proofs.Pieces.{length_flat, put_flat, cut_flat, flat_append}
use Rattle.keeping.proofs.LayoutLaws.{length_record}
use Rattle.memory.specs.Sections.{sectioned, cells_of, partners_of, counts_of, all_cells}

-- ---- the layout of a state

flat_flat : {A : Type 0} (f : A → List ℕ) (g : ℕ → List ℕ) (xs : List A) → flat (λ (x : A). flat g (f x)) xs ≡ flat g (flat f xs)
unfolding flat
flat_flat f g [] = refl
flat_flat f g (x ∷ xs) = ap (λ (r : List ℕ). flat g (f x) ++ r) (flat_flat f g xs) ∙ sym (flat_append g (f x) (flat f xs))

queues_are : (xs : List EndState) → flat queue_bytes xs ≡ flat (bytes_of cell_size) (all_cells xs)
unfolding all_cells queue_bytes cells_of
queues_are xs = flat_flat (λ (x : EndState). pad queue_depth 0 (queue_cells x)) (bytes_of cell_size) xs

pub layout_is : (st : State) → layout st ≡ sectioned st.code st.records (free_word st.ends) (partners_of st.ends)
    (counts_of st.ends) (all_cells st.ends)
unfolding layout sectioned partners_of counts_of
layout_is st =
    ap
    (λ (q : List ℕ). bytes_of 2 (length st.code)
    ++ (pad code_limit 0 st.code ++ (flat record_bytes
    st.records ++ (bytes_of free_size (free_word st.ends) ++ (map partner_byte st.ends ++ (map queue_length st.ends ++ q))))))
    (queues_are st.ends)

-- ---- past a part of known length

put_behind : (x m : List ℕ) (n o : ℕ) (bytes : List ℕ) → length x ≡ n → put_at (x ++ m) (n + o) bytes ≡ x ++ put_at m o bytes
put_behind x m n o bytes e = subst (λ (k : ℕ). put_at (x ++ m) (k + o) bytes ≡ x ++ put_at m o bytes) e (put_skip x m o bytes)

number_behind : (k : ℕ) (x m : List ℕ) (n o : ℕ) → length x ≡ n → number_at k (x ++ m) (n + o) ≡ number_at k m o
number_behind k x m n o e = subst (λ (j : ℕ). number_at k (x ++ m) (j + o) ≡ number_at k m o) e (number_skip k x m o)

-- one byte, read as a number of one byte
byte_is : (m : List ℕ) (i : ℕ) (n : List ℕ) (j : ℕ) → number_at 1 m i ≡ number_at 1 n j → get_or m i 0 ≡ get_or n j 0
byte_is m i n j h = omega (arith, h)

-- a part written whole
put_whole : (x m bytes : List ℕ) → length bytes ≡ length x → put_at (x ++ m) 0 bytes ≡ bytes ++ m
put_whole x m bytes e = put_in x m 0 bytes (omega arith) ∙ ap (λ (r : List ℕ). r ++ m) (put_all x bytes e)

-- one element of a part
put_one : (x m : List ℕ) (i b : ℕ) → i < length x → put_at (x ++ m) i (b ∷ []) ≡ set x i b ++ m
put_one x m i b h = set-append_left x m i b h

module _ (code : List ℕ) (records : List RecordState) (word : ℕ) (partners counts cells : List ℕ) where
  -- what stands behind the code, behind the records, behind the word of free ends
  unfoldable pub behind_partners : List ℕ
  behind_partners = counts ++ flat (bytes_of cell_size) cells

  unfoldable pub behind_word : List ℕ
  behind_word = partners ++ behind_partners

  unfoldable pub behind_records : List ℕ
  behind_records = bytes_of free_size word ++ behind_word

  unfoldable pub behind_code : List ℕ
  behind_code = flat record_bytes records ++ behind_records

-- the memory, with something behind the code
abbrev pub with_code : (code m : List ℕ) → List ℕ
with_code code m = bytes_of 2 (length code) ++ (pad code_limit 0 code ++ m)

pub sections : (code : List ℕ) (records : List RecordState) (word : ℕ) (partners counts cells : List ℕ)
    → sectioned code records word partners counts cells ≡ with_code code (behind_code code records word partners counts cells)
unfolding sectioned behind_code behind_records behind_word behind_partners
sections code records word partners counts cells = refl

pub put_code : (code m : List ℕ) (o : ℕ) (bytes : List ℕ)
    → put_at (with_code code m) (records_at + o) bytes ≡ with_code code (put_at m o bytes)
put_code code m o bytes =
    let e : records_at + o ≡ 2 + (code_limit + o) = omega arith in
    ap (λ (k : ℕ). put_at (with_code code m) k bytes) e
    ∙ put_behind (bytes_of 2 (length code)) (pad code_limit 0 code ++ m) 2 (code_limit + o) bytes refl
    ∙ ap (λ (r : List ℕ). bytes_of 2 (length code) ++ r)
    (put_behind (pad code_limit 0 code) m code_limit o bytes (length_pad code_limit 0 code))

number_code : (k : ℕ) (code m : List ℕ) (o : ℕ) → number_at k (with_code code m) (records_at + o) ≡ number_at k m o
number_code k code m o =
    let e : records_at + o ≡ 2 + (code_limit + o) = omega arith in
    ap (λ (j : ℕ). number_at k (with_code code m) j) e
    ∙ number_behind k (bytes_of 2 (length code)) (pad code_limit 0 code ++ m) 2 (code_limit + o) refl
    ∙ number_behind k (pad code_limit 0 code) m code_limit o (length_pad code_limit 0 code)

-- ---- the laws, for any sections of the right lengths

module _ (code : List ℕ) (records : List RecordState) (word : ℕ) (partners counts cells : List ℕ) (nr : length records ≡ record_count)
    (np : length partners ≡ end_count) (nc : length counts ≡ end_count) where
  records_long : length (flat record_bytes records) ≡ record_size * record_count
  records_long = length_flat record_bytes record_size length_record records ∙ ap (λ (k : ℕ). record_size * k) nr

  -- past the records
  put_past_records : (o : ℕ) (bytes : List ℕ)
      → put_at (sectioned code records word partners counts cells) (free_at + o) bytes
      ≡ with_code code (flat record_bytes records ++ put_at (behind_records code records word partners counts cells) o bytes)
  unfolding behind_code
  put_past_records o bytes =
      let e : free_at + o ≡ records_at + (record_size * record_count + o) = omega arith in
      let rest = behind_records code records word partners counts cells in
      ap (λ (k : ℕ). put_at (sectioned code records word partners counts cells) k bytes) e
      ∙ ap (λ (m : List ℕ). put_at m (records_at + (record_size * record_count + o)) bytes)
      (sections code records word partners counts cells)
      ∙ put_code code (flat record_bytes records ++ rest) (record_size * record_count + o) bytes
      ∙ ap (with_code code) (put_behind (flat record_bytes records) rest (record_size * record_count) o bytes records_long)

  number_past_records : (k o : ℕ) → number_at k (sectioned code records word partners counts cells) (free_at + o)
      ≡ number_at k (behind_records code records word partners counts cells) o
  unfolding behind_code
  number_past_records k o =
      let e : free_at + o ≡ records_at + (record_size * record_count + o) = omega arith in
      let rest = behind_records code records word partners counts cells in
      ap (λ (j : ℕ). number_at k (sectioned code records word partners counts cells) j) e
      ∙ ap (λ (m : List ℕ). number_at k m (records_at + (record_size * record_count + o)))
      (sections code records word partners counts cells)
      ∙ number_code k code (flat record_bytes records ++ rest) (record_size * record_count + o)
      ∙ number_behind k (flat record_bytes records) rest (record_size * record_count) o records_long

  -- ---- records

  -- record i is replaced
  pub put_record : (i : ℕ) (x : RecordState) → i < record_count
      → put_at (sectioned code records word partners counts cells) (records_at + record_size * i) (record_bytes x)
      ≡ sectioned code (set records i x) word partners counts cells
  unfolding behind_code behind_records behind_word behind_partners
  put_record i x h =
      let rest = behind_records code records word partners counts cells in
      let last : record_size * i + record_size ≤ record_size * record_count = omega arith in
      let inside : record_size * i + length (record_bytes x) ≤ length (flat record_bytes records) = omega
      (arith, length_record x, records_long, last) in
      ap (λ (m : List ℕ). put_at m (records_at + record_size * i) (record_bytes x)) (sections code records word partners counts cells)
      ∙ put_code code (flat record_bytes records ++ rest) (record_size * i) (record_bytes x)
      ∙ ap (with_code code) (put_in (flat record_bytes records) rest (record_size * i) (record_bytes x) inside
      ∙ ap (λ (r : List ℕ). r ++ rest) (put_flat record_bytes record_size length_record records i x (omega (arith, nr))))
      ∙ sym (sections code (set records i x) word partners counts cells)

  -- a number within record i is read
  pub number_record : (k i o : ℕ) → i < record_count → o + k ≤ record_size
      → number_at k (sectioned code records word partners counts cells) (records_at + record_size * i + o)
      ≡ number_at k (record_bytes (get_or records i free_record)) o
  unfolding behind_code
  number_record k i o h l =
      let rest = behind_records code records word partners counts cells in
      let e : records_at + record_size * i + o ≡ records_at + (record_size * i + o) = omega arith in
      ap (λ (j : ℕ). number_at k (sectioned code records word partners counts cells) j) e
      ∙ ap (λ (m : List ℕ). number_at k m (records_at + (record_size * i + o))) (sections code records word partners counts cells)
      ∙ number_code k code (flat record_bytes records ++ rest) (record_size * i + o)
      ∙ number_in k (flat record_bytes records ++ rest) (record_size * i) record_size o l
      ∙ ap (λ (r : List ℕ). number_at k r o) (cut_flat record_bytes record_size length_record records i
      free_record rest (omega (arith, nr)))

  -- ---- the word of free ends

  pub put_word : (w : ℕ)
      → put_at (sectioned code records word partners counts cells) free_at (bytes_of free_size w)
      ≡ sectioned code records w partners counts cells
  unfolding behind_records behind_word behind_partners behind_code
  put_word w =
      put_past_records 0 (bytes_of free_size w)
      ∙ ap (λ (r : List ℕ). with_code code (flat record_bytes records ++ r))
      (put_whole (bytes_of free_size word) (behind_word code records word partners counts cells) (bytes_of free_size w)
      (length_bytes free_size w ∙ sym (length_bytes free_size word)))
      ∙ sym (sections code records w partners counts cells)

  pub number_word : word < 256 ^ free_size → number_at free_size (sectioned code records word partners counts cells) free_at ≡ word
  unfolding behind_records
  number_word h = number_past_records free_size 0 ∙ number_bytes free_size word (behind_word code records word partners counts cells) h

  -- ---- partners and counts

  put_past_word : (o : ℕ) (bytes : List ℕ)
      → put_at (sectioned code records word partners counts cells) (partners_at + o) bytes
      ≡ with_code code (flat record_bytes records
      ++ (bytes_of free_size word ++ put_at (behind_word code records word partners counts cells) o bytes))
  unfolding behind_records
  put_past_word o bytes =
      let e : partners_at + o ≡ free_at + (free_size + o) = omega arith in
      ap (λ (k : ℕ). put_at (sectioned code records word partners counts cells) k bytes) e ∙ put_past_records (free_size + o) bytes
      ∙ ap (λ (r : List ℕ). with_code code (flat record_bytes records ++ r))
      (put_behind (bytes_of free_size word) (behind_word code records word partners counts cells) free_size o bytes
      (length_bytes free_size word))

  number_past_word : (k o : ℕ) → number_at k (sectioned code records word partners counts cells) (partners_at + o)
      ≡ number_at k (behind_word code records word partners counts cells) o
  unfolding behind_records
  number_past_word k o =
      let e : partners_at + o ≡ free_at + (free_size + o) = omega arith in
      ap (λ (j : ℕ). number_at k (sectioned code records word partners counts cells) j) e ∙ number_past_records k (free_size + o)
      ∙ number_behind k (bytes_of free_size word) (behind_word code records word partners counts cells) free_size o
      (length_bytes free_size word)

  pub put_partner : (e b : ℕ) → e < end_count
      → put_at (sectioned code records word partners counts cells) (partners_at + e) (b ∷ [])
      ≡ sectioned code records word (set partners e b) counts cells
  unfolding behind_word behind_records behind_code behind_partners
  put_partner e b h =
      put_past_word e (b ∷ [])
      ∙ ap (λ (r : List ℕ). with_code code (flat record_bytes records ++ (bytes_of free_size word ++ r)))
      (put_one partners (behind_partners code records word partners counts cells) e b (omega (arith, np)))
      ∙ sym (sections code records word (set partners e b) counts cells)

  pub read_partner : (e : ℕ) → e < end_count → get_or (sectioned code records word partners counts cells) (partners_at + e) 0
      ≡ get_or partners e 0
  unfolding behind_word
  read_partner e h =
      byte_is (sectioned code records word partners counts cells) (partners_at + e) (behind_word code records word partners counts cells) e
      (number_past_word 1 e)
      ∙ get_or-append partners (behind_partners code records word partners counts cells) 0 e (omega (arith, np))

  put_past_partners : (o : ℕ) (bytes : List ℕ)
      → put_at (sectioned code records word partners counts cells) (counts_at + o) bytes
      ≡ with_code code (flat record_bytes records
      ++ (bytes_of free_size word ++ (partners ++ put_at (behind_partners code records word partners counts cells) o bytes)))
  unfolding behind_word
  put_past_partners o bytes =
      let e : counts_at + o ≡ partners_at + (end_count + o) = omega arith in
      ap (λ (k : ℕ). put_at (sectioned code records word partners counts cells) k bytes) e ∙ put_past_word (end_count + o) bytes
      ∙ ap (λ (r : List ℕ). with_code code (flat record_bytes records ++ (bytes_of free_size word ++ r)))
      (put_behind partners (behind_partners code records word partners counts cells) end_count o bytes np)

  number_past_partners : (k o : ℕ) → number_at k (sectioned code records word partners counts cells) (counts_at + o)
      ≡ number_at k (behind_partners code records word partners counts cells) o
  unfolding behind_word
  number_past_partners k o =
      let e : counts_at + o ≡ partners_at + (end_count + o) = omega arith in
      ap (λ (j : ℕ). number_at k (sectioned code records word partners counts cells) j) e ∙ number_past_word k (end_count + o)
      ∙ number_behind k partners (behind_partners code records word partners counts cells) end_count o np

  pub put_count : (e b : ℕ) → e < end_count
      → put_at (sectioned code records word partners counts cells) (counts_at + e) (b ∷ [])
      ≡ sectioned code records word partners (set counts e b) cells
  unfolding behind_partners behind_word behind_records behind_code
  put_count e b h =
      put_past_partners e (b ∷ [])
      ∙ ap (λ (r : List ℕ). with_code code (flat record_bytes records ++ (bytes_of free_size word ++ (partners ++ r))))
      (put_one counts (flat (bytes_of cell_size) cells) e b (omega (arith, nc)))
      ∙ sym (sections code records word partners (set counts e b) cells)

  pub read_count : (e : ℕ) → e < end_count → get_or (sectioned code records word partners counts cells)
      (counts_at + e) 0 ≡ get_or counts e 0
  unfolding behind_partners
  read_count e h =
      byte_is (sectioned code records word partners counts cells) (counts_at + e)
      (behind_partners code records word partners counts cells) e (number_past_partners 1 e)
      ∙ get_or-append counts (flat (bytes_of cell_size) cells) 0 e (omega (arith, nc))

  -- ---- cells

  put_past_counts : (o : ℕ) (bytes : List ℕ)
      → put_at (sectioned code records word partners counts cells) (queues_at + o) bytes
      ≡ with_code code (flat record_bytes records
      ++ (bytes_of free_size word ++ (partners ++ (counts ++ put_at (flat (bytes_of cell_size) cells) o bytes))))
  unfolding behind_partners
  put_past_counts o bytes =
      let e : queues_at + o ≡ counts_at + (end_count + o) = omega arith in
      ap (λ (k : ℕ). put_at (sectioned code records word partners counts cells) k bytes) e ∙ put_past_partners (end_count + o) bytes
      ∙ ap (λ (r : List ℕ). with_code code (flat record_bytes records ++ (bytes_of free_size word ++ (partners ++ r))))
      (put_behind counts (flat (bytes_of cell_size) cells) end_count o bytes nc)

  number_past_counts : (k o : ℕ) → number_at k (sectioned code records word partners counts cells) (queues_at + o)
      ≡ number_at k (flat (bytes_of cell_size) cells) o
  unfolding behind_partners
  number_past_counts k o =
      let e : queues_at + o ≡ counts_at + (end_count + o) = omega arith in
      ap (λ (j : ℕ). number_at k (sectioned code records word partners counts cells) j) e ∙ number_past_partners k (end_count + o)
      ∙ number_behind k counts (flat (bytes_of cell_size) cells) end_count o nc

  -- cell k is replaced
  pub put_cell : (k n : ℕ) → k < length cells
      → put_at (sectioned code records word partners counts cells) (queues_at + cell_size * k) (bytes_of cell_size n)
      ≡ sectioned code records word partners counts (set cells k n)
  unfolding behind_partners behind_word behind_records behind_code
  put_cell k n h =
      put_past_counts (cell_size * k) (bytes_of cell_size n)
      ∙ ap (λ (r : List ℕ). with_code code (flat record_bytes records ++ (bytes_of free_size word ++ (partners ++ (counts ++ r)))))
      (put_flat (bytes_of cell_size) cell_size (length_bytes cell_size) cells k n h)
      ∙ sym (sections code records word partners counts (set cells k n))

  -- cell k is read
  pub number_cell : (k : ℕ) → k < length cells → get_or cells k 0 < 256 ^ cell_size
      → number_at cell_size (sectioned code records word partners counts cells) (queues_at + cell_size * k) ≡ get_or cells k 0
  number_cell k h l =
      let all = flat (bytes_of cell_size) cells in
      number_past_counts cell_size (cell_size * k)
      ∙ ap (λ (j : ℕ). number_at cell_size all j) (omega arith)
      ∙ number_in cell_size all (cell_size * k) cell_size 0 (omega arith)
      ∙ ap (λ (r : List ℕ). number_at cell_size r 0)
      (ap (λ (r : List ℕ). take cell_size (drop (cell_size * k) r)) (sym (append-nil all))
      ∙ cut_flat (bytes_of cell_size) cell_size (length_bytes cell_size) cells k 0 [] h
      ∙ sym (append-nil (bytes_of cell_size (get_or cells k 0))))
      ∙ number_bytes cell_size (get_or cells k 0) [] l

-- several cells from k on are replaced
pub put_cells : (code : List ℕ) (records : List RecordState) (word : ℕ) (partners counts : List ℕ) → length records ≡ record_count
    → length partners ≡ end_count
    → length counts ≡ end_count → (cells : List ℕ) (k : ℕ) (ns : List ℕ) → k + length ns ≤ length cells
    → put_at (sectioned code records word partners counts cells) (queues_at + cell_size * k) (flat (bytes_of cell_size) ns)
    ≡ sectioned code records word partners counts (put_at cells k ns)
unfolding flat
put_cells code records word partners counts nr np nc cells k [] h = refl
put_cells code records word partners counts nr np nc cells k (n ∷ ns) h =
    let memory = sectioned code records word partners counts cells in
    let here : k < length cells = omega arith in
    let rest : k + 1 + length ns ≤ length (set cells k n) = rw (length-set cells k n) (omega arith) in
    let e : queues_at + cell_size * k + cell_size ≡ queues_at + cell_size * (k + 1) = omega arith in
    put_append memory (queues_at + cell_size * k) (bytes_of cell_size n) (flat (bytes_of cell_size) ns)
    ∙ ap (λ (j : ℕ). put_at (put_at memory (queues_at + cell_size * k) (bytes_of cell_size n)) (queues_at + cell_size * k + j)
    (flat (bytes_of cell_size) ns)) (length_bytes cell_size n)
    ∙ ap (λ (j : ℕ). put_at (put_at memory (queues_at + cell_size * k) (bytes_of cell_size n)) j (flat (bytes_of cell_size) ns)) e
    ∙ ap (λ (m : List ℕ). put_at m (queues_at + cell_size * (k + 1)) (flat (bytes_of cell_size) ns))
    (put_cell code records word partners counts cells nr np nc k n here)
    ∙ put_cells code records word partners counts nr np nc (set cells k n) (k + 1) ns rest
