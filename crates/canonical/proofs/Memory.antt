-- S1 on bytes is S1 of the state that they show: a memory of the right length passes `canonical_bytes` exactly if it is the layout of the
-- state that it shows and that state is within the limits (`canonical_from`, `canonical_to`). The idea: the layout is the memory exactly if
-- each of its sections is that section of the memory, and a section of pieces exactly if each piece is. Assumes nothing.
use mathlib.Core.Path.{◌≡◌, refl, sym, ap, ◌∙◌, subst}
use mathlib.Core.Bool.{true}
use mathlib.Core.List.{List, [], ◌++◌, map}
use Prim.Native.Nat.{ℕ, ◌+◌, ◌-◌, ◌*◌, ◌≤◌, ◌<◌}
use native.Mathlib.Decide.{dec_lt}
use native.Mathlib.Omega.{arith}
use lib.ListN.{length, get_or, take, drop, length-drop, length-map, get_or-eq_default}
use lib.Seq.{take_all, get_or-drop, drop-drop}
use lib.Dec.{leb}
use borrow.Author.Tests.{lt-ltb, le-leb, leb-true, eq-eqb}
use Rattle.rules.specs.Limits.{record_count, end_count, code_limit}
use Rattle.rules.specs.Bytes.{bytes_of, number_at, flat, pad}
use Rattle.rules.specs.State.{State, free_end, free_record, record_at, end_at, queue_length}
use Rattle.rules.specs.SoundTest.{record_within, end_within, byte_within, within}
use Rattle.rules.specs.Layout.{record_size, free_size, queue_size, records_at, free_at, partners_at, counts_at, queues_at, state_size}
use Rattle.rules.specs.Layout.{record_bytes}
use Rattle.rules.specs.Layout.{free_word, partner_byte, queue_bytes, layout, view}
use Rattle.rules.proofs.TestLaws.{left_of, right_of, both, all_at, all_from, every_at, all_true_read, all_true_write}
use Rattle.words.specs.Parts.{Bytes}
use Rattle.words.proofs.Numbers.{length_bytes, bytes_number, number_bytes, number_in}
use Rattle.words.proofs.Pads.{length_pad}
use Rattle.words.proofs.Pieces.{length_flat}
use Rattle.keeping.proofs.LayoutLaws.{length_record, length_queue}
use Rattle.canonical.specs.Canonical.{part, all_zero, code_length, canonical_code, record_part, free_in, queue_part, record_test, end_test}
use Rattle.canonical.specs.Canonical.{canonical_bytes}
use Rattle.canonical.proofs.Tests.{every_below}
use Rattle.canonical.proofs.Bytes.{bytes_take, bytes_drop, length_part, cut_off, cut_at, flat_from, flat_at, map_from, map_at}
use Rattle.canonical.proofs.Padding.{first_from, first_to}
use Rattle.canonical.proofs.RecordBytes.{record_from, record_to}
use Rattle.canonical.proofs.EndBytes.{EndSame, end_from, end_to}
use Rattle.canonical.proofs.Shown.{records_shown, ends_shown, word_is, record_shown, end_shown}

-- ---- sections

-- the sections of a state's layout are those of the memory
record Sections (st : State) (m : List ℕ) : Type 0 where
  code_length_is : bytes_of 2 (length st.code) ≡ take 2 m
  code_bytes : pad code_limit 0 st.code ≡ take code_limit (drop 2 m)
  record_bytes_lem : flat record_bytes st.records ≡ take (record_size * record_count) (drop records_at m)
  free_bytes : bytes_of free_size (free_word st.ends) ≡ take free_size (drop free_at m)
  partner_bytes : map partner_byte st.ends ≡ take end_count (drop partners_at m)
  count_bytes : map queue_length st.ends ≡ take end_count (drop counts_at m)
  queue_bytes_lem : flat queue_bytes st.ends ≡ drop queues_at m

-- a memory by its sections
in_sections : (m : List ℕ) → m ≡ take 2 m ++ (take code_limit (drop 2 m) ++ (take (record_size * record_count) (drop records_at m)
    ++ (take free_size (drop free_at m) ++
    (take end_count (drop partners_at m) ++ (take end_count (drop counts_at m) ++ drop queues_at m)))))
in_sections m =
    let a = cut_at 0 2 m in
    let b = cut_at 2 code_limit m in
    let c = cut_at records_at (record_size * record_count) m in
    let d = cut_at free_at free_size m in
    let e = cut_at partners_at end_count m in
    let f = cut_at counts_at end_count m in
    let ef = e ∙ ap (λ (r : List ℕ). take end_count (drop partners_at m) ++ r) f in
    let df = d ∙ ap (λ (r : List ℕ). take free_size (drop free_at m) ++ r) ef in
    let cf = c ∙ ap (λ (r : List ℕ). take (record_size * record_count) (drop records_at m) ++ r) df in
    a ∙ ap (λ (r : List ℕ). take 2 m ++ r) (b ∙ ap (λ (r : List ℕ). take code_limit (drop 2 m) ++ r) cf)

sections_join : (st : State) (m : List ℕ) → Sections st m → layout st ≡ m
unfolding layout
sections_join st m s =
    (λ i. s.code_length_is i ++ (s.code_bytes i ++ (s.record_bytes_lem i ++ (s.free_bytes i ++ (s.partner_bytes i ++ (s.count_bytes i
    ++ s.queue_bytes_lem i))))))
    ∙ sym (in_sections m)

sections_cut : (st : State) → length st.records ≡ record_count → length st.ends ≡ end_count → (m : List ℕ)
    → layout st ≡ m → Sections st m
unfolding layout
sections_cut st nr ne m e =
    let code = pad code_limit 0 st.code in
    let records = flat record_bytes st.records in
    let word = bytes_of free_size (free_word st.ends) in
    let partners = map partner_byte st.ends in
    let counts = map queue_length st.ends in
    let behind_partners = counts ++ flat queue_bytes st.ends in
    let behind_word = partners ++ behind_partners in
    let behind_records = word ++ behind_word in
    let records_long = length_flat record_bytes record_size length_record st.records ∙ ap (λ (k : ℕ). record_size * k) nr in
    let a = cut_off 0 2 (bytes_of 2 (length st.code)) (code ++ (records ++ behind_records)) m refl e in
    let b = cut_off 2 code_limit code (records ++ behind_records) m (length_pad code_limit 0 st.code) a.1 in
    let c = cut_off records_at (record_size * record_count) records behind_records m records_long b.1 in
    let d = cut_off free_at free_size word behind_word m (length_bytes free_size (free_word st.ends)) c.1 in
    let f = cut_off partners_at end_count partners behind_partners m (length-map st.ends partner_byte ∙ ne) d.1 in
    let g = cut_off counts_at end_count counts (flat queue_bytes st.ends) m (length-map st.ends queue_length ∙ ne) f.1 in
    record {
      code_length_is = a.0;
      code_bytes = b.0;
      record_bytes_lem = c.0;
      free_bytes = d.0;
      partner_bytes = f.0;
      count_bytes = g.0;
      queue_bytes_lem = g.1;
    }

no_partner : partner_byte free_end ≡ 0
unfolding partner_byte
no_partner = refl

-- ---- pieces

module _ (m : List ℕ) (b : Bytes m) (l : length m ≡ state_size) where
  record_long : (r : ℕ) → r < record_count → length (record_part m r) ≡ record_size
  record_long r h = length_part (records_at + record_size * r) record_size m (omega arith)

  record_bytes_are : (r : ℕ) → Bytes (record_part m r)
  record_bytes_are r = bytes_take record_size (drop (records_at + record_size * r) m) (bytes_drop (records_at + record_size * r) m b)

  queue_long : (e : ℕ) → e < end_count → length (queue_part m e) ≡ queue_size
  queue_long e h = length_part (queues_at + queue_size * e) queue_size m (omega arith)

  queue_bytes_are : (e : ℕ) → Bytes (queue_part m e)
  queue_bytes_are e = bytes_take queue_size (drop (queues_at + queue_size * e) m) (bytes_drop (queues_at + queue_size * e) m b)

  -- record r, written again, is its bytes, and is within the limits
  abbrev RecordRight : ℕ → Type 0
  RecordRight r = (record_bytes (record_at (view m) r) ≡ record_part m r) × (record_within (record_at (view m) r) ≡ true)

  record_right : (r : ℕ) → r < record_count → record_test m r ≡ true → RecordRight r
  unfolding record_test
  record_right r h t = rw (record_shown m r h) (record_from (record_part m r) (record_bytes_are r) (record_long r h) t)

  right_record : (r : ℕ) → r < record_count → RecordRight r → record_test m r ≡ true
  unfolding record_test
  right_record r h t = record_to (record_part m r) (record_bytes_are r) (record_long r h) (rw (record_shown m r h) at t)

  -- end e, written again, is its bytes, and is within the limits
  abbrev EndRight : ℕ → Type 0
  EndRight e = EndSame (end_at (view m) e) (get_or m (partners_at + e) 0) (get_or m (counts_at + e) 0) (queue_part m e)

  end_right : (e : ℕ) → e < end_count → end_test m e ≡ true → EndRight e
  unfolding end_test
  end_right e h t =
      rw (end_shown m e h)
      (end_from (get_or m (partners_at + e) 0) (get_or m (counts_at + e) 0) (queue_part m e) (queue_bytes_are e)
      (queue_long e h) (free_in m e) t)

  right_end : (e : ℕ) → e < end_count → EndRight e → end_test m e ≡ true
  unfolding end_test
  right_end e h t =
      end_to (get_or m (partners_at + e) 0) (get_or m (counts_at + e) 0) (queue_part m e) (queue_bytes_are e) (queue_long e h) (free_in m e)
      (rw (end_shown m e h) at t)

  -- ---- the code

  abbrev code : List ℕ
  code = (view m).code

  length_code : code_length m ≤ code_limit → length code ≡ code_length m
  unfolding view
  length_code h = length_part 2 (code_length m) m (omega arith)

  code_bytes_are : Bytes code
  unfolding view
  code_bytes_are = bytes_take (code_length m) (drop 2 m) (bytes_drop 2 m b)

  behind_code : take (code_limit - code_length m) (drop (code_length m) (drop 2 m)) ≡ part (2 + code_length m) records_at m
  behind_code =
      let e : code_limit - code_length m ≡ records_at - (2 + code_length m) = omega arith in
      ap (take (code_limit - code_length m)) (drop-drop (code_length m) 2 m) ∙ ap (λ (k : ℕ). take k (drop (2 + code_length m) m)) e

  -- ---- all of it

  sections_from : canonical_code m ≡ true → ((r : ℕ) → r < record_count → RecordRight r) → ((e : ℕ) → e < end_count → EndRight e)
      → Sections (view m) m
  unfolding canonical_code view
  sections_from t records ends =
      let n = code_length m in
      let few = leb-true n code_limit (left_of (leb n code_limit) (all_zero (part (2 + n) records_at m)) t) in
      let zero_behind = right_of (leb n code_limit) (all_zero (part (2 + n) records_at m)) t in
      let xs = (view m).ends in
      let nr = records_shown m in
      let ne = ends_shown m in
      let partners_fit : length xs ≤ length (drop partners_at m) = rw (length-drop partners_at m) (omega arith) in
      let counts_fit : length xs ≤ length (drop counts_at m) = rw (length-drop counts_at m) (omega arith) in
      record {
        code_length_is = ap (bytes_of 2) (length_code few) ∙ bytes_number 2 m 0 b (omega arith);
        code_bytes = first_from n (code_limit - n) code_limit (omega arith) (drop 2 m) (rw (length-drop 2 m) (omega arith))
            (rw behind_code zero_behind);
        record_bytes_lem = flat_from record_bytes record_size length_record free_record (view m).records (drop records_at m)
            (λ r h. (records r (omega arith)).0 ∙ ap (take record_size) (sym (drop-drop (record_size * r) records_at m)))
            ∙ ap (λ (k : ℕ). take (record_size * k) (drop records_at m)) nr;
        free_bytes = ap (bytes_of free_size) (word_is m b) ∙ bytes_number free_size m free_at b (omega arith);
        partner_bytes = map_from partner_byte free_end no_partner xs (drop partners_at m) partners_fit
            (λ e h. (ends e (omega arith)).partner_same ∙ sym (get_or-drop partners_at m e 0))
            ∙ ap (λ (k : ℕ). take k (drop partners_at m)) ne;
        count_bytes = map_from queue_length free_end refl xs (drop counts_at m) counts_fit
            (λ e h. (ends e (omega arith)).count_same ∙ sym (get_or-drop counts_at m e 0))
            ∙ ap (λ (k : ℕ). take k (drop counts_at m)) ne;
        queue_bytes_lem = flat_from queue_bytes queue_size length_queue free_end xs (drop queues_at m)
            (λ e h. (ends e (omega arith)).queue_same ∙ ap (take queue_size) (sym (drop-drop (queue_size * e) queues_at m)))
            ∙ take_all (queue_size * length xs) (drop queues_at m) (rw (length-drop queues_at m) (omega arith));
      }

  within_from : canonical_code m ≡ true → ((r : ℕ) → r < record_count → RecordRight r) → ((e : ℕ) → e < end_count → EndRight e)
      → within (view m) ≡ true
  unfolding canonical_code within byte_within record_within end_within
  within_from t records ends =
      let n = code_length m in
      let few = leb-true n code_limit (left_of (leb n code_limit) (all_zero (part (2 + n) records_at m)) t) in
      all_true_write _ (
        le-leb (length code) code_limit (omega (arith, length_code few)),
        (
          all_from byte_within 0 code (λ i. lt-ltb (get_or code i 0) 256 (code_bytes_are i)),
          (
            eq-eqb (length (view m).records) record_count (records_shown m),
            (
              eq-eqb (length (view m).ends) end_count (ends_shown m),
              (
                all_from record_within free_record (view m).records (λ r. at_record r (dec_lt r record_count)),
                (all_from end_within free_end (view m).ends (λ e. at_end e (dec_lt e end_count)), tt),
              ),
            ),
          ),
        ),
      )
    where
      at_record : (r : ℕ) → Dec (r < record_count) → record_within (record_at (view m) r) ≡ true
      at_record r (yes h) = (records r h).1
      at_record r (no h) = ap record_within (get_or-eq_default (view m).records free_record (omega (arith, records_shown m)))

      at_end : (e : ℕ) → Dec (e < end_count) → end_within (end_at (view m) e) ≡ true
      at_end e (yes h) = (ends e h).end_within_lem
      at_end e (no h) = ap end_within (get_or-eq_default (view m).ends free_end (omega (arith, ends_shown m)))

  -- the memory is the layout of what it shows, and that is within the limits
  abbrev pub Canonical : Type 0
  Canonical = (layout (view m) ≡ m) × (within (view m) ≡ true)

  pub canonical_from : canonical_bytes m ≡ true → Canonical
  unfolding canonical_bytes
  canonical_from h =
      let t = all_true_read _ h in
      let records : (r : ℕ) → r < record_count → RecordRight r = λ r k. record_right r k
      (every_at (record_test m) record_count t.1.0 r k) in
      let ends : (e : ℕ) → e < end_count → EndRight e = λ e k. end_right e k (every_at (end_test m) end_count t.1.1.0 e k) in
      (sections_join (view m) m (sections_from t.0 records ends), within_from t.0 records ends)

  code_to : Sections (view m) m → length code ≤ code_limit → canonical_code m ≡ true
  unfolding canonical_code view
  code_to s few =
      let n = code_length m in
      let same : n ≡ length code =
      number_in 2 m 0 2 0 (omega arith) ∙ ap (λ (r : List ℕ). number_at 2 r 0) (sym s.code_length_is)
      ∙ number_bytes 2 (length code) [] (omega arith) in
      both (le-leb n code_limit (omega arith)) (subst (λ (r : List ℕ). all_zero r ≡ true) behind_code
      (first_to n (code_limit - n) code_limit (omega arith) (drop 2 m) (rw (length-drop 2 m) (omega arith)) s.code_bytes))

  pub canonical_to : Canonical → canonical_bytes m ≡ true
  unfolding canonical_bytes within record_within end_within
  canonical_to c =
      let s = sections_cut (view m) (records_shown m) (ends_shown m) m c.0 in
      let w = all_true_read _ c.1 in
      let nr = records_shown m in
      let ne = ends_shown m in
      let xs = (view m).ends in
      let partners_fit : length xs ≤ length (drop partners_at m) = rw (length-drop partners_at m) (omega arith) in
      let counts_fit : length xs ≤ length (drop counts_at m) = rw (length-drop counts_at m) (omega arith) in
      let record_is = flat_at record_bytes record_size length_record free_record (view m).records (drop records_at m)
      (s.record_bytes_lem ∙ ap (λ (k : ℕ). take (record_size * k) (drop records_at m)) (sym nr)) in
      let partner_is = map_at partner_byte free_end no_partner xs (drop partners_at m) partners_fit
      (s.partner_bytes ∙ ap (λ (k : ℕ). take k (drop partners_at m)) (sym ne)) in
      let count_is = map_at queue_length free_end refl xs (drop counts_at m) counts_fit
      (s.count_bytes ∙ ap (λ (k : ℕ). take k (drop counts_at m)) (sym ne)) in
      let queue_is = flat_at queue_bytes queue_size length_queue free_end xs (drop queues_at m)
      (s.queue_bytes_lem ∙ sym (take_all (queue_size * length xs) (drop queues_at m) (rw (length-drop queues_at m) (omega arith)))) in
      let record_in = all_at record_within free_record refl (view m).records w.1.1.1.1.0 in
      let end_in = all_at end_within free_end refl xs w.1.1.1.1.1.0 in
      all_true_write _ (
        code_to s (leb-true (length code) code_limit w.0),
        (
          every_below (record_test m) record_count (λ r h. right_record r h
              (record_is r (omega arith) ∙ ap (take record_size) (drop-drop (record_size * r) records_at m), record_in r)),
          (
            every_below (end_test m) end_count (λ e h. right_end e h (record {
              partner_same = partner_is e (omega arith) ∙ get_or-drop partners_at m e 0;
              count_same = count_is e (omega arith) ∙ get_or-drop counts_at m e 0;
              queue_same = queue_is e (omega arith) ∙ ap (take queue_size) (drop-drop (queue_size * e) queues_at m);
              end_within_lem = end_in e;
            })),
            tt,
          ),
        ),
      )
