-- What a memory of the right length shows, record by record and end by end: record r is read from its 141 bytes, end e from its bit, its
-- partner, its count and its 64 bytes. For any bytes, right or not. Assumes nothing.
use mathlib.Core.Path.{◌≡◌, refl, ap, ◌∙◌}
use mathlib.Core.Bool.{Bool, true, false}
use mathlib.Core.List.{List, [], ◌∷◌}
use Prim.Native.Nat.{ℕ, zero, suc, ◌+◌, ◌*◌, ◌/◌, ◌%◌, ◌^◌, ◌<◌}
use native.Mathlib.Nat.{add_assoc, pow-succ', le_of_suc-le-suc}
use native.Mathlib.Omega.{arith}
use lib.ListN.{length, get_or, take, drop, length-map, get_or-map}
use lib.Seq.{get_or-drop, drop-drop}
use borrow.Author.Tests.{eqb-true, eqb-false}
use Rattle.rules.specs.Limits.{record_count, end_count}
use Rattle.rules.specs.Bytes.{number_at, pieces}
use Rattle.rules.specs.State.{EndState, free_end, record_at, end_at}
use Rattle.rules.specs.Slots.{low_bit, in_set}
use Rattle.rules.specs.Layout.{record_size, free_size, queue_size, records_at, free_at, partners_at, counts_at, queues_at, free_word}
use Rattle.rules.specs.Layout.{view_status}
use Rattle.rules.specs.Layout.{view_record, view_end, view_ends, view}
use Rattle.words.specs.Parts.{Bytes}
use Rattle.words.proofs.Pieces.{length_pieces, get_d_pieces}
use Rattle.canonical.specs.Canonical.{record_part, free_in, queue_part}
use Rattle.canonical.proofs.Bytes.{bytes_drop, number_fits}

-- a number in what stands behind a part
pub number_drop : (k at : ℕ) (m : List ℕ) (o : ℕ) → number_at k (drop at m) o ≡ number_at k m (at + o)
number_drop zero at m o = refl
number_drop (suc k) at m o = rw (get_or-drop at m o 0, number_drop k at m (o + 1), add_assoc at o 1)

-- ---- ends

length_ends : (n w : ℕ) (ps cs qs : List ℕ) → length (view_ends n w ps cs qs) ≡ n
unfolding view_ends
length_ends zero w ps cs qs = refl
length_ends (suc n) w ps cs qs = ap suc (length_ends n (w / 2) (drop 1 ps) (drop 1 cs) (drop queue_size qs))

end_at_lem : (n w : ℕ) (ps cs qs : List ℕ) (e : ℕ) → e < n
    → get_or (view_ends n w ps cs qs) e free_end ≡ view_end (in_set w e) (get_or ps e 0) (get_or cs e 0)
    (take queue_size (drop (queue_size * e) qs))
unfolding view_ends in_set
end_at_lem zero w ps cs qs e h = absurd (omega arith)
end_at_lem (suc n) w ps cs qs zero h = refl
end_at_lem (suc n) w ps cs qs (suc e) h =
    let one : 1 + e ≡ suc e = omega arith in
    let far : queue_size + queue_size * e ≡ queue_size * suc e = omega arith in
    end_at_lem n (w / 2) (drop 1 ps) (drop 1 cs) (drop queue_size qs) e (le_of_suc-le-suc h)
    ∙ rw (get_or-drop 1 ps e 0, get_or-drop 1 cs e 0, drop-drop (queue_size * e) queue_size qs, one, far)

-- the word of free ends is that of the ends shown
word_shown : (n w : ℕ) (ps cs qs : List ℕ) → w < 2 ^ n → free_word (view_ends n w ps cs qs) ≡ w
unfolding view_ends view_end free_word
word_shown zero w ps cs qs h = omega arith
word_shown (suc n) w ps cs qs h =
    go (low_bit w) refl (word_shown n (w / 2) (drop 1 ps) (drop 1 cs) (drop queue_size qs) (omega (arith, pow-succ' 2 n)))
  where
    rest : List EndState
    rest = view_ends n (w / 2) (drop 1 ps) (drop 1 cs) (drop queue_size qs)

    go : (b : Bool) → low_bit w ≡ b → free_word rest ≡ w / 2
        → free_word (view_end b (get_or ps 0 0) (get_or cs 0 0) (take queue_size qs) ∷ rest) ≡ w
    go true q e = let odd : w % 2 ≡ 1 = eqb-true (w % 2) 1 q in omega arith
    go false q e = let even : w % 2 ≡ 1 → ⊥ = eqb-false (w % 2) 1 q in omega arith

module _ (m : List ℕ) where
  pub records_shown : length (view m).records ≡ record_count
  unfolding view
  records_shown =
      length-map (pieces record_count record_size (drop records_at m)) view_record
      ∙ length_pieces record_count record_size (drop records_at m)

  pub ends_shown : length (view m).ends ≡ end_count
  unfolding view
  ends_shown =
      length_ends end_count (number_at free_size (drop free_at m) 0) (drop partners_at m) (drop counts_at m) (drop queues_at m)

  pub word_is : Bytes m → free_word (view m).ends ≡ number_at free_size m free_at
  unfolding view
  word_is b =
      word_shown end_count (number_at free_size (drop free_at m) 0) (drop partners_at m) (drop counts_at m) (drop queues_at m)
      (number_fits free_size (drop free_at m) 0 (bytes_drop free_at m b))
      ∙ number_drop free_size free_at m 0

  pub record_shown : (r : ℕ) → r < record_count → record_at (view m) r ≡ view_record (record_part m r)
  unfolding view view_record view_status
  record_shown r h =
      get_or-map view_record (pieces record_count record_size (drop records_at m)) r []
      ∙ ap view_record (get_d_pieces record_count record_size (drop records_at m) r h
      ∙ ap (take record_size) (drop-drop (record_size * r) records_at m))

  pub end_shown : (e : ℕ) → e < end_count
      → end_at (view m) e ≡ view_end (free_in m e) (get_or m (partners_at + e) 0) (get_or m (counts_at + e) 0) (queue_part m e)
  unfolding view
  end_shown e h =
      end_at_lem end_count (number_at free_size (drop free_at m) 0) (drop partners_at m) (drop counts_at m) (drop queues_at m) e h
      ∙ rw (
        number_drop free_size free_at m 0,
        get_or-drop partners_at m e 0,
        get_or-drop counts_at m e 0,
        drop-drop
            (queue_size * e) queues_at m,
      )
