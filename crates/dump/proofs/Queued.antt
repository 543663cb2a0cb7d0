-- The items of one queue as they are shown: as many as are queued, and each is the item at its index. And the line of an end by what is
-- read of it. Assumes nothing.
use mathlib.Core.Path.{◌≡◌, refl, sym, ap, ◌∙◌}
use mathlib.Core.Bool.{true, false}
use mathlib.Core.Option.{Option, none, some}
use mathlib.Core.List.{List, [], ◌∷◌, ◌++◌, map}
use Prim.Native.Nat.{ℕ, zero, suc, ◌<◌}
use native.Mathlib.Nat.{le_of_suc-le-suc}
use native.Mathlib.Omega.{arith}
use lib.ListN.{length, get_or, length-append, length-map}
use Rattle.rules.specs.Limits.{queue_depth}
use Rattle.rules.specs.State.{Datum, Last, Item, EndState, free_end, used, end_at, end_or, is_free_end, partner_of, queue_length}
use Rattle.rules.specs.Text.{text, decimal}
use Rattle.rules.specs.Layout.{view}
use Rattle.rules.proofs.TestLaws.{true_is_not_false}
use Rattle.keeping.specs.Demand3.{SoundMemory}
use Rattle.ends.specs.Ends.{item_at}
use Rattle.ends.proofs.Fitting.{sound_fits}
use Rattle.ends.proofs.Queues.{queue_within}
use Rattle.dump.specs.Shown.{list_text, datum_text, last_text, item_text, last_texts, queue_texts, end_text}
use Rattle.dump.specs.Pieces.{item_texts}

-- ---- how many items

pub items_count : (x : EndState) → length (item_texts x) ≡ queue_length x
unfolding item_texts queue_texts last_texts
items_count free_end = refl
items_count (used m ds none) = omega (arith, length-append (map datum_text ds) [], length-map ds datum_text)
items_count (used m ds (some l)) = omega (arith, length-append (map datum_text ds) (last_text l ∷ []), length-map ds datum_text)

-- an index within the queue is within the cells
pub index_within : (m : List ℕ) → SoundMemory m → (e k : ℕ) → k < length (item_texts (end_at (view m) e)) → k < queue_depth
index_within m s e k h =
    let x = end_at (view m) e in omega (arith, h, items_count x, queue_within x (sound_fits (view m) s.state_sound e))

-- ---- the item at an index

-- what an item shows; none, nothing
abbrev text_in : Option Item → List ℕ
text_in none = []
text_in (some i) = item_text i

none_left : (m k : ℕ) → [] ≡ text_in (item_at k (used m [] none))
unfolding item_at
none_left m zero = refl
none_left m (suc k) = none_left m k

queue_at : (m : ℕ) (ds : List Datum) (l : Option Last) (k : ℕ) → get_or (queue_texts ds l) k [] ≡ text_in (item_at k (used m ds l))
unfolding queue_texts last_texts item_at item_text
queue_at m [] none k = none_left m k
queue_at m [] (some l) zero = refl
queue_at m [] (some l) (suc k) = none_left m k
queue_at m (d ∷ ds) l zero = refl
queue_at m (d ∷ ds) l (suc k) = queue_at m ds l k

-- the item that is found is the one shown
pub item_shown : (x : EndState) (k : ℕ) (i : Item) → some i ≡ item_at k x → item_text i ≡ get_or (item_texts x) k []
unfolding item_texts item_at
item_shown free_end k i e = go k e
  where
    go : (k : ℕ) → some i ≡ item_at k free_end → item_text i ≡ []
    go zero e = absurd (let z : ◌≡◌ {A = ℕ} 0 1 = cc in omega arith)
    go (suc k) e = go k e
item_shown (used m ds l) k i e = ap text_in e ∙ sym (queue_at m ds l k)

-- an index within the queue has one
pub item_there : {A : Type 0} (x : EndState) (k : ℕ) → k < length (item_texts x) → none ≡ item_at k x → A
unfolding item_texts queue_texts last_texts item_at
item_there free_end k h e = absurd (omega arith)
item_there (used m [] none) k h e = absurd (omega arith)
item_there (used m [] (some l)) zero h e = absurd (let z : ◌≡◌ {A = ℕ} 0 1 = cc in omega arith)
item_there (used m [] (some l)) (suc k) h e = absurd (omega arith)
item_there (used m (d ∷ ds) l) zero h e = absurd (let z : ◌≡◌ {A = ℕ} 0 1 = cc in omega arith)
item_there (used m (d ∷ ds) l) (suc k) h e = item_there (used m ds l) k (le_of_suc-le-suc h) e

-- ---- the line of an end

pub free_line : (e : ℕ) (x : EndState) → is_free_end x ≡ true → [] ≡ end_text e x
unfolding end_text
free_line e free_end h = refl
free_line e (used m ds l) h = true_is_not_false h refl

-- the words in front of the queue
abbrev pub head_text : (e partner : ℕ) → List ℕ
head_text e partner = text "E" ++ decimal e ++ text " partner " ++ decimal partner ++ text " queue "

pub used_line : (e : ℕ) (x : EndState) → is_free_end x ≡ false
    → head_text e (end_or 0 (partner_of x)) ++ list_text (item_texts x) ++ 10 ∷ [] ≡ end_text e x
unfolding end_text item_texts text
used_line e free_end h = true_is_not_false refl h
used_line e (used m ds l) h = refl
