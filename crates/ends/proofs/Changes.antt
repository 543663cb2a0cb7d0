-- The changes of one end on the memory: the writes of each, one after the other, leave the layout of the state with that end anew. What a
-- change leaves as it was is not written. Assumes nothing.
use mathlib.Core.Path.{◌≡◌, refl, sym, ap, ◌∙◌}
use mathlib.Core.Bool.{false}
use mathlib.Core.Option.{none}
use mathlib.Core.List.{List, []}
use Prim.Native.Nat.{ℕ, ◌+◌, ◌-◌, ◌*◌, ◌<◌}
use native.Mathlib.Omega.{arith}
use lib.ListN.{set, length-set}
use lib.Seq.{set-get_or}
use Rattle.rules.specs.Limits.{end_count, queue_depth}
use Rattle.rules.specs.State.{State, Item, EndState, free_end, fresh_end, end_at, set_end}
use Rattle.rules.specs.State.{queue_length, is_free_end, last_of, data_of, appended, behind_head, with_partner}
use Rattle.rules.specs.RecordStep.{append}
use Rattle.rules.specs.Layout.{last_cells, queue_cells, free_word, partner_byte, layout}
use Rattle.words.specs.Parts.{put_at}
use Rattle.keeping.proofs.LayoutLaws.{Sized}
use Rattle.memory.specs.Sections.{cells_of, partners_of, counts_of, all_cells}
use Rattle.memory.proofs.States.{partners_set, counts_set, cells_set}
use Rattle.ends.specs.Items.{item_cell}
use Rattle.ends.specs.Sections.{with_word, with_partner_byte, with_count, with_cell, with_cells}
use Rattle.ends.specs.Ends.{EndFits}
use Rattle.ends.proofs.Words.{word_kept}
use Rattle.ends.proofs.Queues.{queue_within}
use Rattle.ends.proofs.Anew.{appends, moved_up, removes, cells_moved, none_removed, cells_freed, joins}
use Rattle.ends.proofs.Parts.{parts, word_put, partner_put, count_put, cell_put, cells_put, anew}
use Rattle.ends.proofs.Parts.{partners_kept, counts_kept, cells_kept, cell_changed}

-- a state with an end anew has as many ends
pub sized_anew : (st : State) (e : ℕ) (x : EndState) → Sized st → Sized (set_end st e x)
sized_anew st e x z = record { records_sized = z.records_sized; ends_sized = length-set st.ends e x ∙ z.ends_sized }

-- an empty queue has no head to take
pub take_none : (st : State) (e : ℕ) → queue_length (end_at st e) ≡ 0 → st ≡ set_end st e (behind_head (end_at st e))
take_none st e h =
    let same = ap (set st.ends e) (none_removed (end_at st e) h) ∙ set-get_or st.ends e free_end in
    sym (λ i. record { code = st.code; records = st.records; ends = same i })

module _ (st : State) (z : Sized st) (e : ℕ) (h : e < end_count) {m : List ℕ} (laid : m ≡ layout st) where
  -- an item's cell behind those in use, and the count
  pub append_written : is_free_end (end_at st e) ≡ false → last_of (end_at st e) ≡ none → (it : Item) (k cell : ℕ) {m₁ m₂ : List ℕ}
      → k ≡ queue_length (end_at st e) → k < queue_depth → cell ≡ item_cell it → m₁ ≡ with_cell m e k cell → m₂ ≡ with_count m₁ e (k + 1)
      → m₂ ≡ layout (append st e it)
  append_written u n it k cell q l c e₁ e₂ =
      let x = end_at st e in
      let y = appended it x in
      let a = appends it x u n (omega arith) in
      let count : queue_length y ≡ k + 1 = omega (arith, a.count) in
      let cells : cells_of y ≡ set (cells_of x) k cell = rw (q, c) a.cells in
      let p = count_put z (cell_put z (parts z laid) e k cell h l e₁) e (k + 1) h e₂ in
      anew z p e y (word_kept st.ends e y a.in_use) (partners_kept z e y a.partner)
      (counts_set st.ends e y ∙ ap (set (counts_of st.ends) e) count) (cell_changed z e y k cell h l cells)

  -- the cells behind the first, and the count
  pub take_written : EndFits (end_at st e) → (k : ℕ) (c : List ℕ) {m₁ m₂ : List ℕ}
      → k ≡ queue_length (end_at st e) → c ≡ cells_of (end_at st e)
      → m₁ ≡ with_cells m e (moved_up c) → m₂ ≡ with_count m₁ e (k - 1) → m₂ ≡ layout (set_end st e (behind_head (end_at st e)))
  take_written f k c q cs e₁ e₂ =
      let x = end_at st e in
      let y = behind_head x in
      let a = removes x in
      let cells : moved_up c ≡ cells_of y = rw cs (cells_moved x (queue_within x f)) in
      let count : queue_length y ≡ k - 1 = omega (arith, a.count) in
      let p = count_put z (cells_put z (parts z laid) e (moved_up c) h refl e₁) e (k - 1) h e₂ in
      anew z p e y (word_kept st.ends e y a.in_use) (partners_kept z e y a.partner)
      (counts_set st.ends e y ∙ ap (set (counts_of st.ends) e) count)
      (cells_set st.ends e y (rw z.ends_sized h) ∙ ap (put_at (all_cells st.ends) (queue_depth * e)) (sym cells))

  -- the word of free ends, and zeros where the partner, the count and the first cell stand
  pub free_written : data_of (end_at st e) ≡ [] → (word : ℕ) {m₁ m₂ m₃ m₄ : List ℕ} → word ≡ free_word (set_end st e free_end).ends
      → m₁ ≡ with_word m word → m₂ ≡ with_partner_byte m₁ e 0 → m₃ ≡ with_count m₂ e 0 → m₄ ≡ with_cell m₃ e 0 0
      → m₄ ≡ layout (set_end st e free_end)
  unfolding partner_byte
  free_written d word w e₁ e₂ e₃ e₄ =
      let first : 0 < queue_depth = omega arith in
      let p₂ = partner_put z (word_put z (parts z laid) word e₁) e 0 h e₂ in
      let p₄ = cell_put z (count_put z p₂ e 0 h e₃) e 0 0 h first e₄ in
      anew z p₄ e free_end (sym w) (partners_set st.ends e free_end) (counts_set st.ends e free_end)
      (cell_changed z e free_end 0 0 h first (cells_freed (end_at st e) d))

  -- the word of free ends, and the partner: a free end's count and cells are those of an empty queue
  pub fresh_written : end_at st e ≡ free_end → (partner word : ℕ) {m₁ m₂ : List ℕ}
      → word ≡ free_word (set_end st e (fresh_end partner)).ends
      → m₁ ≡ with_word m word → m₂ ≡ with_partner_byte m₁ e partner → m₂ ≡ layout (set_end st e (fresh_end partner))
  unfolding partner_byte cells_of queue_cells last_cells
  fresh_written f partner word w e₁ e₂ =
      let x = fresh_end partner in
      let p = partner_put z (word_put z (parts z laid) word e₁) e partner h e₂ in
      anew z p e x (sym w) (partners_set st.ends e x) (counts_kept z e x (rw f)) (cells_kept z e x (rw f))

  -- the partner alone
  pub partner_written : is_free_end (end_at st e) ≡ false → (partner : ℕ) {m₁ : List ℕ} → m₁ ≡ with_partner_byte m e partner
      → m₁ ≡ layout (set_end st e (with_partner partner (end_at st e)))
  partner_written u partner e₁ =
      let x = with_partner partner (end_at st e) in
      let a = joins partner (end_at st e) u in
      let p = partner_put z (parts z laid) e partner h e₁ in
      let partners = partners_set st.ends e x ∙ ap (set (partners_of st.ends) e) a.partner_is in
      anew z p e x (word_kept st.ends e x a.in_use) partners (counts_kept z e x a.count) (cells_kept z e x a.cells)
