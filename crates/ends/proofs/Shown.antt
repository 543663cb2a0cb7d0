-- What the layout of a state shows of one end is that end of the state. Assumes nothing.
use mathlib.Core.Path.{◌≡◌, refl, sym, ap, ◌∙◌}
use mathlib.Core.List.{List}
use Prim.Native.Nat.{ℕ, zero, suc, ◌+◌, ◌≤◌, ◌<◌}
use native.Mathlib.Omega.{arith}
use lib.ListN.{get_or}
use Rattle.rules.specs.Limits.{end_count, queue_depth}
use Rattle.rules.specs.Bytes.{number_at}
use Rattle.rules.specs.State.{State, EndState, free_end, used, end_at, end_or, partner_of, queue_length}
use Rattle.rules.specs.Layout.{free_size, cell_size, free_at, counts_at, free_word, partner_byte, layout}
use Rattle.words.proofs.Tables.{table_is}
use Rattle.keeping.proofs.LayoutLaws.{Sized}
use Rattle.memory.specs.Sections.{cells_of}
use Rattle.memory.proofs.States.{length_cells, word_read, partner_read, count_read, cell_read}
use Rattle.ends.specs.Sections.{word_in, partner_byte_in, count_in, eight_counts_in, cell_at, cell_in, cells_in}
use Rattle.ends.specs.Ends.{EndFits}
use Rattle.ends.proofs.Queues.{cells_fit}

partner_of_lem : (x : EndState) → partner_byte x ≡ end_or 0 (partner_of x)
unfolding partner_byte
partner_of_lem free_end = refl
partner_of_lem (used m ds l) = refl

-- a number that is zero stands in bytes that are zero
zeros_in : (k : ℕ) (m : List ℕ) (at : ℕ) → number_at k m at ≡ 0 → (i : ℕ) → i < k → get_or m (at + i) 0 ≡ 0
zeros_in zero m at e i h = absurd (omega (arith, h))
zeros_in (suc k) m at e zero h =
    let here : at + 0 ≡ at = omega arith in
    ap (λ (j : ℕ). get_or m j 0) here ∙ omega (arith, e)
zeros_in (suc k) m at e (suc i) h =
    let there : at + suc i ≡ at + 1 + i = omega arith in
    ap (λ (j : ℕ). get_or m j 0) there ∙ zeros_in k m (at + 1) (omega (arith, e)) i (omega (arith, h))

module _ (st : State) (z : Sized st) (m : List ℕ) (laid : m ≡ layout st) where
  pub word_is : word_in m ≡ free_word st.ends
  unfolding word_in
  word_is = ap (λ (b : List ℕ). number_at free_size b free_at) laid ∙ word_read st z

  module _ (e : ℕ) (h : e < end_count) where
    pub partner_is : partner_byte_in m e ≡ end_or 0 (partner_of (end_at st e))
    partner_is = ap (λ (b : List ℕ). partner_byte_in b e) laid ∙ partner_read st z e h ∙ partner_of_lem (end_at st e)

    pub count_is : count_in m e ≡ queue_length (end_at st e)
    count_is = ap (λ (b : List ℕ). count_in b e) laid ∙ count_read st z e h

    pub cell_is : EndFits (end_at st e) → (i : ℕ) → i < queue_depth → cell_in m e i ≡ get_or (cells_of (end_at st e)) i 0
    unfolding cell_in
    cell_is f i k = ap (λ (b : List ℕ). number_at cell_size b (cell_at e i)) laid ∙ cell_read st z e i h k (cells_fit (end_at st e) f i)

    pub cells_are : EndFits (end_at st e) → cells_in m e ≡ cells_of (end_at st e)
    unfolding cells_in
    cells_are f = table_is 0 queue_depth (cell_in m e) (cells_of (end_at st e)) (length_cells (end_at st e)) (cell_is f)

  -- eight counts that are zero as one number
  pub eight_empty : (e : ℕ) → e + 8 ≤ end_count → eight_counts_in m e ≡ 0 → (i : ℕ) → i < 8 → queue_length (end_at st (e + i)) ≡ 0
  unfolding eight_counts_in
  eight_empty e h none i l =
      let there : counts_at + (e + i) ≡ counts_at + e + i = omega arith in
      sym (count_is (e + i) (omega (arith, h, l))) ∙ ap (λ (j : ℕ). get_or m j 0) there ∙ zeros_in 8 m (counts_at + e) none i l

  -- one count that is zero
  pub one_empty : (e : ℕ) → e < end_count → count_in m e ≡ 0 → (i : ℕ) → i < 1 → queue_length (end_at st (e + i)) ≡ 0
  one_empty e h none i l =
      let here : e + i ≡ e = omega (arith, l) in
      ap (λ (j : ℕ). queue_length (end_at st j)) here ∙ sym (count_is e h) ∙ none
