-- Printing a list, one thing after the other: what stands so far, room for the thing that comes, and the list with that thing behind it.
-- One law for things with commas between them, one for lines by number. Assumes nothing.
use mathlib.Core.Path.{◌≡◌, refl, sym, ap, ◌∙◌, subst}
use mathlib.Core.List.{List, [], ◌∷◌, ◌++◌, append_assoc, append-nil}
use Prim.Native.Nat.{ℕ, suc, ◌+◌, ◌≤◌, ◌<◌}
use native.Mathlib.Nat.{add-zero}
use native.Mathlib.Numerals.{add-one}
use native.Mathlib.Omega.{arith}
use lib.ListN.{length, get_or, take, drop, length-append, take-append-drop}
use lib.Seq.{take_all, take-suc, split_at, append_snoc, length-take-le}
use Rattle.rules.specs.Text.{text}
use Rattle.text.specs.declared.printing.Page.{Page}
use Rattle.text.specs.Page.{Room, Puts}
use Rattle.text.proofs.Texts.{written_none, written_more, written_as, room_as, room_first, room_rest}
use Rattle.dump.specs.Shown.{behind_commas, list_text, by_number}
use Rattle.dump.specs.Pieces.{comma_behind, dash_for}

-- ---- the text of a list, thing by thing

-- the things so far, commas between them
unfoldable pub so_far : List (List ℕ) → List ℕ
so_far [] = []
so_far (thing ∷ things) = thing ++ behind_commas things

behind_append : (xs ys : List (List ℕ)) → behind_commas (xs ++ ys) ≡ behind_commas xs ++ behind_commas ys
unfolding behind_commas
behind_append [] ys = refl
behind_append (x ∷ xs) ys =
    ap (λ (t : List ℕ). text "," ++ x ++ t) (behind_append xs ys)
    ∙ sym (append_assoc (text "," ++ x) (behind_commas xs) (behind_commas ys))

-- one thing more stands behind a comma, the first behind none
so_far_more : (things : List (List ℕ)) (t : List ℕ) → so_far things ++ (comma_behind (length things) ++ t) ≡ so_far (things ++ t ∷ [])
unfolding so_far behind_commas comma_behind
so_far_more [] t = sym (append-nil t)
so_far_more (x ∷ things) t =
    append_assoc x (behind_commas things) (text "," ++ t)
    ∙ ap (λ (r : List ℕ). x ++ r)
    (sym (behind_append things (t ∷ []) ∙ ap (λ (r : List ℕ). behind_commas things ++ r) (append-nil (text "," ++ t))))

list_closed : (things : List (List ℕ)) → so_far things ++ dash_for (length things) ≡ list_text things
unfolding so_far dash_for list_text
list_closed [] = refl
list_closed (x ∷ things) = append-nil (x ++ behind_commas things)

-- the things in front take no more room than all
front_shorter : (xs ys : List (List ℕ)) → length (so_far xs) ≤ length (list_text (xs ++ ys))
unfolding so_far list_text
front_shorter [] ys = omega arith
front_shorter (x ∷ xs) ys =
    omega (
      arith,
      length-append x (behind_commas xs),
      length-append x (behind_commas (xs ++ ys)),
      ap length (behind_append xs ys),
      length-append (behind_commas xs) (behind_commas ys),
    )

-- ---- things with commas between them

module _ {p q : Page} (things : List (List ℕ)) (written : Puts p (so_far things) q) where
  -- room for the thing that comes
  pub thing_room : (t : List ℕ) (rest : List (List ℕ)) {all : List (List ℕ)} → all ≡ things ++ t ∷ [] ++ rest
      → Room p (list_text all) → Room q (comma_behind (length things) ++ t)
  thing_room t rest e h =
      let front = front_shorter (things ++ t ∷ []) rest in
      room_rest (comma_behind (length things) ++ t)
      (omega (arith, h, ap (λ (l : List (List ℕ)). length (list_text l)) e, front, ap length (so_far_more things t)))
      written

  -- it is put behind the others
  pub thing_more : (t : List ℕ) {r : Page} → Puts q (comma_behind (length things) ++ t) r → Puts p (so_far (things ++ t ∷ [])) r
  thing_more t w = written_as (so_far_more things t) (written_more written w)

  -- what ends the list
  pub dash_room : Room p (list_text things) → Room q (dash_for (length things))
  dash_room h = room_rest (dash_for (length things)) (room_as p (list_closed things) h) written

  pub list_done : {r : Page} → Puts q (dash_for (length things)) r → Puts p (list_text things) r
  list_done w = written_as (list_closed things) (written_more written w)

-- ---- the things by their index

module _ {p q : Page} (all : List (List ℕ)) (k : ℕ) (written : Puts p (so_far (take k all)) q) where
  pub index_room : (d : List ℕ) → k < length all → Room p (list_text all) → Room q (comma_behind k ++ get_or all k d)
  index_room d h room =
      let count : length (take k all) ≡ k = length-take-le k all (omega arith) in
      let parts = split_at all k d h ∙ sym (append_snoc (take k all) (get_or all k d) (drop (suc k) all)) in
      subst (λ (n : ℕ). Room q (comma_behind n ++ get_or all k d)) count
      (thing_room (take k all) written (get_or all k d) (drop (suc k) all) parts room)

  pub index_more : (d : List ℕ) → k < length all → {r : Page} → Puts q (comma_behind k ++ get_or all k d) r
      → Puts p (so_far (take (k + 1) all)) r
  index_more d h {r} w =
      let count : k ≡ length (take k all) = sym (length-take-le k all (omega arith)) in
      let more : take k all ++ get_or all k d ∷ [] ≡ take (k + 1) all = rw add-one (sym (take-suc all k d h)) in
      written_as (ap so_far more)
      (thing_more (take k all) written (get_or all k d)
      (subst (λ (n : ℕ). Puts q (comma_behind n ++ get_or all k d) r) count w))

  -- all of them stand
  module _ {n : ℕ} (enough : length all ≡ n) (at_end : k ≡ n) where
    is_all : take k all ≡ all
    is_all = take_all k all (omega arith)

    all_written : Puts p (so_far all) q
    all_written = written_as (ap so_far is_all) written

    pub index_dash_room : Room p (list_text all) → Room q (dash_for n)
    index_dash_room h = subst (λ (m : ℕ). Room q (dash_for m)) enough (dash_room all all_written h)

    pub index_done : {r : Page} → Puts q (dash_for n) r → Puts p (list_text all) r
    index_done {r} w = list_done all all_written (subst (λ (m : ℕ). Puts q (dash_for m) r) (sym enough) w)

-- ---- what each gives by its number

pub by_number_append : {A B : Type 0} (f : ℕ → A → List B) (n : ℕ) (xs ys : List A)
    → by_number f n (xs ++ ys) ≡ by_number f n xs ++ by_number f (n + length xs) ys
unfolding by_number
by_number_append f n [] ys = ap (λ (k : ℕ). by_number f k ys) (sym (add-zero n))
by_number_append f n (x ∷ xs) ys =
    let count : suc n + length xs ≡ n + suc (length xs) = omega arith in
    ap (λ (r : List _). f n x ++ r)
    (by_number_append f (suc n) xs ys ∙ ap (λ (k : ℕ). by_number f (suc n) xs ++ by_number f k ys) count)
    ∙ sym (append_assoc (f n x) (by_number f (suc n) xs) (by_number f (n + suc (length xs)) ys))

-- one more
pub by_number_more : {A B : Type 0} (f : ℕ → A → List B) (xs : List A) (k : ℕ) (d : A) → k < length xs
    → by_number f 0 (take k xs) ++ f k (get_or xs k d) ≡ by_number f 0 (take (k + 1) xs)
unfolding by_number
by_number_more f xs k d h =
    let count : k ≡ 0 + length (take k xs) = omega (arith, length-take-le k xs (omega arith)) in
    let more : take k xs ++ get_or xs k d ∷ [] ≡ take (k + 1) xs = rw add-one (sym (take-suc xs k d h)) in
    ap (λ (r : List _). by_number f 0 (take k xs) ++ r)
    (sym (append-nil (f k (get_or xs k d))) ∙ ap (λ (n : ℕ). by_number f n (get_or xs k d ∷ [])) count)
    ∙ sym (by_number_append f 0 (take k xs) (get_or xs k d ∷ []))
    ∙ ap (by_number f 0) more

-- all of them, from the first k + 1 on
pub by_number_parts : {A B : Type 0} (f : ℕ → A → List B) (xs : List A) (k : ℕ) (d : A) → k < length xs
    → by_number f 0 xs ≡ by_number f 0 (take k xs) ++ f k (get_or xs k d) ++ by_number f (0 + length (take (k + 1) xs)) (drop (k + 1) xs)
by_number_parts f xs k d h =
    ap (by_number f 0) (sym (take-append-drop (k + 1) xs))
    ∙ by_number_append f 0 (take (k + 1) xs) (drop (k + 1) xs)
    ∙ ap (λ (r : List _). r ++ by_number f (0 + length (take (k + 1) xs)) (drop (k + 1) xs)) (sym (by_number_more f xs k d h))

-- ---- lines by number

-- the first k of so many lines stand
pub record LinesTo {A : Type 0} (line : ℕ → A → List ℕ) (count : ℕ) (xs : List A) (p q : Page) (k : ℕ) : Type 0 where
  pub so_many : length xs ≡ count
  pub below : k ≤ count
  pub lines : Puts p (by_number line 0 (take k xs)) q

module _ {A : Type 0} {line : ℕ → A → List ℕ} {count : ℕ} {xs : List A} {p : Page} where
  -- none yet
  pub no_line : length xs ≡ count → LinesTo line count xs p p 0
  unfolding by_number
  no_line e = record { so_many = e; below = omega arith; lines = written_none p }

  module _ {q : Page} {k : ℕ} (stand : LinesTo line count xs p q k) where
    -- room for the line that comes
    pub line_room : (d : A) → k < count → Room p (by_number line 0 xs) → Room q (line k (get_or xs k d))
    line_room d h room =
        let inside : k < length xs = omega (arith, stand.so_many) in
        let front = by_number line 0 (take k xs) ++ line k (get_or xs k d) in
        let behind = by_number line (0 + length (take (k + 1) xs)) (drop (k + 1) xs) in
        let whole = room_as p (sym (by_number_parts line xs k d inside)) room in
        room_rest (line k (get_or xs k d)) (room_first p front behind whole) stand.lines

    -- it is put behind the others
    pub line_more : (d : A) → k < count → {r : Page} → Puts q (line k (get_or xs k d)) r → LinesTo line count xs p r (k + 1)
    line_more d h w =
        let inside : k < length xs = omega (arith, stand.so_many) in
        record {
          so_many = stand.so_many;
          below = omega arith;
          lines = written_as (by_number_more line xs k d inside) (written_more stand.lines w);
        }

    -- all of them
    pub all_lines : count ≤ k → Puts p (by_number line 0 xs) q
    all_lines h = written_as (ap (by_number line 0) (take_all k xs (omega (arith, stand.so_many)))) stand.lines
