-- The slots that hold an end, one after the other: what stands of the first c slots, and how many of them are shown. Assumes nothing.
use mathlib.Core.Path.{◌≡◌, refl, sym, ap, ◌∙◌, subst}
use mathlib.Core.Option.{Option, none, some}
use mathlib.Core.List.{List, [], ◌∷◌, ◌++◌, map, append-nil}
use Prim.Native.Nat.{ℕ, zero, suc, ◌+◌, ◌-◌, ◌≤◌, ◌<◌}
use native.Mathlib.Omega.{arith}
use lib.ListN.{length, get_or, take, drop, length-append, length-map, get_or-map}
use lib.Seq.{take_all}
use Rattle.rules.specs.Limits.{slot_count}
use Rattle.rules.specs.Layout.{view_optional}
use Rattle.text.specs.declared.printing.Page.{Page}
use Rattle.text.specs.Page.{Room, Puts}
use Rattle.text.proofs.Texts.{written_none, written_as}
use Rattle.dump.specs.Shown.{list_text, by_number, slot_text, slot_texts, slots_text}
use Rattle.dump.specs.Pieces.{comma_behind, dash_for}
use Rattle.dump.proofs.OneByOne.{so_far, thing_room, thing_more, dash_room, list_done, by_number_more, by_number_parts}

-- the texts of the first c slots
abbrev pub slots_front : (slots : List ℕ) (c : ℕ) → List (List ℕ)
slots_front slots c = by_number slot_texts 0 (take c (map view_optional slots))

-- the page holds the texts of the first c slots, so many of which are shown
pub record SlotsSoFar (p : Page) (slots : List ℕ) (q : Page) (shown c : ℕ) : Type 0 where
  pub written : Puts p (so_far (slots_front slots c)) q
  pub count : length (slots_front slots c) ≡ shown
  pub few : shown ≤ c

-- before the first slot
pub no_slots : (p : Page) (slots : List ℕ) → SlotsSoFar p slots p 0 0
unfolding so_far by_number
no_slots p slots = record { written = written_none p; count = refl; few = omega arith }

-- the same by other names
pub slots_as : {p q r : Page} {slots : List ℕ} {shown shown' c : ℕ} → r ≡ q → shown' ≡ shown → SlotsSoFar p slots q shown c
    → SlotsSoFar p slots r shown' c
slots_as {p} {slots = slots} {c = c} e f s = subst (λ (x : Page × ℕ). SlotsSoFar p slots x.0 x.1 c) (λ i. (sym e i, sym f i)) s

-- what a slot's byte stands for
slot_view : (slots : List ℕ) (c : ℕ) → get_or (map view_optional slots) c none ≡ view_optional (get_or slots c 0)
unfolding view_optional
slot_view slots c = get_or-map view_optional slots c 0

held_view : (b : ℕ) → (b ≡ 0 → ⊥) → view_optional b ≡ some (b - 1)
unfolding view_optional
held_view zero h = absurd (h refl)
held_view (suc n) h = ap some (omega arith)

module _ {p q : Page} {shown : ℕ} (slots : List ℕ) (c : ℕ) (until_here : SlotsSoFar p slots q shown c)
    (long : length slots ≡ slot_count) (inside : c < slot_count) where
  within : c < length (map view_optional slots)
  within = omega (arith, length-map slots view_optional, long, inside)

  -- the first c + 1 slots
  front_more : (o : Option ℕ) → view_optional (get_or slots c 0) ≡ o → slots_front slots c ++ slot_texts c o ≡ slots_front slots (c + 1)
  front_more o e =
      ap (λ (x : Option ℕ). slots_front slots c ++ slot_texts c x) (sym (slot_view slots c ∙ e))
      ∙ by_number_more slot_texts (map view_optional slots) c none within

  -- an empty slot is not shown
  pub slot_empty : get_or slots c 0 ≡ 0 → SlotsSoFar p slots q shown (c + 1)
  unfolding view_optional slot_texts
  slot_empty e =
      let same : slots_front slots c ≡ slots_front slots (c + 1) =
      sym (append-nil (slots_front slots c)) ∙ front_more none (ap view_optional e) in
      record {
        written = written_as (ap so_far same) until_here.written;
        count = ap length (sym same) ∙ until_here.count;
        few = omega (arith, until_here.few);
      }

  -- a slot that holds an end
  module _ (held : get_or slots c 0 ≡ 0 → ⊥) where
    -- its text
    this : List ℕ
    this = slot_text c (get_or slots c 0 - 1)

    one_more : slots_front slots c ++ this ∷ [] ≡ slots_front slots (c + 1)
    unfolding slot_texts this
    one_more = front_more (some (get_or slots c 0 - 1)) (held_view (get_or slots c 0) held)

    pub slot_room_lem : Room p (slots_text (map view_optional slots)) → Room q (comma_behind shown ++ slot_text c (get_or slots c 0 - 1))
    unfolding slots_text slot_texts this
    slot_room_lem h =
        let all = map view_optional slots in
        let behind = by_number slot_texts (0 + length (take (c + 1) all)) (drop (c + 1) all) in
        let shows = slot_view slots c ∙ held_view (get_or slots c 0) held in
        let parts = by_number_parts slot_texts all c none within
        ∙ ap (λ (x : Option ℕ). slots_front slots c ++ slot_texts c x ++ behind) shows in
        subst (λ (n : ℕ). Room q (comma_behind n ++ this)) until_here.count
        (thing_room (slots_front slots c) until_here.written this behind parts h)

    pub slot_held : {r : Page} → Puts q (comma_behind shown ++ slot_text c (get_or slots c 0 - 1)) r
        → SlotsSoFar p slots r (shown + 1) (c + 1)
    unfolding this
    slot_held {r} w = record {
      written = written_as (ap so_far one_more)
          (thing_more (slots_front slots c) until_here.written this
          (subst (λ (n : ℕ). Puts q (comma_behind n ++ this) r) (sym until_here.count) w));
      count = omega (arith, ap length (sym one_more), length-append (slots_front slots c) (this ∷ []), until_here.count);
      few = omega (arith, until_here.few);
    }

-- ---- all slots

module _ {p q : Page} {shown : ℕ} (slots : List ℕ) (c : ℕ) (until_here : SlotsSoFar p slots q shown c)
    (all : length slots ≤ c) where
  is_all : slots_front slots c ≡ by_number slot_texts 0 (map view_optional slots)
  is_all = ap (by_number slot_texts 0) (take_all c (map view_optional slots) (omega (arith, all, length-map slots view_optional)))

  pub slots_dash_room : Room p (slots_text (map view_optional slots)) → Room q (dash_for shown)
  unfolding slots_text
  slots_dash_room h =
      subst (λ (n : ℕ). Room q (dash_for n)) until_here.count
      (dash_room (slots_front slots c) until_here.written
      (subst (λ (l : List (List ℕ)). Room p (list_text l)) (sym is_all) h))

  pub slots_done : {r : Page} → Puts q (dash_for shown) r → Puts p (slots_text (map view_optional slots)) r
  unfolding slots_text
  slots_done {r} w =
      written_as (ap list_text is_all)
      (list_done (slots_front slots c) until_here.written
      (subst (λ (n : ℕ). Puts q (dash_for n) r) (sym until_here.count) w))
