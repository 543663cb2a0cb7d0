-- The texts by the parts that the functions print, in their bytes. Assumes nothing.
use mathlib.Core.Path.{◌≡◌, refl, sym, ap, ◌∙◌}
use mathlib.Core.List.{List, [], ◌∷◌, ◌++◌, append_assoc}
use Prim.Native.Nat.{ℕ, zero, suc}
use native.Mathlib.Omega.{arith}
use lib.ListN.{length}
use Rattle.rules.specs.State.{Registers as Process}
use Rattle.rules.specs.Text.{text, decimal}
use Rattle.text.specs.Written.{hex_text}
use Rattle.dump.specs.Shown.{values_text, slot_text, slots_text, registers_text, code_text}
use Rattle.dump.specs.Pieces.{comma_behind, dash_for}

-- ---- commas and dashes

pub no_comma : (shown : ℕ) → shown ≡ 0 → [] ≡ comma_behind shown
unfolding comma_behind
no_comma shown e = rw e refl

pub comma_text : (shown : ℕ) → (shown ≡ 0 → ⊥) → 44 ∷ [] ≡ comma_behind shown
unfolding comma_behind text
comma_text zero h = absurd (h refl)
comma_text (suc n) h = refl

pub dash_text : (shown : ℕ) → shown ≡ 0 → 45 ∷ [] ≡ dash_for shown
unfolding dash_for text
dash_text shown e = rw e refl

pub no_dash : (shown : ℕ) → (shown ≡ 0 → ⊥) → [] ≡ dash_for shown
unfolding dash_for
no_dash zero h = absurd (h refl)
no_dash (suc n) h = refl

-- ---- the code

-- the word in front
abbrev pub code_word : List ℕ
code_word = 99 ∷ 111 ∷ 100 ∷ 101 ∷ 32 ∷ []

pub no_code : (code : List ℕ) → length code ≡ 0 → 45 ∷ [] ≡ code_text code
unfolding code_text text
no_code [] e = refl
no_code (b ∷ code) e = absurd (omega arith)

pub some_code : (code : List ℕ) → (length code ≡ 0 → ⊥) → hex_text code ≡ code_text code
unfolding code_text
some_code [] h = absurd (h refl)
some_code (b ∷ code) h = refl

-- ---- a slot, a split, and the lines

pub slot_parts : (shown c e : ℕ) → comma_behind shown ++ decimal c ++ 58 ∷ decimal e ≡ comma_behind shown ++ slot_text c e
unfolding slot_text text
slot_parts shown c e =
    append_assoc (comma_behind shown) (decimal c) (58 ∷ decimal e)
    ∙ ap (λ (t : List ℕ). comma_behind shown ++ t) (sym (append_assoc (decimal c) (58 ∷ []) (decimal e)))

pub split_parts : (p q : ℕ) → 115 ∷ decimal p ++ 58 ∷ decimal q ≡ text "s" ++ decimal p ++ text ":" ++ decimal q
unfolding text
split_parts p q = sym (append_assoc (115 ∷ decimal p) (58 ∷ []) (decimal q))

-- the words of a record's line, with what stands behind them
abbrev pub stack_part : List ℕ → List ℕ
stack_part values = 32 ∷ 115 ∷ 116 ∷ 97 ∷ 99 ∷ 107 ∷ 32 ∷ values

abbrev pub environment_part : List ℕ → List ℕ
environment_part values = 32 ∷ 101 ∷ 110 ∷ 118 ∷ 32 ∷ values

abbrev pub slots_word : List ℕ
slots_word = 32 ∷ 115 ∷ 108 ∷ 111 ∷ 116 ∷ 115 ∷ 32 ∷ []

-- the line up to the stack, the environment, the last word, the slots
abbrev pub through_stack : Process → List ℕ
through_stack g = decimal g.place ++ stack_part (values_text g.stack)

abbrev pub through_environment : Process → List ℕ
through_environment g = through_stack g ++ environment_part (values_text g.environment)

abbrev pub through_word : Process → List ℕ
through_word g = through_environment g ++ slots_word

abbrev pub through_slots : Process → List ℕ
through_slots g = through_word g ++ slots_text g.slots

pub registers_parts : (g : Process) → through_slots g ++ 10 ∷ [] ≡ registers_text g
unfolding registers_text text
registers_parts g =
    let stack = sym (append_assoc (decimal g.place) (text " stack ") (values_text g.stack)) in
    let before = decimal g.place ++ text " stack " ++ values_text g.stack in
    let both = ap (λ (t : List ℕ). t ++ environment_part (values_text g.environment)) stack
    ∙ sym (append_assoc before (text " env ") (values_text g.environment)) in
    ap (λ (t : List ℕ). t ++ slots_word ++ slots_text g.slots ++ 10 ∷ []) both

-- the words of an end's line
abbrev pub partner_part : (partner : ℕ) → List ℕ
partner_part partner = 32 ∷ 112 ∷ 97 ∷ 114 ∷ 116 ∷ 110 ∷ 101 ∷ 114 ∷ 32 ∷ decimal partner

abbrev pub queue_word : List ℕ
queue_word = 32 ∷ 113 ∷ 117 ∷ 101 ∷ 117 ∷ 101 ∷ 32 ∷ []

pub head_parts : (e partner : ℕ) → 69 ∷ decimal e ++ partner_part partner ++ queue_word
    ≡ text "E" ++ decimal e ++ text " partner " ++ decimal partner ++ text " queue "
unfolding text
head_parts e partner =
    ap (λ (t : List ℕ). t ++ queue_word) (sym (append_assoc (69 ∷ decimal e) (text " partner ") (decimal partner)))
