-- Laws of hex: the length of a text, and what a hex word says of its digits. Assumes nothing.
use mathlib.Core.Path.{◌≡◌, refl, sym, ◌∙◌}
use mathlib.Core.List.{List, [], ◌∷◌}
use mathlib.Core.Bool.{Bool, true, false}
use Prim.Native.Nat.{ℕ, zero, suc, ◌+◌, ◌*◌, ◌/◌, ◌%◌, ◌≤◌, ◌<◌}
use native.Mathlib.Nat.{le_of_suc-le-suc}
use native.Mathlib.Omega.{arith}
use borrow.Author.Tests.{ltb-true, lt-ltb, le-ltb, eq-eqb, ne_eqb}
use lib.ListN.{length, get_or, set, take}
use lib.Seq.{take_all}
use lib.Dec.{ltb, eqb}
use Rattle.words.proofs.Parts.{put_all, put_next}
use Rattle.words.proofs.Pieces.{length_flat, put_more}
use Rattle.rules.specs.Bytes.{flat}
use Rattle.words.specs.Parts.{put_at}
use Rattle.text.specs.Written.{Written, hex_byte, hex_text}
use Rattle.text.specs.Digits.{digit_value, both, all_digits, is_hex, hex_bytes}

-- ---- printing

pub length_byte : (b : ℕ) → length (hex_byte b) ≡ 2
unfolding hex_byte
length_byte b = refl

pub length_text : (bytes : List ℕ) → length (hex_text bytes) ≡ 2 * length bytes
unfolding hex_text
length_text bytes = length_flat hex_byte 2 length_byte bytes

-- a turn of the loop that prints from a place on, and its end
pub hex_more : (m : List ℕ) (at : ℕ) (bytes : List ℕ) (i : ℕ) {m₁ m₂ : List ℕ} → i < length bytes
    → m₁ ≡ put_at m at (flat hex_byte (take i bytes)) → m₂ ≡ put_at m₁ (at + 2 * i) (hex_byte (get_or bytes i 0))
    → m₂ ≡ put_at m at (flat hex_byte (take (i + 1) bytes))
hex_more m at bytes i h p e = e ∙ rw p (put_more hex_byte 2 length_byte m at bytes i 0 h)

pub hex_written : {m m' : List ℕ} (at : ℕ) (bytes : List ℕ) (i : ℕ) → length bytes ≤ i
    → m' ≡ put_at m at (flat hex_byte (take i bytes)) → Written m at (hex_text bytes) m' (at + 2 * length bytes)
unfolding hex_text
hex_written {m} {m'} at bytes i h e = record {
  memory = e ∙ rw (take_all i bytes h);
  place = let s = length_flat hex_byte 2 length_byte bytes in omega arith;
}

-- the same from the front on, and its end where the text fills the slice
pub hex_filling : (m : List ℕ) (bytes : List ℕ) (i : ℕ) {m₁ m₂ : List ℕ} → i < length bytes
    → m₁ ≡ put_at m 0 (flat hex_byte (take i bytes)) → m₂ ≡ put_at m₁ (2 * i) (hex_byte (get_or bytes i 0))
    → m₂ ≡ put_at m 0 (flat hex_byte (take (i + 1) bytes))
hex_filling m bytes i h p e =
    let z : 0 + 2 * i ≡ 2 * i = omega arith in
    hex_more m 0 bytes i h p (rw z e)

pub hex_filled : (m : List ℕ) (bytes : List ℕ) (i : ℕ) {m' : List ℕ} → length m ≡ 2 * length bytes → length bytes ≤ i
    → m' ≡ put_at m 0 (flat hex_byte (take i bytes)) → m' ≡ hex_text bytes
hex_filled m bytes i l h e = (hex_written 0 bytes i h e).memory ∙ put_all m (hex_text bytes) (length_text bytes ∙ sym l)

-- ---- reading

both_first : (x y : Bool) → both x y ≡ true → x ≡ true
both_first true y h = refl
both_first false y h = h

both_second : (x y : Bool) → both x y ≡ true → y ≡ true
both_second true y h = h
both_second false y h = absurd (let z : ◌≡◌ {A = ℕ} 0 1 = cc in omega arith)

pub digit_below : (base : ℕ) (word : List ℕ) (i : ℕ) → all_digits base word ≡ true → i < length word → digit_value (get_or word i 0) < base
unfolding all_digits
digit_below base [] i h l = absurd (omega arith)
digit_below base (b ∷ word) zero h l = ltb-true (digit_value b) base (both_first (ltb (digit_value b) base) (all_digits base word) h)
digit_below base (b ∷ word) (suc i) h l =
    digit_below base word i (both_second (ltb (digit_value b) base) (all_digits base word) h) (le_of_suc-le-suc l)

-- a hex word has digits only
pub hex_digits : (word : List ℕ) → is_hex word ≡ true → all_digits 16 word ≡ true
unfolding is_hex
hex_digits word h =
    let rest : Bool = both (eqb (length word % 2) 0) (all_digits 16 word) in
    both_second (eqb (length word % 2) 0) (all_digits 16 word) (both_second (ltb 0 (length word)) rest h)

-- the three tests
pub hex_empty : (word : List ℕ) → length word ≡ 0 → false ≡ is_hex word
unfolding is_hex
hex_empty word e = rw (le-ltb 0 (length word) (omega arith)) refl

pub hex_odd : (word : List ℕ) → (length word ≡ 0 → ⊥) → (length word % 2 ≡ 0 → ⊥) → false ≡ is_hex word
unfolding is_hex
hex_odd word e o = rw (lt-ltb 0 (length word) (omega arith), ne_eqb (length word % 2) 0 o) refl

pub hex_is : (word : List ℕ) → (length word ≡ 0 → ⊥) → length word % 2 ≡ 0 → all_digits 16 word ≡ is_hex word
unfolding is_hex
hex_is word e o = rw (lt-ltb 0 (length word) (omega arith), eq-eqb (length word % 2) 0 o) refl

-- the bytes of a word, and how many they are
pub length_bytes : (word : List ℕ) → length (hex_bytes word) ≡ length word / 2
unfolding hex_bytes
length_bytes [] = refl
length_bytes (h ∷ []) = refl
length_bytes (h ∷ l ∷ word) = let e = length_bytes word in omega arith

pub byte_at : (word : List ℕ) (i : ℕ) → 2 * i + 1 < length word
    → get_or (hex_bytes word) i 0 ≡ 16 * digit_value (get_or word (2 * i) 0) + digit_value (get_or word (2 * i + 1) 0)
unfolding hex_bytes
byte_at [] i h = absurd (omega arith)
byte_at (x ∷ []) i h = absurd (omega arith)
byte_at (x ∷ y ∷ word) zero h = refl
byte_at (x ∷ y ∷ word) (suc i) h =
    let e : 2 * suc i ≡ suc (suc (2 * i)) = omega arith in
    let f : 2 * suc i + 1 ≡ suc (suc (2 * i + 1)) = omega arith in
    rw (f, e) (byte_at word i (omega arith))

-- a turn of the loop that reads, and its end
pub bytes_more : (m : List ℕ) (at : ℕ) (word : List ℕ) (i b : ℕ) {m₁ m₂ : List ℕ} → 2 * i + 1 < length word
    → m₁ ≡ put_at m at (take i (hex_bytes word)) → b ≡ 16 * digit_value (get_or word (2 * i) 0) + digit_value (get_or word (2 * i + 1) 0)
    → m₂ ≡ set m₁ (at + i) b → m₂ ≡ put_at m at (take (i + 1) (hex_bytes word))
bytes_more m at word i b {m₁} {m₂} h p d e =
    let l : i < length (hex_bytes word) = let n = length_bytes word in omega arith in
    let same : b ≡ get_or (hex_bytes word) i 0 = d ∙ sym (byte_at word i h) in
    e ∙ rw (p, same) (put_next m at (hex_bytes word) i l)

pub bytes_written : {m m' : List ℕ} (at : ℕ) (word : List ℕ) (i : ℕ) → length word / 2 ≤ i
    → m' ≡ put_at m at (take i (hex_bytes word)) → Written m at (hex_bytes word) m' (at + length word / 2)
bytes_written {m} {m'} at word i h e =
    let n = length_bytes word in
    record { memory = e ∙ rw (take_all i (hex_bytes word) (omega arith)); place = omega arith }
