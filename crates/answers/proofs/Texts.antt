-- The texts of the answers as they are printed, part behind part, and how long each is by its parts. Assumes nothing.
use mathlib.Core.Path.{◌≡◌, refl, sym, ap}
use mathlib.Core.List.{List, ◌++◌, append_assoc}
use Prim.Native.Nat.{ℕ, ◌+◌, ◌*◌}
use native.Mathlib.Omega.{arith}
use lib.ListN.{length, take, length-append}
use Rattle.rules.specs.Run.{Verdict}
use Rattle.rules.specs.Text.{text, decimal}
use Rattle.rules.specs.Printed.{verdict_text}
use Rattle.text.specs.Written.{hex_text}
use Rattle.text.proofs.Hex.{length_text}
use Rattle.commands.specs.Asked.{line_limit, first_word}
use Rattle.answers.specs.Answers.{number_line, hex_line, step_text, made_text, counted_text, unknown_answered}

-- ---- a number, bytes in hex, a verdict, each with the line's end

pub number_line_lem : (word : List ℕ) (n : ℕ) → word ++ (decimal n ++ text "\n") ≡ number_line word n
number_line_lem word n = sym (append_assoc word (decimal n) (text "\n"))

pub number_length : (word : List ℕ) (n : ℕ) → length (number_line word n) ≡ length word + length (decimal n) + 1
unfolding text
number_length word n = omega (arith, length-append (word ++ decimal n) (text "\n"), length-append word (decimal n))

pub hex_length : (bytes : List ℕ) → length (hex_line bytes) ≡ 2 * length bytes + 1
unfolding text
hex_length bytes = omega (arith, length-append (hex_text bytes) (text "\n"), length_text bytes)

pub verdict_line : (v : Verdict) → text " " ++ (verdict_text v ++ text "\n") ≡ text " " ++ verdict_text v ++ text "\n"
verdict_line v = sym (append_assoc (text " ") (verdict_text v) (text "\n"))

pub verdict_length : (v : Verdict) → length (text " " ++ verdict_text v ++ text "\n") ≡ length (verdict_text v) + 2
unfolding text
verdict_length v =
    omega (arith, length-append (text " " ++ verdict_text v) (text "\n"), length-append (text " ") (verdict_text v))

-- ---- a step, a run, the free ends

pub step_text_lem : (name : List ℕ) (n number : ℕ) → name ++ (decimal n ++ number_line (text ": ") number) ≡ step_text name n number
step_text_lem name n number = sym (append_assoc name (decimal n) (number_line (text ": ") number))

pub step_length : (name : List ℕ) (n number : ℕ)
    → length (step_text name n number) ≡ length name + length (decimal n) + length (number_line (text ": ") number)
step_length name n number =
    omega (arith, length-append (name ++ decimal n) (number_line (text ": ") number), length-append name (decimal n))

pub made_text_lem : (steps next : ℕ) (v : Verdict)
    → text "run: 0 " ++ (decimal steps ++ (text " " ++ (decimal next ++ (text " " ++ verdict_text v ++ text "\n")))) ≡ made_text steps
    next v
made_text_lem steps next v = simp append_assoc refl

pub made_length : (steps next : ℕ) (v : Verdict)
    → length (made_text steps next v)
    ≡ 8 + length (decimal steps) + length (decimal next) + length (text " " ++ verdict_text v ++ text "\n")
unfolding text
made_length steps next v =
    let line : List ℕ = text " " ++ verdict_text v ++ text "\n" in
    omega (
      arith,
      ap length (made_text_lem steps next v),
      length-append (text "run: 0 ") (decimal steps ++ (text " " ++ (decimal next ++ line))),
      length-append (decimal steps) (text " " ++ (decimal next ++ line)),
      length-append (text " ") (decimal next ++ line),
      length-append (decimal next) line,
    )

pub counted_text_lem : (count lowest : ℕ) → text "free: " ++ (decimal count ++ number_line (text " ") lowest) ≡ counted_text count lowest
counted_text_lem count lowest = sym (append_assoc (text "free: ") (decimal count) (number_line (text " ") lowest))

pub counted_length : (count lowest : ℕ)
    → length (counted_text count lowest) ≡ 6 + length (decimal count) + length (number_line (text " ") lowest)
unfolding text
counted_length count lowest =
    omega (
      arith,
      length-append (text "free: " ++ decimal count) (number_line (text " ") lowest),
      length-append (text "free: ") (decimal count),
    )

-- ---- what is not understood

pub unknown_text : (line : List ℕ) → text "? " ++ (take line_limit (first_word line) ++ text "\n") ≡ unknown_answered line
unfolding unknown_answered
unknown_text line = sym (append_assoc (text "? ") (take line_limit (first_word line)) (text "\n"))

-- a word with what stands around it
around : (word : List ℕ) → length (text "? " ++ word ++ text "\n") ≡ length word + 3
unfolding text
around word = omega (arith, length-append (text "? " ++ word) (text "\n"), length-append (text "? ") word)

pub unknown_length : (line : List ℕ) → length (unknown_answered line) ≡ length (take line_limit (first_word line)) + 3
unfolding unknown_answered
unknown_length line = around (take line_limit (first_word line))
