-- The code in the state memory: written behind its length where there was none, and read where it stands. Assumes nothing.
use mathlib.Core.Path.{◌≡◌, refl, sym, ap, ◌∙◌}
use mathlib.Core.List.{List, [], ◌++◌}
use Prim.Native.Nat.{ℕ, ◌+◌, ◌≤◌}
use native.Mathlib.Omega.{arith}
use lib.ListN.{length}
use Rattle.rules.specs.Limits.{code_limit}
use Rattle.rules.specs.Bytes.{bytes_of}
use Rattle.rules.specs.State.{start}
use Rattle.rules.specs.Layout.{free_word, layout}
use Rattle.words.specs.Parts.{put_at}
use Rattle.words.proofs.Parts.{put_in, put_skip, put_all}
use Rattle.words.proofs.Pads.{length_pad, put_pad}
use Rattle.memory.specs.Sections.{partners_of, counts_of, all_cells}
use Rattle.memory.proofs.Sections.{behind_code, behind_records, behind_word, behind_partners, with_code, sections, layout_is}
use Rattle.memory.proofs.StartLaws.{zeros}

-- two bytes in front, a part behind them, and the rest: the part written from its start, then the two bytes
written_behind : (a b p r code : List ℕ) → length a ≡ 2 → length b ≡ 2 → length code ≤ length p
    → put_at (put_at (a ++ (p ++ r)) 2 code) 0 b ≡ b ++ (put_at p 0 code ++ r)
written_behind a b p r code na nb h =
    let at : length a + 0 ≡ 2 = omega (arith, na) in
    let whole : 0 + length b ≤ length a = omega (arith, na, nb) in
    ap (λ (m : List ℕ). put_at m 0 b)
    (ap (λ (k : ℕ). put_at (a ++ (p ++ r)) k code) (sym at)
    ∙ put_skip a (p ++ r) 0 code
    ∙ ap (λ (m : List ℕ). a ++ m) (put_in p r 0 code (omega (arith, h))))
    ∙ put_in a (put_at p 0 code ++ r) 0 b whole
    ∙ ap (λ (m : List ℕ). m ++ (put_at p 0 code ++ r)) (put_all a b (nb ∙ sym na))

-- what stands behind the code in the start state, the same for every code
abbrev behind_any : List ℕ
behind_any =
    let st = start [] in
    behind_code [] st.records (free_word st.ends) (partners_of st.ends) (counts_of st.ends) (all_cells st.ends)

in_sections : (code : List ℕ) → layout (start code) ≡ with_code code behind_any
unfolding start behind_code behind_records behind_word behind_partners
in_sections code =
    let st = start code in
    layout_is st ∙ sections code st.records (free_word st.ends) (partners_of st.ends) (counts_of st.ends) (all_cells st.ends)

-- a code written where there was none, and its length in front
pub code_written : (code : List ℕ) → length code ≤ code_limit
    → put_at (put_at (layout (start [])) 2 code) 0 (bytes_of 2 (length code)) ≡ layout (start code)
code_written code h =
    let fits : length code ≤ length (zeros code_limit) = rw (length_pad {A = ℕ} code_limit 0 []) h in
    ap (λ (m : List ℕ). put_at (put_at m 2 code) 0 (bytes_of 2 (length code))) (in_sections [])
    ∙ written_behind (bytes_of 2 0) (bytes_of 2 (length code)) (zeros code_limit) behind_any code refl refl fits
    ∙ ap (λ (p : List ℕ). bytes_of 2 (length code) ++ (p ++ behind_any)) (put_pad code_limit code h)
    ∙ sym (in_sections code)
