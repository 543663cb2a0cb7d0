-- `taken` clears the bit of an end. Assumes nothing.
use Rattle.std.proofs.Common.{◌≡◌, subst, ℕ, ◌-◌, ◌^◌, ◌<◌, bit_and, length}
use Rattle.rules.specs.State.{set_end}
use Rattle.rules.specs.Layout.{free_word}
use Rattle.ends.proofs.Words.{word_taken}
use Rattle.ends.proofs.word.taken.Goals as goal

pub returns : goal.returns
returns c st x z e u =
    let a = c.args in
    let inside : a.end.0 < length st.ends = rw z.ends_sized c.requires in
    let after : ℕ = free_word (set_end st a.end.0 x).ends in
    rw (e, c.bit.ensures)
    (subst (λ (n : ℕ). bit_and (free_word st.ends) (2 ^ n - 1 - 2 ^ a.end.0) ≡ after) z.ends_sized
    (word_taken st.ends a.end.0 x inside u))
