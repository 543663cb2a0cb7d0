-- `values::write` stores the values one after the other. The invariant: the first k are written. Assumes nothing.
use Rattle.std.proofs.Common.{◌≡◌, refl, ◌∙◌, List, ℕ, ◌+◌, ◌*◌, ◌<◌, arith, pos, length, get_or, take, w32, of_z, SFits, to_z-of_z, rules}
use Rattle.rules.specs.Limits.{stack_depth}
use Rattle.rules.specs.Bytes.{bytes_of, flat}
use Rattle.rules.specs.State.{Value}
use Rattle.rules.specs.Layout.{value_size, value_bytes}
use Rattle.words.specs.Parts.{put_at}
use Rattle.words.proofs.Pieces.{put_more}
use Rattle.keeping.proofs.LayoutLaws.{length_value}
use Rattle.registers.proofs.ValueLaws.{moved, values_fit}
use Rattle.registers.proofs.values.write.Goals as goal
use Rattle.registers.proofs.values.write.Goals.{Start}

-- a turn: value k behind the first k
turn : (m₀ : List ℕ) (at : ℕ) (values : List Value) (k : ℕ) {m m' : List ℕ} → k < length values → SFits w32 (get_or values k (pos 0))
    → m ≡ put_at m₀ at (flat value_bytes (take k values))
    → m' ≡ put_at m (at + value_size * k) (bytes_of value_size (of_z w32 (moved (get_or values k (pos 0)))))
    → m' ≡ put_at m₀ at (flat value_bytes (take (k + 1) values))
unfolding value_bytes
turn m₀ at values k h f p e =
    e ∙ (λ i. put_at (p i) (at + value_size * k) (bytes_of value_size (of_z w32 (to_z-of_z {w = w32} {z = get_or values k (pos 0)} f i))))
    ∙ put_more value_bytes value_size length_value m₀ at values k (pos 0) h

sixteen : (s : Start) → length s.args.values ≡ stack_depth
sixteen s = search rules

pub loop-k-init : goal.loop-k-init
unfolding flat
loop-k-init c = (refl, refl)

pub loop-k-preserved : goal.loop-k-preserved
loop-k-preserved c =
    let l = c.loop-k in
    let a = c.args in
    let long = sixteen (goal.at.loop-k-preserved c).Start in
    let fits = values_fit stack_depth a.values _ c.well_formed.1.1.0 l.k in
    (omega arith, turn a.m.now a.at a.values l.k (omega arith) fits l.invariant.1 c.put_signed.ensures)
