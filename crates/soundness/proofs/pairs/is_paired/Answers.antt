-- `is_paired` follows the end to its partner and back. Assumes nothing.
use Rattle.std.proofs.Common.{◌≡◌, sym, ap, ◌∙◌, false, ℕ, eqb}
use Rattle.canonical.specs.Canonical.{free_in}
use Rattle.soundness.proofs.Partners.{free_is, paired_free, paired_itself, paired_over, paired_to_free, paired_back}
use Rattle.soundness.proofs.pairs.is_paired.Goals as goal
use Rattle.soundness.proofs.pairs.is_paired.Goals.{Else-is_free}

pub returns-then-is_free : goal.returns-then-is_free
returns-then-is_free c =
    let m = c.args.m.now in
    let e = c.args.e in
    let h = c.requires.1 in
    let free = free_is m e c.requires.2 c.is_free.ensures in
    paired_free m e h (sym free ∙ c.if-is_free.true)

-- the end is in use
in_use : (c : Else-is_free) → free_in c.args.m.now c.args.e ≡ false
in_use c =
    sym (free_is c.args.m.now c.args.e c.requires.2 c.is_free.ensures) ∙ c.if-is_free.false

pub returns-then-partner-e : goal.returns-then-partner-e
returns-then-partner-e c =
    paired_itself c.args.m.now c.args.e c.requires.1 (in_use (goal.at.returns-then-partner-e c).Else-is_free)
    c.from-partner.ensures c.if-partner-e.true

pub returns-then-partner-ge-END_COUNT : goal.returns-then-partner-ge-END_COUNT
returns-then-partner-ge-END_COUNT c =
    let differs = c.if-partner-e.false in
    paired_over c.args.m.now c.args.e c.requires.1 (in_use (goal.at.returns-then-partner-ge-END_COUNT c).Else-is_free)
    c.from-partner.ensures differs c.if-partner-ge-END_COUNT.true

pub returns-then-is_free-2 : goal.returns-then-is_free-2
returns-then-is_free-2 c =
    let m = c.args.m.now in
    let free = sym (free_is m c.from-partner.result c.requires.2 c.is_free-2.ensures) ∙ c.if-is_free-2.true in
    paired_to_free m c.args.e c.requires.1 (in_use (goal.at.returns-then-is_free-2 c).Else-is_free) c.from-partner.ensures
    c.if-partner-e.false c.if-partner-ge-END_COUNT.false free

pub returns : goal.returns
returns c =
    let m = c.args.m.now in
    let e = c.args.e in
    let used = sym (free_is m c.from-partner.result c.requires.2 c.is_free-2.ensures) ∙ c.if-is_free-2.false in
    ap (λ (k : ℕ). eqb k e) c.from.ensures
    ∙ paired_back m e c.requires.1 (in_use (goal.at.returns c).Else-is_free) c.from-partner.ensures c.if-partner-e.false
    c.if-partner-ge-END_COUNT.false used
