-- `last_of` reads the last of the cells in use. Assumes nothing.
use Rattle.std.proofs.Common.{◌≡◌, refl, sym, ap, ◌∙◌, true, ℕ, ◌+◌, ◌-◌, ◌*◌, ◌≤◌, arith}
use Rattle.rules.specs.Limits.{queue_depth}
use Rattle.rules.specs.Bytes.{number_at}
use Rattle.rules.specs.State.{end_at, last_of}
use Rattle.rules.specs.SoundTest.{last_within}
use Rattle.rules.specs.Layout.{cell_size, queue_size, queues_at, view}
use Rattle.soundness.specs.Lasts.{is_item, last_in}
use Rattle.soundness.proofs.Finals.{count_few, last_none, last_some}
use Rattle.soundness.proofs.lasts.last_of.Goals as goal
use Rattle.soundness.proofs.lasts.last_of.Goals.{After-get64, After-from-count}

-- the count is within its limit
counted : (c : After-from-count) → c.from-count.result ≤ queue_depth
counted c =
    omega (arith, c.from-count.ensures, count_few c.args.m.now c.args.e c.requires.1 c.requires.2)

-- the cell that was read is the last one in use
found : (c : After-get64)
    → (last_in c.get64.result
    ≡ last_of (end_at (view c.args.m.now) c.args.e))
    × (is_item c.get64.result ≡ true)
found c =
    let m = c.args.m.now in
    let e = c.args.e in
    let n = c.from-count.ensures in
    let cell = c.get64.ensures ∙ ap (λ (k : ℕ). number_at cell_size m (queues_at + queue_size * e + cell_size * (k - 1))) n in
    last_some m e c.requires.1 c.requires.2 (λ z. c.if-count-eq0.false (n ∙ z)) cell

pub returns-then-count-eq0 : goal.returns-then-count-eq0
unfolding last_within
returns-then-count-eq0 c =
    record {
      is = last_none c.args.m.now c.args.e c.requires.1 c.requires.2 (sym c.from-count.ensures ∙ c.if-count-eq0.true);
      within = refl;
    }

pub get64-requires : goal.get64-requires
get64-requires c = let few = counted (goal.at.get64-requires c).After-from-count in omega arith

pub last_in-requires : goal.last_in-requires
last_in-requires c = (found c).1

pub returns : goal.returns
returns c =
    record {
      is = c.last_in.ensures.is ∙ (found (goal.at.returns c).After-get64).0;
      within = c.last_in.ensures.within;
    }
