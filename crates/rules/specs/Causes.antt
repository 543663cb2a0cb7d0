-- Document 01, "Numbers returned", 5 to 15: each cause under its number, then for each instruction its rows in the order of the numbers.
-- Rows 5 to 11 look at the record's registers only (`own_causes`), rows 12 to 15 at what is shared (`shared_causes`). Assumes nothing.
use Rattle.std.specs.Prelude.{ℕ, Bool, true, false, not, List, [], ◌∷◌, ◌++◌, length, get_or, leb, ltb, eqb, ◌+ℤ◌, ◌*ℤ◌, pos}
use Rattle.std.proofs.Math.Option.{Option, none, some}
use Rattle.std.specs.Int.Signed.{mag}
use Rattle.rules.specs.Limits.{stack_depth, environment_depth, queue_depth, value_bound}
use Rattle.rules.specs.State.{State, Value, Registers, end_at, end_in, queue_length, partner_of, free_ends, free_records}
use Rattle.rules.specs.Refusal.{Row}
use Rattle.rules.specs.Instruction.{Instruction, cst, access, store, add, mul, leq, put, get, split, fork, plug, close, halt, same}
use Rattle.rules.specs.Instruction.{hput, hcase, run}
use Rattle.rules.specs.Slots.{over, is_empty, emptied, in_set, overlap, not_together, any_held, any_over, any_empty, any_repeated}
use Rattle.rules.specs.Slots.{all_emptied}

-- ---- the stack

-- the value on top, and the one below it
abbrev pub top : Registers → Value
top g = get_or g.stack 0 (pos 0)

abbrev pub below : Registers → Value
below g = get_or g.stack 1 (pos 0)

-- 5: fewer stack values than the n needed
abbrev pub fewer : ℕ → Registers → Bool
fewer n g = ltb (length g.stack) n

-- 6: the stack would pass its depth
abbrev pub stack_full : Registers → Bool
stack_full g = leb stack_depth (length g.stack)

-- 6: the environment would pass its depth
abbrev pub environment_full : Registers → Bool
environment_full g = leb environment_depth (length g.environment)

-- 7: no such environment place
abbrev pub no_environment_place : ℕ → Registers → Bool
no_environment_place n g = leb (length g.environment) n

-- 9: outside 32 bits
abbrev pub outside : Value → Bool
outside v = leb value_bound (mag v)

-- 11: stack not empty
abbrev pub stack_not_empty : Registers → Bool
stack_not_empty g = ltb 0 (length g.stack)

-- ---- the slots

-- 8: c is empty
abbrev pub empty : ℕ → Registers → Bool
empty c g = is_empty g.slots c

abbrev pub unless_same : Bool → Bool → Bool
unless_same true b = false
unless_same false b = b

-- 8, split: a holds an end and isn't c
abbrev pub taken : ℕ → ℕ → Registers → Bool
taken a c g = unless_same (eqb a c) (not (empty a g))

-- 10, halt: others than c held
abbrev pub others_held : ℕ → Registers → Bool
others_held c g = any_held (emptied g.slots c)

-- 10, same: others than c, d held
abbrev pub others_than_both_held : ℕ → ℕ → Registers → Bool
others_than_both_held c d g = any_held (emptied (emptied g.slots c) d)

-- ---- what is shared

abbrev pub names : Option ℕ → ℕ → Bool
names none e = false
names (some f) e = eqb f e

-- 12, same: the ends in c and d are partners
abbrev pub partners : State → ℕ → ℕ → Registers → Bool
partners st c d g = names (partner_of (end_at st (end_in g c))) (end_in g d)

-- 13: the queue to be appended to, of the end in c, is full
abbrev pub queue_full : State → ℕ → Registers → Bool
queue_full st c g = leb queue_depth (queue_length (end_at st (end_in g c)))

-- 14, same: the own queue of the end in c isn't empty
abbrev pub queue_not_empty : State → ℕ → Registers → Bool
queue_not_empty st c g = ltb 0 (queue_length (end_at st (end_in g c)))

-- 15: fewer than n free ends
abbrev pub few_free_ends : ℕ → State → Bool
few_free_ends n st = ltb (length (free_ends st)) n

-- 15: no free record
abbrev pub no_free_record : State → Bool
no_free_record st = eqb (length (free_records st)) 0

-- ---- the rows of each instruction

-- 5 to 11
unfoldable pub own_causes : Registers → Instruction → List Row
own_causes g (cst v) = (6, stack_full g) ∷ []
own_causes g (access n) = (6, stack_full g) ∷ (7, no_environment_place n g) ∷ []
own_causes g store = (5, fewer 1 g) ∷ (6, environment_full g) ∷ []
own_causes g add = (5, fewer 2 g) ∷ (9, outside (top g +ℤ below g)) ∷ []
own_causes g mul = (5, fewer 2 g) ∷ (9, outside (top g *ℤ below g)) ∷ []
own_causes g leq = (5, fewer 2 g) ∷ []
own_causes g (put c) = (5, fewer 1 g) ∷ (8, over c) ∷ (8, empty c g) ∷ []
own_causes g (get c) = (6, stack_full g) ∷ (8, over c) ∷ (8, empty c g) ∷ []
own_causes g (split c a b) =
    (8, over c)
    ∷ (8, over a)
    ∷ (8, over b)
    ∷ (8, empty c g)
    ∷ (8, eqb a b)
    ∷ (8, taken a c g)
    ∷ (8, taken b c g)
    ∷ (11, stack_not_empty g)
    ∷ []
own_causes g (fork c a m place b m' place') =
    (8, over c)
    ∷ (8, over a)
    ∷ (8, over b)
    ∷ (8, empty c g)
    ∷ (8, in_set m a)
    ∷ (8, in_set m' b)
    ∷ (10, overlap m m' g.slots)
    ∷ (10, not_together m m' (emptied g.slots c))
    ∷ (11, stack_not_empty g)
    ∷ []
own_causes g (plug a m place m' place') =
    (8, over a)
    ∷ (8, in_set m a)
    ∷ (8, in_set m' a)
    ∷ (10, overlap m m' g.slots)
    ∷ (10, not_together m m' g.slots)
    ∷ (11, stack_not_empty g)
    ∷ []
own_causes g (close c) = (8, over c) ∷ (8, empty c g) ∷ []
own_causes g (halt c) = (8, over c) ∷ (8, empty c g) ∷ (10, others_held c g) ∷ (11, stack_not_empty g) ∷ []
own_causes g (same c d) =
    (8, over c)
    ∷ (8, over d)
    ∷ (8, empty c g)
    ∷ (8, empty d g)
    ∷ (10, others_than_both_held c d g)
    ∷ (11, stack_not_empty g)
    ∷ []
own_causes g (hput c n) = (8, over c) ∷ (8, empty c g) ∷ []
own_causes g (hcase c places) = (8, over c) ∷ (8, empty c g) ∷ []
own_causes g (run place n cs) =
    (5, fewer n g)
    ∷ (8, any_over cs)
    ∷ (8, any_empty g.slots cs)
    ∷ (10, any_repeated cs)
    ∷ (10, any_held (all_emptied g.slots cs))
    ∷ []

-- 12 to 15
unfoldable pub shared_causes : State → Registers → Instruction → List Row
shared_causes st g (cst v) = []
shared_causes st g (access n) = []
shared_causes st g store = []
shared_causes st g add = []
shared_causes st g mul = []
shared_causes st g leq = []
shared_causes st g (put c) = (13, queue_full st c g) ∷ []
shared_causes st g (get c) = (13, queue_full st c g) ∷ []
shared_causes st g (split c a b) = (13, queue_full st c g) ∷ (15, few_free_ends 4 st) ∷ []
shared_causes st g (fork c a m place b m' place') = (13, queue_full st c g) ∷ []
shared_causes st g (plug a m place m' place') = (15, few_free_ends 2 st) ∷ (15, no_free_record st) ∷ []
shared_causes st g (close c) = (13, queue_full st c g) ∷ []
shared_causes st g (halt c) = (13, queue_full st c g) ∷ []
shared_causes st g (same c d) =
    (12, eqb c d) ∷ (12, partners st c d g) ∷ (14, queue_not_empty st c g) ∷ (14, queue_not_empty st d g) ∷ []
shared_causes st g (hput c n) = (13, queue_full st c g) ∷ []
shared_causes st g (hcase c places) = (13, queue_full st c g) ∷ []
shared_causes st g (run place n cs) = []

-- all of them, in the order of the numbers
abbrev pub causes : State → Registers → Instruction → List Row
causes st g i = own_causes g i ++ shared_causes st g i
