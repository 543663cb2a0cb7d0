-- Document 01, "A step of a record": the state after each instruction that no cause stops. Unless said otherwise the record goes on at the
-- next place, at run and in each branch at the place named. New ends and a new record are arguments, `Fresh`; the machine passes the
-- lowest free ones. Assumes nothing.
use Rattle.std.specs.Prelude.{ℕ, Bool, true, false, [], ◌∷◌, reverse, get_or, take, drop, pos, ◌+ℤ◌, ◌*ℤ◌}
use Rattle.std.specs.Int.Signed.{le_z}
use Rattle.rules.specs.Limits.{end_count}
use Rattle.rules.specs.State.{State, Value, Item, datum, last, value, handle, split_item, close_item, wait_item, Registers, registers}
use Rattle.rules.specs.State.{running, waiting, free_record, free_end, fresh_end, end_at, set_record, set_end, end_in, end_or, partner_of}
use Rattle.rules.specs.State.{appended, with_partner, free_ends, lowest_free_record}
use Rattle.rules.specs.Instruction.{Instruction, cst, access, store, add, mul, leq, put, get, split, fork, plug, close, halt, same}
use Rattle.rules.specs.Instruction.{hput, hcase, run}
use Rattle.rules.specs.Slots.{emptied, holding, kept_by, callee_slots}
use Rattle.rules.specs.Causes.{top, below}

-- the names that a step may give to what it creates: ends p, q, s, t and a record
pub record Fresh : Type 0 where
  pub p : ℕ
  pub q : ℕ
  pub s : ℕ
  pub t : ℕ
  pub record' : ℕ

-- the four lowest free ends and the lowest free record
unfoldable pub lowest_free : State → Fresh
lowest_free st = record {
  p = get_or (free_ends st) 0 end_count;
  q = get_or (free_ends st) 1 end_count;
  s = get_or (free_ends st) 2 end_count;
  t = get_or (free_ends st) 3 end_count;
  record' = lowest_free_record st;
}

-- ---- what instructions share

-- two free ends become a pair
abbrev pub paired : State → ℕ → ℕ → State
paired st p q = set_end (set_end st p (fresh_end q)) q (fresh_end p)

-- an item is appended to the queue of end e
abbrev pub append : State → ℕ → Item → State
append st e x = set_end st e (appended x (end_at st e))

-- a branch of a plug or a fork: at its place with an empty stack, the environment, the slots of its m, and end e in slot a
abbrev pub branch : Registers → (a m place e : ℕ) → Registers
branch g a m place e = registers place [] g.environment (holding (kept_by m g.slots) a e)

-- a wait is appended to the queue of slot c's end; the record becomes waiting at its present place
abbrev pub waits : State → ℕ → Registers → ℕ → State
waits st r g c = set_record (append st (end_in g c) (last (wait_item r))) r (waiting g)

-- the partner of end e; of a free end, none
abbrev pub partner_in : State → ℕ → ℕ
partner_in st e = end_or end_count (partner_of (end_at st e))

-- x and y become free, their partners become partners of each other, their queues stay
abbrev pub joined : State → (x y : ℕ) → State
joined st x y =
    set_end
    (set_end (set_end (set_end st x free_end) y free_end) (partner_in st x) (with_partner (partner_in st y) (end_at st (partner_in st x))))
    (partner_in st y)
    (with_partner (partner_in st x) (end_at st (partner_in st y)))

abbrev pub yes_or_no : Bool → Value
yes_or_no true = pos 1
yes_or_no false = pos 0

-- ---- the state after a step of record r, whose registers are g; `next` is the place after the instruction

unfoldable pub after : State → (r next : ℕ) → Registers → Fresh → Instruction → State
after st r next g new (cst v) = set_record st r (running (registers next (v ∷ g.stack) g.environment g.slots))
after st r next g new (access n) =
    set_record st r (running (registers next (get_or g.environment n (pos 0) ∷ g.stack) g.environment g.slots))
after st r next g new store = set_record st r (running (registers next (drop 1 g.stack) (top g ∷ g.environment) g.slots))
after st r next g new add =
    set_record st r (running (registers next ((top g +ℤ below g) ∷ drop 2 g.stack) g.environment g.slots))
after st r next g new mul =
    set_record st r (running (registers next ((top g *ℤ below g) ∷ drop 2 g.stack) g.environment g.slots))
after st r next g new leq =
    set_record st r (running (registers next (yes_or_no (le_z (top g) (below g)) ∷ drop 2 g.stack) g.environment g.slots))
after st r next g new (put c) =
    set_record (append st (end_in g c) (datum (value (top g)))) r
    (running (registers next (drop 1 g.stack) g.environment g.slots))
after st r next g new (get c) = waits st r g c
after st r next g new (split c a b) =
    set_record (paired (paired (append st (end_in g c) (last (split_item new.q new.t))) new.p new.q) new.s new.t) r
    (running (registers next g.stack g.environment (holding (holding (emptied g.slots c) a new.p) b new.s)))
after st r next g new (fork c a m place b m' place') = waits st r g c
after st r next g new (plug a m place m' place') =
    set_record (set_record (paired st new.p new.q) r (running (branch g a m place new.p))) new.record'
    (running (branch g a m' place' new.q))
after st r next g new (close c) =
    set_record (append st (end_in g c) (last close_item)) r
    (running (registers next g.stack g.environment (emptied g.slots c)))
after st r next g new (halt c) = set_record (append st (end_in g c) (last close_item)) r free_record
after st r next g new (same c d) = set_record (joined st (end_in g c) (end_in g d)) r free_record
after st r next g new (hput c n) =
    set_record (append st (end_in g c) (datum (handle n))) r
    (running (registers next g.stack g.environment g.slots))
after st r next g new (hcase c places) = waits st r g c
after st r next g new (run place n cs) =
    set_record st r (running (registers place (drop n g.stack) (reverse (take n g.stack)) (callee_slots g.slots cs)))
