-- The search for the next step: which positions are not worth asking, that positions passed over are no part of it, and that it goes up to
-- the last position and then on from the first. Assumes nothing.
use mathlib.Core.Path.{◌≡◌, refl, sym, ap, ◌∙◌, subst}
use mathlib.Core.Bool.{false}
use mathlib.Core.Option.{Option, none, some}
use mathlib.Core.List.{List, [], ◌∷◌}
use Prim.Native.Nat.{ℕ, zero, suc, ◌+◌, ◌-◌, ◌<◌, ◌≤◌}
use native.Mathlib.Decide.{dec_lt}
use native.Mathlib.Omega.{arith}
use lib.Dec.{leb}
use borrow.Author.Tests.{lt-leb}
use denote.Enum.Bare.{sameb}
use Rattle.rules.specs.Limits.{record_count, end_count, position_count}
use Rattle.rules.specs.State.{State, Item, RecordState, free_record, running, waiting, EndState, free_end, used}
use Rattle.rules.specs.State.{record_at, end_at, end_or, partner_of, queue_length, head_of, is_free_end}
use Rattle.rules.specs.Refusal.{Answer, refused, done, is_done}
use Rattle.rules.specs.Sound.{Sound}
use Rattle.rules.specs.Ask.{ask_end, ask}
use Rattle.rules.specs.Run.{Step, next_position, first_of, next_step}
use Rattle.rules.specs.Layout.{view}
use Rattle.rules.specs.Calls.{layout_or}
use Rattle.rules.specs.Numbers.{reply_to}
use Rattle.rules.specs.Promise.{Promise}
use Rattle.rules.proofs.TestLaws.{true_is_not_false}
use Rattle.rules.proofs.Promises.{is_refused}
use Rattle.registers.specs.declared.records.Status.{Status}
use Rattle.registers.specs.declared.records.Status.TheVariants.{Running}
use Rattle.registers.specs.contracts.records.Status.{the_type}
use Rattle.registers.specs.Registers.{status_of}
use Rattle.meetings.proofs.Answers.{end_free, own_empty, partner_empty}
use Rattle.meetings.proofs.Ends.{partner_shown}
use Rattle.asking.specs.Stepped.{PositionStepped}
use Rattle.asking.proofs.Answers.{free, waits, of_a_record, of_an_end}
use Rattle.std.specs.Prelude.{Option as Maybe, Some, None}
use Rattle.std.proofs.lemmas.Option.{none-some}
use Rattle.runner.specs.Runs.{PassedTo, stepped_by, memory_by}
use Rattle.runner.proofs.Somewhere.{no_step}

-- ---- positions that are not worth asking

pub record_idle : (st : State) (p : ℕ) → p < record_count → {s : Status} → s ≡ status_of (record_at st p)
    → sameb the_type s Running ≡ false → is_done (ask st p) ≡ false
record_idle st p h e other = go (record_at st p) refl
  where
    go : (x : RecordState) → record_at st p ≡ x → is_done (ask st p) ≡ false
    go free_record q = ap is_done (of_a_record st p h ∙ free st p (sym (ap status_of q)))
    go (running g) q = true_is_not_false refl (ap (λ (s : Status). sameb the_type s Running) (sym (e ∙ ap status_of q)) ∙ other)
    go (waiting g) q = ap is_done (of_a_record st p h ∙ waits st p (sym (ap status_of q)))

-- a queue with no item has no head
empty_head : (x : EndState) → queue_length x ≡ 0 → head_of x ≡ none
empty_head free_end z = refl
empty_head (used m [] none) z = refl
empty_head (used m [] (some l)) z = absurd (omega (arith, z))
empty_head (used m (d ∷ ds) none) z = absurd (omega (arith, z))
empty_head (used m (d ∷ ds) (some l)) z = absurd (omega (arith, z))

module _ (st : State) (e : ℕ) (h : e < end_count) where
  in_range : leb end_count e ≡ false
  in_range = lt-leb end_count e h

  -- an end with nothing queued is free, or its queue has no head
  pub nothing_queued : queue_length (end_at st e) ≡ 0 → is_done (ask_end st e) ≡ false
  nothing_queued empty = go (end_at st e) refl
    where
      go : (x : EndState) → end_at st e ≡ x → is_done (ask_end st e) ≡ false
      go free_end q = ap is_done (end_free st e in_range (ap is_free_end q))
      go (used m ds l) q = ap is_done (own_empty st e in_range (ap is_free_end q) (empty_head (end_at st e) empty))

  module _ (sound : Sound st) (f : ℕ) (partner : f ≡ end_or 0 (partner_of (end_at st e))) where
    -- the number that stands for the partner is one of the ends, for a free end too
    pub partner_within : f < end_count
    partner_within = go (end_at st e) refl
      where
        go : (x : EndState) → end_at st e ≡ x → f < end_count
        go free_end q = omega (arith, partner ∙ ap (λ (x : EndState). end_or 0 (partner_of x)) q)
        go (used m ds l) q = (partner_shown st sound e (ap is_free_end q) partner).1

    -- an end whose partner has nothing queued
    pub nothing_meets : queue_length (end_at st f) ≡ 0 → is_done (ask_end st e) ≡ false
    nothing_meets empty = go (end_at st e) refl (head_of (end_at st e)) refl
      where
        go : (x : EndState) → end_at st e ≡ x → (y : Option Item) → head_of (end_at st e) ≡ y → is_done (ask_end st e) ≡ false
        go free_end q y own = ap is_done (end_free st e in_range (ap is_free_end q))
        go (used m ds l) q none own = ap is_done (own_empty st e in_range (ap is_free_end q) own)
        go (used m ds l) q (some y) own =
            let shown = (partner_shown st sound e (ap is_free_end q) partner).0 in
            ap is_done (partner_empty st e in_range (ap is_free_end q) f shown own (empty_head (end_at st f) empty))

-- an end that cannot step, by its position
pub not_at : (st : State) (p e : ℕ) → record_count ≤ p → e ≡ p - record_count → is_done (ask_end st e) ≡ false → is_done (ask st p) ≡ false
not_at st p e h same no_step =
    ap is_done (of_an_end st p h) ∙ subst (λ (k : ℕ). is_done (ask_end st k) ≡ false) same no_step

-- ---- positions that are passed over

module _ {st : State} where
  -- nothing is passed over yet
  pub nothing_passed : (p most : ℕ) → p ≤ most → PassedTo st p p most
  nothing_passed p most h = record {
    upward = omega arith;
    within = h;
    none_between = λ i from to. absurd (omega (arith, from, to));
  }

  -- some more, from q up to r
  pub passed_more : {p q r least most : ℕ} → PassedTo st p q least → r ≤ most → q ≤ r
      → ((i : ℕ) → q ≤ i → i < r → is_done (ask st i) ≡ false) → PassedTo st p r most
  passed_more {p} {q} {r} a h u more = record {
    upward = let l = a.upward in omega (arith, l, u);
    within = h;
    none_between = λ i from to. go i from to (dec_lt i q);
  }
    where
      go : (i : ℕ) → p ≤ i → i < r → Dec (i < q) → is_done (ask st i) ≡ false
      go i from to (yes l) = a.none_between i from l
      go i from to (no l) = more i (omega (arith, l)) to

  -- one more
  pub passed_one : {p q least most : ℕ} → PassedTo st p q least → q < most → is_done (ask st q) ≡ false → PassedTo st p (q + 1) most
  passed_one {p} {q} a h no_step =
      passed_more a (omega (arith, h)) (omega arith) (λ i from to. only i from to)
    where
      only : (i : ℕ) → q ≤ i → i < q + 1 → is_done (ask st i) ≡ false
      only i from to =
          let same : q ≡ i = omega (arith, from, to) in
          subst (λ (k : ℕ). is_done (ask st k) ≡ false) same no_step

  -- and then those from q up to r
  pub passed_then : {p q r least most : ℕ} → PassedTo st p q least → PassedTo st q r most → PassedTo st p r most
  passed_then a b = passed_more a b.within b.upward b.none_between

-- ---- what one position makes of the search

next_upward : (p : ℕ) → suc p < position_count → next_position p ≡ suc p
unfolding next_position
next_upward p h = omega (arith, h)

next_around : (p : ℕ) → suc p ≡ position_count → next_position p ≡ 0
unfolding next_position
next_around p e = omega (arith, e)

module _ (st : State) where
  -- what p's answer makes of the search among it and n more
  abbrev decides : (p n : ℕ) → Answer State → Option Step
  decides p n a = elim a [ refused k ↦ first_of n st (next_position p) | done x ↦ some (record { position = p; before = st; reached = x }) ]

  pub here : (p n : ℕ) (st' : State) → ask st p ≡ done st'
      → first_of (suc n) st p ≡ some (record { position = p; before = st; reached = st' })
  unfolding first_of
  here p n st' e = ap (decides p n) e

  pub further : (p n k : ℕ) → ask st p ≡ refused k → first_of (suc n) st p ≡ first_of n st (next_position p)
  unfolding first_of
  further p n k e = ap (decides p n) e

  not_done : (p n : ℕ) → is_done (ask st p) ≡ false → first_of (suc n) st p ≡ first_of n st (next_position p)
  not_done p n h = go (ask st p) refl h
    where
      go : (a : Answer State) → ask st p ≡ a → is_done a ≡ false → first_of (suc n) st p ≡ first_of n st (next_position p)
      go (refused k) e z = further p n k e
      go (done st') e z = absurd (let never : ◌≡◌ {A = ℕ} 0 1 = cc in omega arith)

  none_left : (n p : ℕ) → n ≡ 0 → first_of n st p ≡ none
  unfolding first_of
  none_left n p e = ap (λ (k : ℕ). first_of k st p) e

  -- positions that are passed over, k of them, are no part of the search below `to`
  passed_first : (k p q to : ℕ) → q ≡ p + k → q ≤ to → to ≤ position_count
      → ((i : ℕ) → p ≤ i → i < q → is_done (ask st i) ≡ false) → first_of (to - p) st p ≡ first_of (to - q) st q
  passed_first zero p q to e h l no_step =
      let same : p ≡ q = omega (arith, e) in
      ap (λ (i : ℕ). first_of (to - i) st i) same
  passed_first (suc k) p q to e h l no_step =
      let one : to - p ≡ suc (to - suc p) = omega (arith, e, h) in
      ap (λ (n : ℕ). first_of n st p) one
      ∙ not_done p (to - suc p) (no_step p (omega arith) (omega (arith, e)))
      ∙ on (dec_lt (suc p) position_count)
      (passed_first k (suc p) q to (omega (arith, e)) h l (λ i from below. no_step i (omega (arith, from)) below))
    where
      on : Dec (suc p < position_count) → first_of (to - suc p) st (suc p) ≡ first_of (to - q) st q
          → first_of (to - suc p) st (next_position p) ≡ first_of (to - q) st q
      on (yes u) rest = ap (first_of (to - suc p) st) (next_upward p u) ∙ rest
      on (no u) rest = none_left (to - suc p) (next_position p) (omega (arith, u, l)) ∙ sym (none_left (to - q) q (omega (arith, u, e, l)))

  -- the first, or else the second
  abbrev or_else : Option Step → Option Step → Option Step
  or_else none y = y
  or_else (some s) y = some s

  -- one position of the search, where what comes behind it is known
  behind_one : (a b p : ℕ) → first_of (a + b) st (next_position p) ≡ or_else (first_of a st (next_position p)) (first_of b st 0)
      → first_of (suc a + b) st p ≡ or_else (first_of (suc a) st p) (first_of b st 0)
  behind_one a b p later =
      let one : suc a + b ≡ suc (a + b) = omega arith in
      ap (λ (n : ℕ). first_of n st p) one ∙ go (ask st p) refl
    where
      go : (x : Answer State) → ask st p ≡ x → first_of (suc (a + b)) st p ≡ or_else (first_of (suc a) st p) (first_of b st 0)
      go (done st') z = here p (a + b) st' z ∙ ap (λ (x : Option Step). or_else x (first_of b st 0)) (sym (here p a st' z))
      go (refused k) z = further p (a + b) k z ∙ later ∙ ap (λ (x : Option Step). or_else x (first_of b st 0)) (sym (further p a k z))

  -- the search goes up to the last position, and then on from position 0
  around : (a b p : ℕ) → p + suc a ≡ position_count → first_of (suc a + b) st p ≡ or_else (first_of (suc a) st p) (first_of b st 0)
  around zero b p e =
      let rest : 0 + b ≡ b = omega arith in
      behind_one zero b p
      (ap (λ (i : ℕ). first_of (0 + b) st i) (next_around p (omega (arith, e)))
      ∙ ap (λ (n : ℕ). first_of n st 0) rest
      ∙ ap (λ (x : Option Step). or_else x (first_of b st 0)) (sym (none_left 0 (next_position p) refl)))
  around (suc a) b p e =
      let up = next_upward p (omega (arith, e)) in
      behind_one (suc a) b p
      (ap (first_of (suc a + b) st) up ∙ around a b (suc p) (omega (arith, e))
      ∙ ap (λ (i : ℕ). or_else (first_of (suc a) st i) (first_of b st 0)) (sym up))

-- ---- the step between two positions

-- the search below `to` has come from `from` to p, with the memory as it was
module _ (m₀ : List ℕ) (from p to : ℕ) (passed : PassedTo (view m₀) from p position_count) (last : to ≤ position_count) {m : List ℕ}
    (same : m ≡ m₀) where
  abbrev pub Sought : Maybe ℕ → List ℕ → Type 0
  Sought answer left =
      Promise (stepped_by (first_of (to - from) (view m₀) from)) (memory_by m₀ (first_of (to - from) (view m₀) from)) answer left

  -- all positions are passed over
  pub none_found : from ≤ to → to ≤ p → Sought None m
  none_found h l =
      rw (passed_first (view m₀) (to - from) from to to (omega (arith, h)) (omega arith) last
      (λ i a b. passed.none_between i a (omega (arith, b, l)))
      ∙ none_left (view m₀) (to - to) to (omega arith))
      (record { answer_is = refl; memory_is = same })

  -- position p was asked, and the answer says so much
  abbrev Asked : List ℕ → Answer (Unit {0}) → List ℕ → Type 0
  Asked x said left = Promise (reply_to (ask (view x) p)) (layout_or x (ask (view x) p)) said left

  module _ (below : p < to) {said : Answer (Unit {0})} {left : List ℕ} (asked : Asked m said left) where
    asked₀ : Asked m₀ said left
    asked₀ = subst (λ (x : List ℕ). Asked x said left) same asked

    -- p steps
    pub found_here : said ≡ done tt → Sought (Some p) left
    found_here is = go (ask (view m₀) p) refl
      where
        go : (a : Answer State) → ask (view m₀) p ≡ a → Sought (Some p) left
        go (refused k) e = absurd (omega (arith, ap is_refused (sym is ∙ asked₀.answer_is ∙ ap reply_to e)))
        go (done st') e =
            let up = passed.upward in
            let one : to - p ≡ suc (to - suc p) = omega (arith, below) in
            rw (passed_first (view m₀) (p - from) from p to (omega (arith, up)) (omega (arith, below)) last passed.none_between
            ∙ ap (λ (n : ℕ). first_of n (view m₀) p) one
            ∙ here (view m₀) p (to - suc p) st' e)
            (record { answer_is = refl; memory_is = asked₀.memory_is ∙ ap (layout_or m₀) e })

    -- p does not step: the memory is as it was, and p is passed over
    pub not_here : (n : ℕ) → said ≡ refused n → (left ≡ m₀) × PassedTo (view m₀) from (p + 1) position_count
    not_here n is = go (ask (view m₀) p) refl
      where
        go : (a : Answer State) → ask (view m₀) p ≡ a → (left ≡ m₀) × PassedTo (view m₀) from (p + 1) position_count
        go (refused k) e =
            (asked₀.memory_is ∙ ap (layout_or m₀) e, passed_one passed (omega (arith, below, last)) (ap is_done e))
        go (done st') e = absurd (omega (arith, ap is_refused (sym is ∙ asked₀.answer_is ∙ ap reply_to e)))

-- ---- from a position to the last one, and from the first one to it

module _ (m : List ℕ) (p : ℕ) (h : p < position_count) where
  -- the step that is made next, from p up to the last position or else below p
  halves : next_step (view m) p ≡ or_else (view m) (first_of (position_count - p) (view m) p) (first_of (p - 0) (view m) 0)
  unfolding next_step
  halves =
      let all : position_count ≡ suc (position_count - suc p) + (p - 0) = omega (arith, h) in
      ap (λ (n : ℕ). first_of n (view m) p) all
      ∙ around (view m) (position_count - suc p) (p - 0) p (omega (arith, h))
      ∙ ap (λ (n : ℕ). or_else (view m) (first_of n (view m) p) (first_of (p - 0) (view m) 0)) (omega (arith, h))

  abbrev Next : Maybe ℕ → List ℕ → Type 0
  Next answer left = Promise (stepped_by (next_step (view m) p)) (memory_by m (next_step (view m) p)) answer left

  -- a step was made from p on
  pub made_above : {q : ℕ} {left : List ℕ}
      → Promise (stepped_by (first_of (position_count - p) (view m) p)) (memory_by m (first_of (position_count - p) (view m) p))
      (Some q) left
      → Next (Some q) left
  made_above {q} {left} made = go (first_of (position_count - p) (view m) p) refl
    where
      go : (x : Option Step) → first_of (position_count - p) (view m) p ≡ x → Next (Some q) left
      go none e = absurd (none-some _ (sym (made.answer_is ∙ ap stepped_by e)))
      go (some s) e =
          rw (halves ∙ ap (λ (x : Option Step). or_else (view m) x (first_of (p - 0) (view m) 0)) e)
          (record { answer_is = made.answer_is ∙ ap stepped_by e; memory_is = made.memory_is ∙ ap (memory_by m) e })

  -- none was: the memory is as it was, and the step below p is the one
  module _ {middle : List ℕ}
      (none_above : Promise (stepped_by (first_of (position_count - p) (view m) p)) (memory_by m (first_of (position_count - p) (view m) p))
      None middle) where
    nothing : first_of (position_count - p) (view m) p ≡ none
    nothing = no_step (first_of (position_count - p) (view m) p) none_above.answer_is

    pub unmoved : middle ≡ m
    unmoved = none_above.memory_is ∙ ap (memory_by m) nothing

    pub made_below : {answer : Maybe ℕ} {left : List ℕ}
        → Promise (stepped_by (first_of (p - 0) (view middle) 0)) (memory_by middle (first_of (p - 0) (view middle) 0)) answer left
        → Next answer left
    made_below {answer} {left} made =
        rw (halves ∙ ap (λ (x : Option Step). or_else (view m) x (first_of (p - 0) (view m) 0)) nothing)
        (subst (λ (x : List ℕ). Promise (stepped_by (first_of (p - 0) (view x) 0)) (memory_by x (first_of (p - 0) (view x) 0)) answer left)
        unmoved made)
