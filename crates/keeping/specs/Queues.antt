-- What demand 3 of document 01 says, as statements: an event of a step is exactly a change of that queue by the step (`QueueChange`),
-- and the history of an end agrees with its queue (`Agrees`). Assumes nothing.
use Rattle.std.specs.Prelude.{◌≡◌, Bool, true, false, List, [], ◌∷◌, ◌++◌, ℕ, eqb}
use Rattle.rules.specs.State.{State, EndState, free_end, used, end_at, data_of}
use Rattle.rules.specs.Sound.{in_use}
use Rattle.rules.specs.Events.{Event, created, put_on, taken_from, History}

-- ---- the events about one end

abbrev pub end_of_event : Event → ℕ
end_of_event (created e) = e
end_of_event (put_on e d) = e
end_of_event (taken_from e d) = e

abbrev pub in_front_if : Bool → Event → List Event → List Event
in_front_if true x xs = x ∷ xs
in_front_if false x xs = xs

-- the events about end e, in order
unfoldable pub about : ℕ → List Event → List Event
about e [] = []
about e (x ∷ xs) = in_front_if (eqb (end_of_event x) e) x (about e xs)

-- ---- an event is a change of the queue

-- an end before a step, after it, and the events of the step about it: at most one, and it is what happened to the queue
abbrev pub QueueChange : EndState → EndState → List Event → Type 0
-- no event: what is queued stays, and a free end stays free
QueueChange old new [] = (data_of new ≡ data_of old) × (old ≡ free_end → new ≡ free_end)
-- created: it was free, and is in use with an empty queue
QueueChange old new (created e ∷ []) = (old ≡ free_end) × (data_of new ≡ []) × (in_use new ≡ 1)
-- put: it is in use before and after, with the datum at the back
QueueChange old new (put_on e d ∷ []) = (in_use old ≡ 1) × (data_of new ≡ data_of old ++ d ∷ []) × (in_use new ≡ 1)
-- taken: it is in use before and after, without the datum at the head
QueueChange old new (taken_from e d ∷ []) = (in_use old ≡ 1) × (data_of old ≡ d ∷ data_of new) × (in_use new ≡ 1)
QueueChange old new (created e ∷ x ∷ xs) = ⊥
QueueChange old new (put_on e d ∷ x ∷ xs) = ⊥
QueueChange old new (taken_from e d ∷ x ∷ xs) = ⊥

-- ---- a history agrees with the queue

-- for an end in use: what was put, in order, is what was taken, in order, followed by what is queued
abbrev pub Agrees : EndState → History → Type 0
Agrees free_end h = Unit {0}
Agrees (used m ds l) h = h.put_so_far ≡ h.taken_so_far ++ ds

-- the same for every end of a state
abbrev pub AllAgree : State → (ℕ → History) → Type 0
AllAgree st h = (e : ℕ) → Agrees (end_at st e) (h e)

-- an end that goes out of use has no value or handle queued
abbrev pub NothingLost : State → State → Type 0
NothingLost st st' = (e : ℕ) → end_at st' e ≡ free_end → data_of (end_at st e) ≡ []
