-- A move is a patch that meets the obligations of `Change` together with the events of the step. From it, each proved once for every
-- step: a sound state stays sound (`move_sound`), each event is a change of its queue (`move_queues`), a history that agrees with its
-- queue goes on agreeing (`agrees_on`), and nothing queued is lost (`nothing_lost`). Assumes nothing.
use mathlib.Core.Path.{◌≡◌, refl, sym, ap, ◌∙◌, subst}
use mathlib.Core.Bool.{Bool, true, false}
use mathlib.Core.List.{List, [], ◌∷◌, ◌++◌, append_assoc}
use Prim.Native.Nat.{ℕ}
use native.Mathlib.Omega.{arith}
use lib.ListN.{get_or}
use lib.Dec.{eqb}
use Rattle.rules.specs.State.{State, EndState, free_end, used, end_at, data_of}
use Rattle.rules.specs.Sound.{Sound, in_use}
use Rattle.rules.specs.Events.{Event, created, put_on, taken_from, History, new_history, more_put, more_taken, pick_history, history}
use Rattle.keeping.specs.Queues.{in_front_if, about, QueueChange, Agrees, AllAgree, NothingLost}
use Rattle.keeping.proofs.Patch.{Outside, Valid, AllPut, news_of, patched_all}
use Rattle.keeping.proofs.Change.{EndPatch, RecordPatch, patched_state, Change, change}

pub record Move (st st' : State) (xs : List Event) : Type 0 where
  pub ends : EndPatch
  pub records : RecordPatch
  pub is : st' ≡ patched_state st ends records
  pub meets : Change st ends records
  -- the events about an end put anew are the change of its queue, and there are no others
  pub queues : AllPut (λ e old new. QueueChange old new (about e xs)) ends
  pub others : (e : ℕ) → Outside e ends → about e xs ≡ []

pub move_sound : {st st' : State} {xs : List Event} → Sound st → Move st st' xs → Sound st'
move_sound {st} {st'} s m = subst Sound (sym m.is) (change st m.ends m.records s m.meets)

-- of each end: what it was, what it is, and the events about it
abbrev Happened : State → List Event → ℕ → EndState → Type 0
Happened st xs k x = QueueChange (end_at st k) x (about k xs)

pub move_queues : {st st' : State} {xs : List Event} → Move st st' xs → (e : ℕ) → QueueChange (end_at st e) (end_at st' e) (about e xs)
move_queues {st} {st'} {xs} m e =
    subst (λ (z : State). Happened st xs e (end_at z e)) (sym m.is)
    (patched_all (Happened st xs) free_end st.ends m.ends were
    (news_of (λ k old new. QueueChange old new (about k xs)) (Happened st xs) free_end st.ends m.ends were here m.queues) left e)
  where
    were : Valid free_end st.ends m.ends
    were = m.meets.ends_were

    here : (k : ℕ) (u v : EndState) → get_or st.ends k free_end ≡ u → QueueChange u v (about k xs) → Happened st xs k v
    here k u v q c = subst (λ (z : EndState). QueueChange z v (about k xs)) (sym q) c

    left : (k : ℕ) → Outside k m.ends → Happened st xs k (end_at st k)
    left k o = rw (m.others k o) (refl, λ h. h)

-- ---- histories

-- a history with events that are all about the end
unfoldable pub history_with : History → List Event → History
history_with h [] = h
history_with h (created e ∷ xs) = history_with new_history xs
history_with h (put_on e d ∷ xs) = history_with (more_put h d) xs
history_with h (taken_from e d ∷ xs) = history_with (more_taken h d) xs

-- one event: it is about the end and makes the history k, or it is not
pick_history_lem : (e : ℕ) (h k : History) (x : Event) (xs : List Event) (b : Bool)
    → ((j : History) → history e j xs ≡ history_with j (about e xs)) → history_with h (x ∷ about e xs) ≡ history_with k (about e xs)
    → history e (pick_history b k h) xs ≡ history_with h (in_front_if b x (about e xs))
pick_history_lem e h k x xs true step q = step k ∙ sym q
pick_history_lem e h k x xs false step q = step h

-- events about other ends leave a history as it is
pub history_about : (e : ℕ) (h : History) (xs : List Event) → history e h xs ≡ history_with h (about e xs)
unfolding history history_with about
history_about e h [] = refl
history_about e h (created f ∷ xs) = pick_history_lem e h new_history (created f) xs (eqb f e) (λ k. history_about e k xs) refl
history_about e h (put_on f d ∷ xs) = pick_history_lem e h (more_put h d) (put_on f d) xs (eqb f e) (λ k. history_about e k xs) refl
history_about e h (taken_from f d ∷ xs) = pick_history_lem e h (more_taken h d) (taken_from f d) xs (eqb f e)
    (λ k. history_about e k xs) refl

-- agreement, by what is queued on an end in use
agrees_used : (x : EndState) (h : History) → (in_use x ≡ 1 → h.put_so_far ≡ h.taken_so_far ++ data_of x) → Agrees x h
agrees_used free_end h f = tt
agrees_used (used m ds l) h f = f refl

used_agrees : (x : EndState) (h : History) → Agrees x h → in_use x ≡ 1 → h.put_so_far ≡ h.taken_so_far ++ data_of x
used_agrees free_end h a u = absurd (omega arith)
used_agrees (used m ds l) h a u = a

agrees_same : (old new : EndState) (h : History) → (old ≡ free_end → new ≡ free_end) → data_of new ≡ data_of old
    → Agrees old h → Agrees new h
agrees_same free_end new h f q a = rw (f refl) tt
agrees_same (used m ds l) new h f q a = agrees_used new h (λ u. rw q a)

-- one step: the history goes on agreeing
agrees_change : (old new : EndState) (xs : List Event) (h : History) → QueueChange old new xs → Agrees old h
    → Agrees new (history_with h xs)
unfolding history_with
agrees_change old new [] h c a = agrees_same old new h c.1 c.0 a
agrees_change old new (created e ∷ []) h c a = agrees_used new new_history (λ u. sym c.1)
agrees_change old new (put_on e d ∷ []) h c a =
    agrees_used new (more_put h d)
    (λ u. rw (used_agrees old h a c.0, c.1) (append_assoc h.taken_so_far (data_of old) (d ∷ [])))
agrees_change old new (taken_from e d ∷ []) h c a =
    agrees_used new (more_taken h d)
    (λ u. used_agrees old h a c.0 ∙ rw c.1 (sym (append_assoc h.taken_so_far (d ∷ []) (data_of new))))
agrees_change old new (created e ∷ x ∷ xs) h c a = absurd c
agrees_change old new (put_on e d ∷ x ∷ xs) h c a = absurd c
agrees_change old new (taken_from e d ∷ x ∷ xs) h c a = absurd c

pub agrees_on : {st st' : State} {xs : List Event} → Move st st' xs → (h : ℕ → History) → AllAgree st h
    → AllAgree st' (λ e. history e (h e) xs)
agrees_on {st} {st'} {xs} m h a e =
    rw (history_about e (h e) xs) (agrees_change (end_at st e) (end_at st' e) (about e xs) (h e) (move_queues m e) (a e))

-- ---- nothing is lost

lost_none : (old new : EndState) (xs : List Event) → QueueChange old new xs → new ≡ free_end → data_of old ≡ []
lost_none old new [] c q = sym c.0 ∙ ap data_of q
lost_none old new (created e ∷ []) c q = ap data_of c.0
lost_none old new (put_on e d ∷ []) c q = absurd (omega (arith, c.2, ap in_use q))
lost_none old new (taken_from e d ∷ []) c q = absurd (omega (arith, c.2, ap in_use q))
lost_none old new (created e ∷ x ∷ xs) c q = absurd c
lost_none old new (put_on e d ∷ x ∷ xs) c q = absurd c
lost_none old new (taken_from e d ∷ x ∷ xs) c q = absurd c

pub nothing_lost : {st st' : State} {xs : List Event} → Move st st' xs → NothingLost st st'
nothing_lost {st} {st'} {xs} m e q = lost_none (end_at st e) (end_at st' e) (about e xs) (move_queues m e) q
