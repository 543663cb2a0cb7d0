-- 24 and 1 come first: what they answer, and that past them the memory is sound. Assumes nothing.
use mathlib.Core.Path.{◌≡◌, refl, sym, ap, ◌∙◌}
use mathlib.Core.Logic.{◌≢◌}
use mathlib.Core.Bool.{Bool, true, false}
use mathlib.Core.List.{List}
use Prim.Native.Nat.{ℕ}
use native.Mathlib.Omega.{arith}
use lib.ListN.{length, get_or}
use lib.Dec.{eqb}
use borrow.Author.Tests.{eq-eqb, ne_eqb}
use Rattle.rules.specs.Limits.{end_count}
use Rattle.rules.specs.State.{free_ends, lowest_free_end}
use Rattle.rules.specs.Refusal.{Answer, refused, done, unless, number_of}
use Rattle.rules.specs.Layout.{state_size, free_word, view}
use Rattle.rules.specs.Ask.{ask_record, ask_end}
use Rattle.rules.specs.Calls as rules
use Rattle.rules.specs.Calls.{sound_bytes, where_sound, layout_or, record_answer, call_record, end_answer, call_end, call_free_ends}
use Rattle.rules.specs.Numbers.{Reply, refusal_number, answer_of, reply_to}
use Rattle.rules.proofs.Promises.{is_refused}
use Rattle.rules.specs.Promise.{Promise}
use Rattle.keeping.specs.Demand3.{SoundMemory}
use Rattle.keeping.proofs.Memories.{memory_of_test}
use Rattle.keeping.proofs.Demand3.{where_sound_lem}
use Rattle.ends.specs.Words.{ends_in}
use Rattle.ends.proofs.Words.{agrees}
use Rattle.stepping.proofs.Steps.{refused_step, memory_sized}
use Rattle.std.specs.Prelude.{Result, Ok, Err}
use Rattle.std.specs.Result.{IsErrAnd}
use Rattle.rules.specs.declared.Refusal.{Refusal}
use Rattle.machine.specs.declared.FreeEnds.{FreeEnds}
use Rattle.machine.specs.Answers.{sound_reply, free_answer}

module _ (m : List ℕ) where
  pub another_length : length m ≢ state_size → refused 24 ≡ sound_reply m
  unfolding unless
  another_length h = rw (ne_eqb (length m) state_size h)

  pub not_sound : length m ≡ state_size → sound_bytes m ≡ false → refused 1 ≡ sound_reply m
  unfolding unless
  not_sound h f = rw (eq-eqb (length m) state_size h, f)

  pub is_right : length m ≡ state_size → sound_bytes m ≡ true → done tt ≡ sound_reply m
  unfolding unless
  is_right h t = rw (eq-eqb (length m) state_size h, t)

  -- refused by 24 or 1: so is every request that begins with them
  pub refused_so : {A : Type 0} (a : Answer A) (n : ℕ) → sound_reply m ≡ refused n → where_sound m a ≡ refused n
  unfolding unless
  refused_so a n e = go (eqb (length m) state_size) (sound_bytes m) refl refl e
    where
      go : (b t : Bool) → eqb (length m) state_size ≡ b → sound_bytes m ≡ t → sound_reply m ≡ refused n → where_sound m a ≡ refused n
      go false t q z h = let k = ap number_of (rw q at h) in rw q (ap refused k)
      go true false q z h = let k = ap number_of (rw (q, z) at h) in rw (q, z) (ap refused k)
      go true true q z h = absurd (omega (arith, ap is_refused (rw (q, z) at h)))

  -- not refused: the memory is sound
  pub sound_so : sound_reply m ≡ done tt → SoundMemory m
  unfolding unless
  sound_so e = go (eqb (length m) state_size) (sound_bytes m) refl refl e
    where
      go : (b t : Bool) → eqb (length m) state_size ≡ b → sound_bytes m ≡ t → sound_reply m ≡ done tt → SoundMemory m
      go b true q z h = memory_of_test m z
      go false false q z h = absurd (omega (arith, ap is_refused (rw q at h)))
      go true false q z h = absurd (omega (arith, ap is_refused (rw (q, z) at h)))

-- ---- the asks

module _ (m : List ℕ) (number : ℕ) where
  pub record_refused : (n : ℕ) → sound_reply m ≡ refused n
      → Promise (reply_to (record_answer m number)) (call_record m number).memory (refused n) m
  unfolding record_answer call_record
  record_refused n e = refused_step n (refused_so m (ask_record (view m) number) n e)

  pub end_refused : (n : ℕ) → sound_reply m ≡ refused n → Promise (reply_to (end_answer m number)) (call_end m number).memory (refused n) m
  unfolding end_answer call_end
  end_refused n e = refused_step n (refused_so m (ask_end (view m) number) n e)

  pub record_asked : {r : Answer (Unit {0})} {left : List ℕ} → SoundMemory m
      → Promise (reply_to (ask_record (view m) number)) (layout_or m (ask_record (view m) number)) r left
      → Promise (reply_to (record_answer m number)) (call_record m number).memory r left
  unfolding record_answer call_record
  record_asked s p = rw (where_sound_lem m (ask_record (view m) number) s) p

  pub end_asked : {r : Answer (Unit {0})} {left : List ℕ} → SoundMemory m
      → Promise (reply_to (ask_end (view m) number)) (layout_or m (ask_end (view m) number)) r left
      → Promise (reply_to (end_answer m number)) (call_end m number).memory r left
  unfolding end_answer call_end
  end_asked s p = rw (where_sound_lem m (ask_end (view m) number) s) p

-- ---- the free ends

module _ (m : List ℕ) where
  pub free_refused : (r : Result FreeEnds Refusal) (e : Refusal) → IsErrAnd r (λ (f : Refusal). f ≡ e)
      → sound_reply m ≡ refused (refusal_number e) → free_answer r ≡ call_free_ends m
  unfolding call_free_ends
  free_refused (Err f) e h q = ap (λ (x : Refusal). refused (refusal_number x)) h ∙ sym (refused_so m _ _ q)
  free_refused (Ok x) e h q = elim h [ ]

  pub free_counted : (word k low : ℕ) → SoundMemory m → word ≡ free_word (view m).ends → k ≡ length (ends_in word)
      → low ≡ get_or (ends_in word) 0 end_count → done (record { count = k; lowest = low }) ≡ call_free_ends m
  unfolding call_free_ends
  free_counted word k low s w ke le =
      let ag = agrees (view m) (memory_sized m s) word w in
      let numbers : rules.FreeEnds = record { count = length (free_ends (view m)); lowest = lowest_free_end (view m) } in
      rw (where_sound_lem m (done numbers) s, ke ∙ ag.count, le ∙ ag.lowest)
