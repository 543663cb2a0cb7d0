-- A step that has begun: the registers are loaded, and the rows 5 to 11 of the instruction are asked of them. What that says of a record
-- that runs, and of any record. Assumes nothing.
use mathlib.Core.Path.{◌≡◌, sym, ◌∙◌}
use mathlib.Core.List.{List}
use Prim.Native.Nat.{ℕ}
use Rattle.rules.specs.State.{Registers as Process, running, record_at}
use Rattle.rules.specs.Refusal.{done, NoCause, unless, Answer, refused}
use Rattle.rules.specs.Instruction.{Instruction}
use Rattle.rules.specs.Causes.{own_causes, shared_causes}
use Rattle.rules.specs.RecordStep.{lowest_free, after}
use Rattle.rules.specs.Layout.{view}
use Rattle.rules.specs.Sound.{RegistersWithin}
use Rattle.rules.specs.Ask.{answer_to}
use Rattle.rules.specs.Calls.{layout_or}
use Rattle.std.specs.Result.{IsErrAnd}
use Rattle.rules.specs.declared.Refusal.{Refusal}
use Rattle.rules.specs.Numbers.{Reply, refusal_number, answer_of, reply_to}
use Rattle.rules.proofs.Promises.{handed_on}
use Rattle.rules.specs.Promise.{Promise}
use Rattle.keeping.specs.Demand3.{SoundMemory}
use Rattle.registers.specs.declared.Registers.{Registers}
use Rattle.registers.specs.Registers.{registers_of}
use Rattle.causes.specs.Own.{own_reply}
use Rattle.causes.proofs.Shared.{none_holds, own_refused, own_done}
use Rattle.stepping.specs.Stepped.{shown_by}
use Rattle.stepping.proofs.Steps.{refused_step, Loads, loaded, shown_within, registers_ok, held_is}

-- the registers x are loaded from record r of a sound memory, and the rows 5 to 11 of instruction i reply so of them
pub record Begun (m : List ℕ) (r : ℕ) (i : Instruction) (x : Registers) (reply : Answer (Unit {0})) : Type 0 where
  pub sound : SoundMemory m
  pub load_is : Loads m r x
  pub reply_is : (g : Process) → RegistersWithin g → x ≡ registers_of g → reply ≡ own_reply g i

-- where the record runs with registers g
module _ {m : List ℕ} {r : ℕ} {i : Instruction} {x : Registers} {reply : Answer (Unit {0})} (b : Begun m r i x reply) (g : Process)
    (is : record_at (view m) r ≡ running g) where
  pub within : RegistersWithin g
  within = registers_ok m b.sound r g is

  pub held : x ≡ registers_of g
  held = held_is m b.sound r g is b.load_is

  replied : reply ≡ own_reply g i
  replied = b.reply_is g within held

-- 5 to 11 are the answer, which `?` hands on
pub own_refuses : {m : List ℕ} {r : ℕ} {i : Instruction} {x : Registers} (reply : Reply) (e : Refusal)
    → IsErrAnd reply (λ (f : Refusal). f ≡ e) → Begun m r i x (refused (refusal_number e)) → (next : ℕ) (g : Process)
    → record_at (view m) r ≡ running g
    → Promise (reply_to (answer_to (view m) r next g i)) (layout_or m (answer_to (view m) r next g i)) (answer_of reply) m
own_refuses {m} {r} {i} {x} reply e h b next g is =
    rw (handed_on reply e h) (refused_step _ (own_refused (view m) r next g i _ (sym (replied b g is))))

-- none of them holds
module _ {m : List ℕ} {r : ℕ} {i : Instruction} {x : Registers} (b : Begun m r i x (done tt)) where
  -- whatever the record is
  pub shown : x ≡ registers_of (shown_by m r)
  shown = loaded m b.sound r b.load_is

  pub shown_passed : NoCause (own_causes (shown_by m r) i)
  shown_passed = none_holds (own_causes (shown_by m r) i) (sym (b.reply_is (shown_by m r) (shown_within m b.sound r) shown))

  -- where it runs with registers g
  module _ (g : Process) (is : record_at (view m) r ≡ running g) where
    pub passes : own_reply g i ≡ done tt
    passes = sym (replied b g is)

    pub shared_left : (next : ℕ)
        → answer_to (view m) r next g i ≡ unless (shared_causes (view m) g i) (done (after (view m) r next g (lowest_free (view m)) i))
    shared_left next = own_done (view m) r next g i passes
