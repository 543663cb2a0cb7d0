-- What the code's answer on two heads stands for: a meeting of `rules`, once the waiting record is looked at. `Maybe` is the name here for
-- the Option of the code. Assumes nothing.
use Rattle.std.specs.Prelude.{◌≡◌, [], ℕ, Option as Maybe, Some, None}
use Rattle.std.proofs.Math.Option.{some}
use Rattle.rules.specs.State as states
use Rattle.rules.specs.State.{State, Item, datum, last, split_item, wait_item, record_at, end_at, head_of, data_of}
use Rattle.rules.specs.EndStep as steps
use Rattle.rules.specs.EndStep.{waiter_in, datum_against, split_against, meet_heads}
use Rattle.rules.specs.Numbers.{end_number, record_number}
use Rattle.meetings.specs.declared.heads.Datum.{Datum}
use Rattle.meetings.specs.declared.heads.Datum.TheVariants.{Value, Handle}
use Rattle.meetings.specs.declared.heads.Meeting.{Meeting}
use Rattle.meetings.specs.declared.heads.Meeting.TheVariants.{Delivers, Divides, Closes}

-- the datum that a datum of the code stands for
abbrev pub datum_of : Datum → states.Datum
datum_of (Value v) = states.value v
datum_of (Handle n) = states.handle n

-- the meeting that an answer of the code stands for in a state: what the record that it names waits for decides; none is a mismatch
abbrev pub meeting_in : State → Maybe Meeting → steps.Meeting
meeting_in st None = steps.mismatch
meeting_in st (Some (Delivers from to d r)) =
    datum_against (end_number from) (end_number to) (record_number r) (datum_of d) (waiter_in st.code (record_at st (record_number r)))
meeting_in st (Some (Divides first second r)) =
    split_against (end_number first) (end_number second) (record_number r) (waiter_in st.code (record_at st (record_number r)))
meeting_in st (Some Closes) = steps.closes

-- the datum d heads the queue of `from`, a wait for record r that of `to`
pub record DatumWaits (st : State) (from to : ℕ) (d : states.Datum) (r : ℕ) : Type 0 where
  pub datum_heads : head_of (end_at st from) ≡ some (datum d)
  pub wait_heads : head_of (end_at st to) ≡ some (last (wait_item r))

-- no value and no handle is queued on e and on f
pub record NoData (st : State) (e f : ℕ) : Type 0 where
  pub none_here : data_of (end_at st e) ≡ []
  pub none_there : data_of (end_at st f) ≡ []

-- a split of two ends heads a queue, a wait for record r another
pub record SplitWaits (st : State) (first second r : ℕ) : Type 0 where
  pub from : ℕ
  pub to : ℕ
  pub split_heads : head_of (end_at st from) ≡ some (last (split_item first second))
  pub wait_heads : head_of (end_at st to) ≡ some (last (wait_item r))

-- what the queues of e and f are where the answer is given
abbrev pub HeadsAre : State → (e f : ℕ) → Maybe Meeting → Type 0
HeadsAre st e f None = Unit {0}
HeadsAre st e f (Some (Delivers from to d r)) = DatumWaits st (end_number from) (end_number to) (datum_of d) (record_number r)
HeadsAre st e f (Some (Divides first second r)) = NoData st e f × SplitWaits st (end_number first) (end_number second) (record_number r)
HeadsAre st e f (Some Closes) = NoData st e f

-- the answer on x at the head of e and y at the head of f is right in the state
pub record RightIn (st : State) (e f : ℕ) (x y : Item) (answer : Maybe Meeting) : Type 0 where
  pub meets : meet_heads st e f (some x) (some y) ≡ meeting_in st answer
  pub heads_are : HeadsAre st e f answer

-- the answer is right in every state where x heads the queue of e, and y that of f
abbrev pub Makes : (e f : ℕ) → Item → Item → Maybe Meeting → Type 0
Makes e f x y answer =
    (st : State) → head_of (end_at st e) ≡ some x → head_of (end_at st f) ≡ some y → RightIn st e f x y answer
