-- Document 01, "Instructions": the table of forms, the 256 lengths by first byte, and the decoder from the code and a place. Assumes
-- nothing.
use Rattle.std.specs.Prelude.{ℕ, ◌+◌, ◌-◌, ◌*◌, Bool, true, false, List, [], ◌∷◌, length, get_or, leb, ltb, eqb}
use Rattle.std.proofs.Math.Option.{Option, none, some}
use Rattle.std.specs.Int.{w32}
use Rattle.std.proofs.Common.{to_z}
use Rattle.rules.specs.Limits.{cases_limit}
use Rattle.rules.specs.State.{Value}
use Rattle.rules.specs.Refusal.{Row, no_cause}
use Rattle.rules.specs.Bytes.{table}

-- an instruction with its operands, in the order of the table's forms: c, d, a, b are slots, m and m' sets of slots
pub data Instruction : Type 0 where
  cst : (v : Value) → Instruction
  access : (n : ℕ) → Instruction
  store : Instruction
  add : Instruction
  mul : Instruction
  leq : Instruction
  put : (c : ℕ) → Instruction
  get : (c : ℕ) → Instruction
  split : (c a b : ℕ) → Instruction
  fork : (c a m place b m' place' : ℕ) → Instruction
  plug : (a m place m' place' : ℕ) → Instruction
  close : (c : ℕ) → Instruction
  halt : (c : ℕ) → Instruction
  same : (c d : ℕ) → Instruction
  hput : (c n : ℕ) → Instruction
  hcase : (c : ℕ) (places : List ℕ) → Instruction
  run : (place n : ℕ) (listed : List ℕ) → Instruction

-- the names in the table
pub data Name : Type 0 where
  cst_name access_name store_name add_name mul_name leq_name : Name
  put_name get_name split_name fork_name plug_name close_name halt_name same_name hput_name hcase_name run_name : Name

-- what is listed behind the fixed part; the last byte of the fixed part says how many
pub data Listing : Type 0 where
  nothing_listed places_listed slots_listed : Listing

-- a row of the table: the first byte, the name, the length of the fixed part, and what is listed behind it
pub record Form : Type 0 where
  pub byte : ℕ
  pub name : Name
  pub size : ℕ
  pub listing : Listing

abbrev pub form : ℕ → Name → ℕ → Listing → Form
form byte name size listing = record { byte = byte; name = name; size = size; listing = listing }

-- the seventeen rows
abbrev pub forms : List Form
forms =
    form 0x01 cst_name 5 nothing_listed
    ∷ form 0x02 access_name 2 nothing_listed
    ∷ form 0x03 store_name 1 nothing_listed
    ∷ form 0x04 add_name 1 nothing_listed
    ∷ form 0x05 mul_name 1 nothing_listed
    ∷ form 0x06 leq_name 1 nothing_listed
    ∷ form 0x10 put_name 2 nothing_listed
    ∷ form 0x11 get_name 2 nothing_listed
    ∷ form 0x12 split_name 4 nothing_listed
    ∷ form 0x13 fork_name 10 nothing_listed
    ∷ form 0x14 plug_name 8 nothing_listed
    ∷ form 0x15 close_name 2 nothing_listed
    ∷ form 0x16 halt_name 2 nothing_listed
    ∷ form 0x17 same_name 3 nothing_listed
    ∷ form 0x18 hput_name 3 nothing_listed
    ∷ form 0x19 hcase_name 3 places_listed
    ∷ form 0x1A run_name 5 slots_listed
    ∷ []

abbrev pub or_form : Bool → Form → Option Form → Option Form
or_form true f other = some f
or_form false f other = other

unfoldable pub form_in : List Form → ℕ → Option Form
form_in [] b = none
form_in (f ∷ fs) b = or_form (eqb f.byte b) f (form_in fs b)

-- the row of a first byte; none where no instruction begins
unfoldable pub form_of : ℕ → Option Form
form_of b = form_in forms b

abbrev pub size_of : Option Form → ℕ
size_of none = 0
size_of (some f) = f.size

-- the table of 256 rows, one for each first byte: the length of the fixed part, 0 where no instruction begins
unfoldable pub lengths : List ℕ
lengths = table 256 (λ (b : ℕ). size_of (form_of b))

-- ---- the bytes of an instruction

-- byte k of the instruction at a place
abbrev pub byte_at : List ℕ → ℕ → ℕ → ℕ
byte_at code place k = get_or code (place + k) 0

-- two bytes from byte k on, high byte first
abbrev pub place_at : List ℕ → ℕ → ℕ → ℕ
place_at code place k = 256 * byte_at code place k + byte_at code place (k + 1)

-- a signed number in four bytes from byte k on, high first
abbrev pub signed_at : List ℕ → ℕ → ℕ → Value
signed_at code place k = to_z w32 (65536 * place_at code place k + place_at code place (k + 2))

-- the n places from byte k on
unfoldable pub places_at : List ℕ → ℕ → ℕ → ℕ → List ℕ
places_at code place k n = table n (λ (i : ℕ). place_at code place (k + 2 * i))

-- the n slots from byte k on
unfoldable pub slots_at : List ℕ → ℕ → ℕ → ℕ → List ℕ
slots_at code place k n = table n (λ (i : ℕ). byte_at code place (k + i))

-- the instruction of that name whose bytes stand at the place
unfoldable pub instruction_at : List ℕ → ℕ → Name → Instruction
instruction_at code place cst_name = cst (signed_at code place 1)
instruction_at code place access_name = access (byte_at code place 1)
instruction_at code place store_name = store
instruction_at code place add_name = add
instruction_at code place mul_name = mul
instruction_at code place leq_name = leq
instruction_at code place put_name = put (byte_at code place 1)
instruction_at code place get_name = get (byte_at code place 1)
instruction_at code place split_name = split (byte_at code place 1) (byte_at code place 2) (byte_at code place 3)
instruction_at code place fork_name =
    fork (byte_at code place 1) (byte_at code place 2) (byte_at code place 3) (place_at code place 4)
    (byte_at code place 6) (byte_at code place 7) (place_at code place 8)
instruction_at code place plug_name =
    plug (byte_at code place 1) (byte_at code place 2) (place_at code place 3) (byte_at code place 5) (place_at code place 6)
instruction_at code place close_name = close (byte_at code place 1)
instruction_at code place halt_name = halt (byte_at code place 1)
instruction_at code place same_name = same (byte_at code place 1) (byte_at code place 2)
instruction_at code place hput_name = hput (byte_at code place 1) (byte_at code place 2)
instruction_at code place hcase_name = hcase (byte_at code place 1) (places_at code place 3 (byte_at code place 2))
instruction_at code place run_name = run (place_at code place 1) (byte_at code place 3) (slots_at code place 5 (byte_at code place 4))

-- ---- the decoder

-- how many are listed
abbrev pub listed_count : List ℕ → ℕ → Form → ℕ
listed_count code place f = byte_at code place (f.size - 1)

-- the bytes behind the fixed part
abbrev pub listed_length : Listing → ℕ → ℕ
listed_length nothing_listed n = 0
listed_length places_listed k = 2 * k
listed_length slots_listed j = j

abbrev pub too_few_listed : Listing → ℕ → Bool
too_few_listed nothing_listed n = false
too_few_listed places_listed k = eqb k 0
too_few_listed slots_listed j = false

abbrev pub too_many_listed : Listing → ℕ → Bool
too_many_listed nothing_listed n = false
too_many_listed places_listed k = ltb cases_limit k
too_many_listed slots_listed j = false

-- the place after the instruction
abbrev pub place_after : List ℕ → ℕ → Form → ℕ
place_after code place f = place + f.size + listed_length f.listing (listed_count code place f)

-- 4, but for a first byte that begins no instruction: place not in the code, k not 1 to 16, or the instruction runs past the code
abbrev pub misfits : List ℕ → ℕ → Form → List Row
misfits code place f =
    (4, leb (length code) place)
    ∷ (4, too_few_listed f.listing (listed_count code place f))
    ∷ (4, too_many_listed f.listing (listed_count code place f))
    ∷ (4, ltb (length code) (place_after code place f))
    ∷ []

-- an instruction with the place after it
pub record Decoded : Type 0 where
  pub instruction : Instruction
  pub next : ℕ

abbrev pub decoded_if : Bool → Decoded → Option Decoded
decoded_if true d = some d
decoded_if false d = none

abbrev pub decode_as : List ℕ → ℕ → Option Form → Option Decoded
decode_as code place none = none
decode_as code place (some f) =
    decoded_if (no_cause (misfits code place f))
    (record { instruction = instruction_at code place f.name; next = place_after code place f })

-- the instruction at a place with the place after it, or none: 4
unfoldable pub decode : List ℕ → ℕ → Option Decoded
decode code place = decode_as code place (form_of (byte_at code place 0))
