-- Where none of the rows 5 to 11 of an instruction holds, the slot that it appends to holds an end. Assumes nothing.
use mathlib.Core.Path.{◌≡◌}
use mathlib.Core.Bool.{false}
use mathlib.Core.List.{List}
use Prim.Native.Nat.{ℕ}
use Rattle.rules.specs.State.{Registers}
use Rattle.rules.specs.Refusal.{NoCause}
use Rattle.rules.specs.Instruction.{put, get, split, fork, close, halt, hput, hcase}
use Rattle.rules.specs.Causes.{empty, own_causes}

module _ (c : ℕ) (g : Registers) where
  pub put_named : NoCause (own_causes g (put c)) → empty c g ≡ false
  unfolding own_causes
  put_named n = n.1.1.0

  pub get_named : NoCause (own_causes g (get c)) → empty c g ≡ false
  unfolding own_causes
  get_named n = n.1.1.0

  pub split_named : (a b : ℕ) → NoCause (own_causes g (split c a b)) → empty c g ≡ false
  unfolding own_causes
  split_named a b n = n.1.1.1.0

  pub fork_named : (a m place b m' place' : ℕ) → NoCause (own_causes g (fork c a m place b m' place')) → empty c g ≡ false
  unfolding own_causes
  fork_named a m place b m' place' n = n.1.1.1.0

  pub close_named : NoCause (own_causes g (close c)) → empty c g ≡ false
  unfolding own_causes
  close_named n = n.1.0

  pub halt_named : NoCause (own_causes g (halt c)) → empty c g ≡ false
  unfolding own_causes
  halt_named n = n.1.0

  pub hput_named : (k : ℕ) → NoCause (own_causes g (hput c k)) → empty c g ≡ false
  unfolding own_causes
  hput_named k n = n.1.0

  pub hcase_named : (places : List ℕ) → NoCause (own_causes g (hcase c places)) → empty c g ≡ false
  unfolding own_causes
  hcase_named places n = n.1.0
