-- What is seen of a source or a sink.
use Rattle.std.specs.Prelude.{◌≡◌, ℕ, List, Option}
use Rattle.retro_base.specs.Cause.{Rose}

-- Before a command and behind it: the bytes that a source has left or a sink holds, where it tells them, and its count
-- of faults.
pub record Seen : Type 0 where
  pub bytes_old : Option (List ℕ)
  pub bytes_new : Option (List ℕ)
  pub faults_old : ℕ
  pub faults_new : ℕ

-- what is seen of one, by what it tells of itself
abbrev pub seen : {A : Type 0} → (A → Option (List ℕ)) → (A → ℕ) → A → A → Seen
seen bytes faults old new = record {
  bytes_old = bytes old;
  bytes_new = bytes new;
  faults_old = faults old;
  faults_new = faults new;
}

-- a call of it failed
abbrev pub HasFailed : Seen → Type 0
HasFailed it = Rose it.faults_old it.faults_new

-- none failed
abbrev pub IsSteady : Seen → Type 0
IsSteady it = it.faults_new ≡ it.faults_old
