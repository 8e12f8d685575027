-- What a crash within the rewrite of a region leaves.
use Rattle.std.specs.Prelude.{◌≡◌, ◌⊎◌, ℕ, List, [], ◌∷◌, Bool, if◌then◌else◌}
use Rattle.disk_model.specs.Disk.{State, InRange, IsDurable, SameOutside, written}
use Rattle.gate_log.specs.Region.{generation_at, IsOpen, Lists}

-- the region lists these bodies under that generation
pub record IsFilled (place size generation : ℕ) (bodies : List (List ℕ)) (bytes : List ℕ) : Type 0 where
  pub lists : Lists place size bodies bytes
  pub under : generation_at place bytes ≡ generation

-- nothing has changed but the gate of a header, which is open only where it was
pub record Shutting (place : ℕ) (old image : List ℕ) : Type 0 where
  pub same : SameOutside (InRange place 1) old image
  pub was_open : IsOpen place image → IsOpen place old

-- the bytes with the gate at that place closed, if it was open
abbrev pub shut_at : Bool → ℕ → List ℕ → List ℕ
shut_at is_open place bytes = if is_open then written place (0 ∷ []) bytes else bytes

-- Nothing has changed outside the region. Where it is open, it was and its generation is the old one, or it is filled.
pub record Rewriting (place size generation : ℕ) (bodies : List (List ℕ)) (old image : List ℕ) : Type 0 where
  pub same : SameOutside (InRange place size) old image
  pub whole : IsOpen place image → (IsOpen place old × (generation_at place image ≡ generation_at place old))
      ⊎ IsFilled place size generation bodies image

-- the region is open and filled, nothing has changed outside it, and nothing is loose
pub record Rewritten (place size generation : ℕ) (bodies : List (List ℕ)) (old new : State) : Type 0 where
  pub same : SameOutside (InRange place size) old.seen new.seen
  pub is_open : IsOpen place new.seen
  pub filled : IsFilled place size generation bodies new.seen
  pub durable : IsDurable new
