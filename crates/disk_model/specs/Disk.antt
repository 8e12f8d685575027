-- A device: what it reads, what a crash may leave of it, and what its calls do to both.
use Rattle.std.specs.Prelude.{◌≡◌, ◌⊎◌, ◌↔◌, ℕ, ◌+◌, ◌<◌, ◌≤◌, List, ◌++◌, length, take, drop, slice_index, Result}
use Rattle.std.specs.Prelude.{OnOk}

-- what reads return, and at which places a crash may leave any byte
pub record State : Type 1 where
  pub seen : List ℕ
  pub is_loose : ℕ → Type 0

-- the place lies among the `count` places from `from` on
abbrev pub InRange : ℕ → ℕ → ℕ → Type 0
InRange from count place = (from ≤ place) × (place < from + count)

-- the bytes with these in their place
abbrev pub written : ℕ → List ℕ → List ℕ → List ℕ
written place bytes old = take place old ++ (bytes ++ drop (place + length bytes) old)

-- two lists of one length with the same bytes at each place that is not one of P
pub record SameOutside (P : ℕ → Type 0) (old new : List ℕ) : Type 0 where
  pub size : length new ≡ length old
  pub kept : (place : ℕ) → (P place → ⊥) → slice_index new place ≡ slice_index old place

-- a crash may leave this: the bytes that are read, but any byte at a loose place
abbrev pub IsImage : State → List ℕ → Type 0
IsImage state image = SameOutside state.is_loose state.seen image

-- nothing is loose: a crash leaves what a read returns
abbrev pub IsDurable : State → Type 0
IsDurable state = (place : ℕ) → state.is_loose place → ⊥

-- it reads the same, and a crash may leave the same
pub record Unchanged (old new : State) : Type 0 where
  pub same : new.seen ≡ old.seen
  pub loose : (place : ℕ) → new.is_loose place ↔ old.is_loose place

-- a read into `out`, which changes nothing
pub record Reads {E : Type 0} (place : ℕ) (out : List ℕ) (old new : State) (result : Result (Unit {0}) E) : Type 0 where
  pub read : OnOk result (out ≡ take (length out) (drop place old.seen))
  pub unchanged : Unchanged old new

-- a write of these bytes, which are loose then; a failed one leaves any bytes in its range
pub record Writes {E : Type 0} (place : ℕ) (bytes : List ℕ) (old new : State) (result : Result (Unit {0}) E)
    : Type 0 where
  pub done : OnOk result (new.seen ≡ written place bytes old.seen)
  pub outside : SameOutside (InRange place (length bytes)) old.seen new.seen
  pub loose : (i : ℕ) → new.is_loose i → old.is_loose i ⊎ InRange place (length bytes) i

-- a sync; a failed one makes nothing loose
pub record Syncs {E : Type 0} (old new : State) (result : Result (Unit {0}) E) : Type 0 where
  pub same : new.seen ≡ old.seen
  pub durable : OnOk result (IsDurable new)
  pub loose : (i : ℕ) → new.is_loose i → old.is_loose i
