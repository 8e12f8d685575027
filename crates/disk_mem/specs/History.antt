-- What changed a device in memory, the newest step first, and what a crash may have left of it.
use Rattle.std.specs.Prelude.{◌≡◌, ◌⊎◌, ℕ, ◌+◌, ◌≤◌, List, [], ◌∷◌, length, replicate, slice_index}
use Rattle.std.specs.List.{AllByRecursion}
use Rattle.disk_model.specs.Disk.{State, InRange, written, IsImage}
use Rattle.disk_model.specs.Moments.{Clock}
use Rattle.disk_mem.specs.declared.recording.Event.{Event}
use Rattle.disk_mem.specs.declared.recording.Event.TheVariants.{Wrote, Lost, Synced}

-- the bytes that it began with, all of them durable, and what changed it since, the newest step first
pub record Past : Type 0 where
  pub first : List ℕ
  pub steps : List Event

-- a past with room for that many lost writes more
pub record RoomyPast : Type 0 where
  pub past : Past
  pub room : ℕ

-- what a device reads that began with these bytes
abbrev pub seen_after : List ℕ → List Event → List ℕ
seen_after first [] = first
seen_after first (Wrote place bytes ∷ before) = written place bytes (seen_after first before)
seen_after first (Lost place count ∷ before) = seen_after first before
seen_after first (Synced ∷ before) = seen_after first before

-- a write into this place, done or failed, has no sync behind it
abbrev pub IsLoose : List Event → ℕ → Type 0
IsLoose [] i = ⊥
IsLoose (Wrote place bytes ∷ before) i = IsLoose before i ⊎ InRange place (length bytes) i
IsLoose (Lost place count ∷ before) i = IsLoose before i ⊎ InRange place count i
IsLoose (Synced ∷ before) i = ⊥

-- how many steps the next sync adds: none where no write stands behind the last
abbrev pub owed : List Event → ℕ
owed [] = 0
owed (Wrote place bytes ∷ before) = 1
owed (Lost place count ∷ before) = 1
owed (Synced ∷ before) = 0

-- the steps after a sync
abbrev pub synced : List Event → List Event
synced [] = []
synced (Wrote place bytes ∷ before) = Synced ∷ Wrote place bytes ∷ before
synced (Lost place count ∷ before) = Synced ∷ Lost place count ∷ before
synced (Synced ∷ before) = Synced ∷ before

abbrev pub state_of : Past → State
state_of past = record { seen = seen_after past.first past.steps; is_loose = IsLoose past.steps }

-- a crash might have left this now, or earlier, after `since` of these steps or more
abbrev pub LeftAfter : List ℕ → List Event → ℕ → List ℕ → Type 0
LeftAfter first [] since image = IsImage (state_of (record { first = first; steps = [] })) image
LeftAfter first (step ∷ before) since image =
    IsImage (state_of (record { first = first; steps = step ∷ before })) image
    ⊎ ((since ≤ length before) × LeftAfter first before since image)

abbrev pub LeftSince : Past → ℕ → List ℕ → Type 0
LeftSince past since image = LeftAfter past.first past.steps since image

abbrev pub clock_of : Past → Clock
clock_of past = record { moment = length past.steps; left_since = LeftSince past }

-- what a crash leaves where each loose byte is the one in that place of `bytes`
pub record TakenFrom (bytes : List ℕ) (state : State) (image : List ℕ) : Type 0 where
  pub is_image : IsImage state image
  pub taken : (i : ℕ) → state.is_loose i → slice_index image i ≡ slice_index bytes i

-- what a crash leaves where each loose byte is `fill`
abbrev pub Filled : ℕ → State → List ℕ → Type 0
Filled fill state image = TakenFrom (replicate (length state.seen) fill) state image

-- the range of a step lies on a device of that size
abbrev pub FitsIn : ℕ → Event → Type 0
FitsIn size (Wrote place bytes) = place + length bytes ≤ size
FitsIn size (Lost place count) = place + count ≤ size
FitsIn size Synced = Unit {0}

-- the bytes are those that these steps made of the first ones, and each step fits in them
pub record Recorded (first : List ℕ) (steps : List Event) (bytes : List ℕ) : Type 0 where
  pub seen : bytes ≡ seen_after first steps
  pub within : AllByRecursion (FitsIn (length bytes)) steps
