-- What the list of a device stands for, and why a device is refused.
use Rattle.std.specs.Prelude.{◌≡◌, ◌⊎◌, ◌+◌, ◌*◌, ℕ, List, length, take}
use Rattle.disk_model.specs.Disk.{State}
use Rattle.retro_base.specs.declared.refusal.Refusal.{Refusal}
use Rattle.retro_base.specs.declared.refusal.Refusal.TheVariants as refusals
use Rattle.gate_log.specs.Bodies.{BreaksBehind}
use Rattle.gate_log.specs.Region.{gate_behind}
use Rattle.gate_log.specs.declared.unread.Unread.{Unread}
use Rattle.gate_log.specs.declared.unread.Unread.TheVariants.{OutOfMemory, Broken}
use Rattle.area_log.specs.Area.{Area}
use Rattle.area_log.specs.Regions.{BreaksSettled, DeviceBreaks, DeviceLists, IsPlaceOfRefusal}

-- a device has other than so many bytes, and is told with as many as it has
pub record WrongSize (size has broken : ℕ) : Type 0 where
  pub other : has ≡ size → ⊥
  pub told : broken ≡ has

-- a device of two halves of that size, whose list stands for the value
pub record DeviceStandsFor {X : Type 0} (half : ℕ) (StandsFor : List (List ℕ) → X → Type 0) (bytes : List ℕ) (x : X)
    : Type 0 where
  pub size : length bytes ≡ 2 * half
  pub bodies : List (List ℕ)
  pub lists : DeviceLists half bodies bytes
  pub stands : StandsFor bodies x

-- where the closed gate behind its list stands
abbrev pub closed_gate : {X : Type 0} {half : ℕ} {StandsFor : List (List ℕ) → X → Type 0} {bytes : List ℕ} {x : X}
    → DeviceStandsFor half StandsFor bytes x → ℕ
closed_gate device = device.lists.place + gate_behind device.bodies

-- The list of the device breaks behind a front of it. It is told with the gate behind that front.
pub record ListBreaks {X : Type 0} (half : ℕ) (StandsFor : List (List ℕ) → X → Type 0) (bytes : List ℕ) (broken : ℕ)
    : Type 0 where
  pub bodies : List (List ℕ)
  pub lists : DeviceLists half bodies bytes
  pub front : List (List ℕ)
  pub breaks : BreaksBehind StandsFor bodies front
  pub told : broken ≡ lists.place + gate_behind front

-- a device of two halves is refused: for its size, else for its headers or its framing, else for its bodies
abbrev pub DeviceRefused : {X : Type 0} → ℕ → (List (List ℕ) → X → Type 0) → List ℕ → ℕ → Type 0
DeviceRefused half StandsFor bytes broken =
    WrongSize (2 * half) (length bytes) broken
    ⊎ ((length bytes ≡ 2 * half) × (DeviceBreaks half bytes broken ⊎ ListBreaks half StandsFor bytes broken))

-- the place told is the size that a device has in place of this one; or it has this one
abbrev pub TellsSize : ℕ → ℕ → ℕ → Type 0
TellsSize size extent broken = WrongSize size extent broken ⊎ (extent ≡ size)

-- a device of so many bytes is refused with that place: for its size, whatever it tells, and by its bytes where it is
-- honest
pub record IsRefused {X : Type 0} (half : ℕ) (StandsFor : List (List ℕ) → X → Type 0) (honest : Type 0) (extent : ℕ)
    (bytes : List ℕ) (broken : ℕ) : Type 0 where
  pub size : TellsSize (2 * half) extent broken
  pub breaks : honest → DeviceRefused half StandsFor bytes broken

-- a device of so many bytes is refused with that place, whatever it tells: for its size, or at a place of a refusal
abbrev pub IsUnlisted : ℕ → ℕ → ℕ → Type 0
IsUnlisted half extent broken =
    WrongSize (2 * half) extent broken ⊎ ((extent ≡ 2 * half) × IsPlaceOfRefusal half broken)

-- an honest device is refused: for its size, else for its headers or its framing, once nothing on it is loose
abbrev pub NotListed : ℕ → State → State → ℕ → Type 0
NotListed half old new broken =
    WrongSize (2 * half) (length old.seen) broken ⊎ ((length old.seen ≡ 2 * half) × BreaksSettled half old new broken)

-- bodies that were not read are refused with the gate of the first that breaks
abbrev pub refusal_of : Area → List (List ℕ) → Unread → Refusal
refusal_of area bodies OutOfMemory = refusals.OutOfMemory
refusal_of area bodies (Broken behind) =
    refusals.NotAStore area.log.device (area.log.place + gate_behind (take behind bodies))
