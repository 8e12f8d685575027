-- A device in two halves, each of them a region. The half that counts holds the list of the device.
use Rattle.std.specs.Prelude.{◌≡◌, ◌⊎◌, ◌-◌, ℕ, List}
use Rattle.retro_base.specs.Framing.{next_generation}
use Rattle.disk_model.specs.Disk.{State, IsDurable}
use Rattle.gate_log.specs.Region.{Breaks, generation_at, InRecords, IsOpen, Lists}

-- one of the two halves of a device, of that size, begins there
abbrev pub IsHalf : ℕ → ℕ → Type 0
IsHalf size place = (place ≡ 0) ⊎ (place ≡ size)

-- where the other half begins
abbrev pub other_half : ℕ → ℕ → ℕ
other_half size place = size - place

-- The half that begins there counts: it is open, and if the other is open too, its generation is the next of the
-- other's.
pub record Counts (size place : ℕ) (bytes : List ℕ) : Type 0 where
  pub half : IsHalf size place
  pub is_open : IsOpen place bytes
  pub newer : IsOpen (other_half size place) bytes
      → generation_at place bytes ≡ next_generation (generation_at (other_half size place) bytes)

-- the device lists these bodies: those of the half that counts
pub record DeviceLists (size : ℕ) (bodies : List (List ℕ)) (bytes : List ℕ) : Type 0 where
  pub place : ℕ
  pub counts : Counts size place bytes
  pub lists : Lists place size bodies bytes

-- neither half counts, which is told at the device's first place
pub record NoneCounts (size : ℕ) (bytes : List ℕ) (broken : ℕ) : Type 0 where
  pub at_start : broken ≡ 0
  pub none : (place : ℕ) → Counts size place bytes → ⊥

-- a record of the half that counts breaks at that place of the device
pub record RecordBreaks (size : ℕ) (bytes : List ℕ) (broken : ℕ) : Type 0 where
  pub place : ℕ
  pub counts : Counts size place bytes
  pub breaks : Breaks place size bytes broken

-- the device lists nothing, and it is refused with that place
abbrev pub DeviceBreaks : ℕ → List ℕ → ℕ → Type 0
DeviceBreaks size bytes broken = NoneCounts size bytes broken ⊎ RecordBreaks size bytes broken

-- it is refused so once nothing on it is loose
pub record BreaksSettled (size : ℕ) (old new : State) (broken : ℕ) : Type 0 where
  pub breaks : DeviceBreaks size old.seen broken
  pub durable : IsDurable new

-- a place with which a device may be refused: its first, or one where a record of a half may stand
abbrev pub IsPlaceOfRefusal : ℕ → ℕ → Type 0
IsPlaceOfRefusal size broken = (broken ≡ 0) ⊎ (InRecords 0 size broken ⊎ InRecords size size broken)

-- a device lists one list at most, or is refused with one place at most, and not both
pub record DeviceReadOneWay : Type 0 where
  pub one_list : (size : ℕ) (bytes : List ℕ) (bodies others : List (List ℕ)) → DeviceLists size bodies bytes
      → DeviceLists size others bytes → bodies ≡ others
  pub one_place : (size : ℕ) (bytes : List ℕ) (broken other : ℕ) → DeviceBreaks size bytes broken
      → DeviceBreaks size bytes other → broken ≡ other
  pub not_both : (size : ℕ) (bytes : List ℕ) (bodies : List (List ℕ)) (broken : ℕ) → DeviceLists size bodies bytes
      → DeviceBreaks size bytes broken → ⊥
