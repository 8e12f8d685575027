-- What an opening says of one device, and of the four.
use Rattle.std.specs.Prelude.{◌≡◌, ◌≢◌, ℕ, List}
use Rattle.disk_model.specs.Disk.{IsImage, State}
use Rattle.disk_model.specs.Moments.{Clock}
use Rattle.disk_model.specs.Runs.{SameDevice, WritesNothing}
use Rattle.disk_model.specs.Sizes.{log_bytes, maplog_bytes, pagelog_bytes, pages_bytes}
use Rattle.disk_model.specs.declared.four.Four.{Four}
use Rattle.retro_base.specs.Cause.{IsFault}
use Rattle.retro_base.specs.declared.device.Device.{Device}
use Rattle.retro_base.specs.declared.device.Device.TheVariants.{Log, Pages, Pagelog, Maplog, Cabinet}
use Rattle.retro_base.specs.declared.refusal.Refusal.{Refusal}
use Rattle.retro_base.specs.declared.refusal.Refusal.TheVariants.{OutOfMemory, NotAStore, DiskFault}
use Rattle.area_log.specs.Listed.{closed_gate, DeviceStandsFor, TellsSize, WrongSize}

-- a device whose list stands for the value, and where its closed gate stands
pub record StandsWithGate {X : Type 0} (half : ℕ) (StandsFor : List (List ℕ) → X → Type 0) (bytes : List ℕ) (x : X)
    (gate : ℕ) : Type 0 where
  pub device : DeviceStandsFor half StandsFor bytes x
  pub closed : gate ≡ closed_gate device

-- nothing was written on the device: it was read, and may have been synced
pub record Unwritten {D : Type 0} (extent : D → ℕ) (is_honest : D → Type 0) (remembers : Type 0) (state : D → State)
    (clock : D → Clock) (old new : D) : Type 0 where
  pub same : SameDevice extent is_honest old new
  pub quiet : is_honest old → WritesNothing remembers state clock old new

pub record AreUnwritten {D : Type 0} (extent : D → ℕ) (is_honest : D → Type 0) (remembers : Type 0) (state : D → State)
    (clock : D → Clock) (old new : Four D) : Type 0 where
  pub log : Unwritten extent is_honest remembers state clock old.log new.log
  pub pages : Unwritten extent is_honest remembers state clock old.pages new.pages
  pub pagelog : Unwritten extent is_honest remembers state clock old.pagelog new.pagelog
  pub maplog : Unwritten extent is_honest remembers state clock old.maplog new.maplog

-- all four tell their bytes
pub record AreHonest {D : Type 0} (is_honest : D → Type 0) (disks : Four D) : Type 0 where
  pub log : is_honest disks.log
  pub pages : is_honest disks.pages
  pub pagelog : is_honest disks.pagelog
  pub maplog : is_honest disks.maplog

-- the bytes that reads of the four return
abbrev pub seen_of : {D : Type 0} → (D → State) → Four D → Four (List ℕ)
seen_of state disks = record {
  log = (state disks.log).seen;
  pages = (state disks.pages).seen;
  pagelog = (state disks.pagelog).seen;
  maplog = (state disks.maplog).seen;
}

-- a crash may leave these bytes of the four
pub record AreImages {D : Type 0} (state : D → State) (disks : Four D) (devices : Four (List ℕ)) : Type 0 where
  pub log : IsImage (state disks.log) devices.log
  pub pages : IsImage (state disks.pages) devices.pages
  pub pagelog : IsImage (state disks.pagelog) devices.pagelog
  pub maplog : IsImage (state disks.maplog) devices.maplog

-- a number of each of the four, as of a device by its name
abbrev pub of_each : {D : Type 0} → (D → ℕ) → Four D → Device → ℕ
of_each number disks Log = number disks.log
of_each number disks Pages = number disks.pages
of_each number disks Pagelog = number disks.pagelog
of_each number disks Maplog = number disks.maplog
of_each number disks Cabinet = 0

-- the four have the sizes of a store
pub record HaveSizes (extent : Device → ℕ) : Type 0 where
  pub page_count : ℕ
  pub capacity : ℕ
  pub log : extent Log ≡ log_bytes
  pub pages : extent Pages ≡ pages_bytes page_count
  pub pagelog : extent Pagelog ≡ pagelog_bytes capacity
  pub maplog : extent Maplog ≡ maplog_bytes capacity

-- A device is refused with that place, whatever it tells: a wrong size is told, and each device is looked at behind
-- those before it.
abbrev pub SizesTell : (Device → ℕ) → Device → ℕ → Type 0
SizesTell extent Log broken = TellsSize log_bytes (extent Log) broken
SizesTell extent Pages broken =
    (extent Log ≡ log_bytes) × ((page_count : ℕ) × WrongSize (pages_bytes page_count) (extent Pages) broken)
SizesTell extent Pagelog broken =
    (extent Log ≡ log_bytes) × ((page_count : ℕ) × (extent Pages ≡ pages_bytes page_count))
    × ((capacity : ℕ) × WrongSize (pagelog_bytes capacity) (extent Pagelog) broken)
SizesTell extent Maplog broken =
    (extent Log ≡ log_bytes) × ((page_count : ℕ) × (extent Pages ≡ pages_bytes page_count))
    × ((capacity : ℕ) × (extent Pagelog ≡ pagelog_bytes capacity)
    × TellsSize (maplog_bytes capacity) (extent Maplog) broken)
SizesTell extent Cabinet broken = ⊥

-- the counts of faults are as they were
abbrev pub SameCounts : (Device → ℕ) → (Device → ℕ) → Type 0
SameCounts before now = (device : Device) → now device ≡ before device

-- Why four devices did not open: memory ran out, or a device breaks, and no call failed; or a call of one device
-- failed, and none of the others.
abbrev pub IsUnopened : (Device → ℕ → Type 0) → (Device → ℕ) → (Device → ℕ) → Refusal → Type 0
IsUnopened Breaks before now OutOfMemory = SameCounts before now
IsUnopened Breaks before now (NotAStore device broken) = SameCounts before now × Breaks device broken
IsUnopened Breaks before now (DiskFault device count) =
    IsFault device (before device) (now device) (DiskFault device count)
    × ((other : Device) → other ≢ device → now other ≡ before other)
IsUnopened Breaks before now _ = ⊥
