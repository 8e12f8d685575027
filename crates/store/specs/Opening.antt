-- How a store is opened from its four devices.
use Rattle.std.specs.Prelude.{◌≡◌, ◌↔◌, ◌*◌, ℕ, List, length, slice_get, Some}
use Rattle.disk_model.specs.declared.four.Four.{Four}
use Rattle.disk_model.specs.declared.four.Sizes.{Sizes}
use Rattle.disk_model.specs.Disk.{State}
use Rattle.disk_model.specs.Moments.{Clock}
use Rattle.disk_model.specs.Runs.{WritesNothing}
use Rattle.disk_model.specs.Sizes.{log_bytes, maplog_bytes, pagelog_bytes, pages_bytes}
use Rattle.retro_base.specs.declared.device.Device.{Device}
use Rattle.retro_base.specs.declared.limits.TheConstants.{PAGE_BYTES}
use Rattle.history.specs.declared.log.Version.{Version}
use Rattle.history.specs.History.{now}
use Rattle.history.specs.Marks.{newest, oldest}
use Rattle.replay.specs.Joined.{AreJoined}
use Rattle.replay.specs.Opened.{Contents, opened}
use Rattle.archive.specs.Archive.{Running}
use Rattle.archive.specs.Fetching.{IsOpened}
use Rattle.opening.specs.Devices.{AreHonest, of_each, SameCounts, seen_of, SizesTell, Unwritten}
use Rattle.opening.specs.Opening.{DevicesBreak, Hold}
use Rattle.store_core.specs.Core.{AreSizesOf}
use Rattle.store_core.specs.declared.desk_core.Core.{Core}
use Rattle.store.specs.declared.fetching.Shown.{Shown}
use Rattle.store.specs.declared.start.Start.{Start}
use Rattle.store.specs.Seats.{Sat}
use Rattle.store.specs.Start.{AreJustOpened, IsOpenedTo, IsStartOf, Origin}
use Rattle.turn.specs.Seats as seats_of_turn

-- the four devices of a core and an archive
abbrev pub disks_of : {D : Type 0} → Core D → Running D → Four D
disks_of core archive = record {
  log = core.desk.log.disk;
  pages = core.desk.pool.file.disk;
  pagelog = archive.pagelog.disk;
  maplog = archive.side.disk;
}

-- Nothing was written on the four devices that a core and an archive were opened from. There are as many pages as their
-- device has.
pub record AreReadBy {D : Type 0} (extent : D → ℕ) (is_honest : D → Type 0) (remembers : Type 0) (state : D → State)
    (clock : D → Clock) (disks : Four D) (core : Core D) (archive : Running D) : Type 0 where
  pub log : Unwritten extent is_honest remembers state clock disks.log core.desk.log.disk
  pub pages : is_honest disks.pages → WritesNothing remembers state clock disks.pages core.desk.pool.file.disk
  pub honest : is_honest disks.pages ↔ is_honest core.desk.pool.file.disk
  pub blocks : extent disks.pages ≡ PAGE_BYTES * core.desk.pool.file.blocks
  pub pagelog : Unwritten extent is_honest remembers state clock disks.pagelog archive.pagelog.disk
  pub maplog : Unwritten extent is_honest remembers state clock disks.maplog archive.side.disk

-- The devices are refused so, the first that breaks and where: for their sizes, whatever they tell, and by their bytes
-- where they tell them.
pub record AreRefused {D : Type 0} (extent : D → ℕ) (is_honest : D → Type 0) (state : D → State) (version : Version)
    (disks : Four D) (device : Device) (broken : ℕ) : Type 0 where
  pub sizes : SizesTell (of_each extent disks) device broken
  pub breaks : AreHonest is_honest disks → DevicesBreak version (seen_of state disks) device broken

-- the history that contents open to, kept from their lowest mapping on, with a Maplog in records of that version
abbrev pub origin_of : Version → Contents → Origin
origin_of version contents = record {
  history = opened contents;
  floor = contents.mappings.low;
  log = contents.log.version;
  maplog = version;
}

-- four devices
abbrev pub four_of : {D : Type 0} → D → D → D → D → Four D
four_of log pages pagelog maplog = record { log = log; pages = pages; pagelog = pagelog; maplog = maplog }

-- The log was read, which told these sizes, and the archive was opened from these two devices beside it. No call
-- failed,
-- and each of the four has its size.
pub record AreLooked {D : Type 0} (extent faults : D → ℕ) (is_honest : D → Type 0) (remembers : Type 0)
    (state : D → State) (clock : D → Clock) (version : Version) (first log pages slots maps : D) (archive : Running D)
    (sizes : Sizes) : Type 0 where
  pub log_read : Unwritten extent is_honest remembers state clock first log
  pub log_count : faults log ≡ faults first
  pub log_size : extent first ≡ log_bytes
  pub listed : is_honest first → AreSizesOf version (state first).seen sizes
  pub pages_size : extent pages ≡ pages_bytes sizes.pages
  pub slots_read : Unwritten extent is_honest remembers state clock slots archive.pagelog.disk
  pub slots_count : faults archive.pagelog.disk ≡ faults slots
  pub slots_size : extent slots ≡ pagelog_bytes sizes.capacity
  pub maps_read : Unwritten extent is_honest remembers state clock maps archive.side.disk
  pub maps_count : faults archive.side.disk ≡ faults maps
  pub maps_size : extent maps ≡ maplog_bytes sizes.capacity
  pub opened : IsOpened is_honest state version sizes.pages sizes.capacity maps archive

-- These belong together, and the four devices hold them where they tell their bytes.
pub record AreContentsOf {D : Type 0} (is_honest : D → Type 0) (state : D → State) (version : Version) (disks : Four D)
    (contents : Contents) : Type 0 where
  pub hold : AreHonest is_honest disks → Hold version (seen_of state disks) contents
  pub joined : AreJoined contents

-- A core and an archive were just opened to the history of the four devices' contents.
pub record AreOpenedFrom {D : Type 0} (is_honest : D → Type 0) (state : D → State) (version : Version) (disks : Four D)
    (core : Core D) (archive : Running D) : Type 0 where
  pub contents : Contents
  pub are : AreContentsOf is_honest state version disks contents
  pub opened : AreJustOpened is_honest state core archive
  pub origin : opened.origin ≡ origin_of version contents

-- a store was opened to this history, from devices that told what they held, with log and Maplog in records of one
-- version
pub record IsHonestlyOpened {D : Type 0} (is_honest : D → Type 0) (state : D → State) (start : Start D)
    (origin : Origin) : Type 0 where
  pub opened : IsOpenedTo is_honest state start origin
  pub honest : AreHonest is_honest (disks_of start.core.value start.archive.value)
  pub in_version : origin.maplog ≡ origin.log

-- The core and the archive with which a store of these seats began: each seat tells them as its opening. They were
-- opened
-- from the four devices, of which nothing was written and no call failed. Where the devices tell what they hold, the
-- store
-- was opened to the history of their contents.
pub record BeginsWith {D : Type 0} (extent faults : D → ℕ) (is_honest : D → Type 0) (remembers : Type 0)
    (state : D → State) (clock : D → Clock) (version : Version) (disks : Four D) (start : Start D)
    (seats : List (Sat D)) : Type 0 where
  pub core : Core D
  pub archive : Running D
  pub opened : AreOpenedFrom is_honest state version disks core archive
  pub read : AreReadBy extent is_honest remembers state clock disks core archive
  pub counts : SameCounts (of_each faults disks) (of_each faults (disks_of core archive))
  pub begins : IsStartOf core archive (Some start)
  pub sat : start.seats.value ≡ length seats
  pub each : (k : ℕ) (s : Sat D) → slice_get seats k ≡ Some s → IsStartOf core archive (seats_of_turn.opening s)
  pub honestly : AreHonest is_honest disks → IsHonestlyOpened is_honest state start opened.opened.origin

-- what is shown of the four devices' contents: their sizes, the oldest and the newest snapshot, and how many captures
pub record IsShownOf {D : Type 0} (is_honest : D → Type 0) (state : D → State) (version : Version) (disks : Four D)
    (shown : Shown) : Type 0 where
  pub contents : Contents
  pub are : AreContentsOf is_honest state version disks contents
  pub pages : shown.sizes.pages ≡ (now (opened contents)).base.page_count
  pub capacity : shown.sizes.capacity ≡ (now (opened contents)).base.capacity
  pub oldest : shown.oldest ≡ oldest (now (opened contents)).base.marks
  pub newest : shown.newest ≡ newest (now (opened contents)).base.marks
  pub captures : shown.captures ≡ (now (opened contents)).base.captures
