-- What the bytes of the four devices of a store open to, in records of a version, and where they break.
use Rattle.std.specs.Prelude.{◌≡◌, ◌⊎◌, ◌*◌, ℕ, List, length, take, drop}
use Rattle.disk_model.specs.Sizes.{maplog_half, pages_bytes, pagelog_bytes}
use Rattle.disk_model.specs.declared.four.Four.{Four}
use Rattle.retro_base.specs.declared.device.Device.{Device}
use Rattle.retro_base.specs.declared.device.Device.TheVariants.{Log, Pages, Pagelog, Maplog, Cabinet}
use Rattle.retro_base.specs.declared.limits.TheConstants.{LOG_REGION_BYTES, PAGE_BYTES}
use Rattle.retro_base.specs.declared.refusal.Refusal.{Refusal}
use Rattle.retro_base.specs.declared.refusal.Refusal.TheVariants.{OutOfMemory, NotAStore}
use Rattle.area_log.specs.Listed.{closed_gate, DeviceRefused, DeviceStandsFor, WrongSize}
use Rattle.history.specs.declared.log.Log as declared
use Rattle.replay.specs.declared.opened.Opened.{Opened}
use Rattle.history.specs.declared.log.Version.{Version}
use Rattle.replay.specs.Joined.{AreJoined}
use Rattle.records.specs.Log.{IsLog}
use Rattle.records.specs.Maplog.{IsMaplog}
use Rattle.replay.specs.Opened.{Contents, Opens}

-- the page that stands at that place of a device of pages
abbrev pub page_at : List ℕ → ℕ → List ℕ
page_at bytes number = take PAGE_BYTES (drop (PAGE_BYTES * number) bytes)

-- the log's device
abbrev pub LogStandsFor : Version → Four (List ℕ) → declared.Log → Type 0
LogStandsFor version devices log = DeviceStandsFor LOG_REGION_BYTES (IsLog version) devices.log log

-- the devices of pages have the sizes that the log's base says
pub record AreSized (devices : Four (List ℕ)) (log : declared.Log) : Type 0 where
  pub pages : length devices.pages ≡ pages_bytes log.base.page_count
  pub pagelog : length devices.pagelog ≡ pagelog_bytes log.base.capacity

-- the devices hold these contents
pub record Hold (version : Version) (devices : Four (List ℕ)) (contents : Contents) : Type 0 where
  pub log : LogStandsFor version devices contents.log
  pub sized : AreSized devices contents.log
  pub pages : contents.pages ≡ page_at devices.pages
  pub slots : contents.slots ≡ page_at devices.pagelog
  pub maplog : DeviceStandsFor (maplog_half contents.log.base.capacity)
      (IsMaplog version contents.log.base.page_count contents.log.base.capacity) devices.maplog contents.mappings

-- the devices open to this store: they hold contents that belong together and open to it
pub record DevicesOpen (version : Version) (devices : Four (List ℕ)) (store : Opened) : Type 0 where
  pub contents : Contents
  pub hold : Hold version devices contents
  pub joined : AreJoined contents
  pub opens : Opens contents store

-- The log is read first, then the sizes of the pages and the page images, then the Maplog, and then whether the Maplog
-- belongs to the log; where it does not, it is told with its closed gate.
pub record PagesRefused (version : Version) (devices : Four (List ℕ)) (broken : ℕ) : Type 0 where
  pub log : declared.Log
  pub stands : LogStandsFor version devices log
  pub size : WrongSize (pages_bytes log.base.page_count) (length devices.pages) broken

pub record PagelogRefused (version : Version) (devices : Four (List ℕ)) (broken : ℕ) : Type 0 where
  pub log : declared.Log
  pub stands : LogStandsFor version devices log
  pub pages : length devices.pages ≡ pages_bytes log.base.page_count
  pub size : WrongSize (pagelog_bytes log.base.capacity) (length devices.pagelog) broken

pub record MaplogRefused (version : Version) (devices : Four (List ℕ)) (broken : ℕ) : Type 0 where
  pub log : declared.Log
  pub stands : LogStandsFor version devices log
  pub sized : AreSized devices log
  pub refused : DeviceRefused (maplog_half log.base.capacity)
      (IsMaplog version log.base.page_count log.base.capacity) devices.maplog broken

pub record NotJoined (version : Version) (devices : Four (List ℕ)) (broken : ℕ) : Type 0 where
  pub contents : Contents
  pub hold : Hold version devices contents
  pub apart : AreJoined contents → ⊥
  pub told : broken ≡ closed_gate hold.maplog

-- the devices are those of no store: the first of them that breaks, and where
abbrev pub DevicesBreak : Version → Four (List ℕ) → Device → ℕ → Type 0
DevicesBreak version devices Log broken = DeviceRefused LOG_REGION_BYTES (IsLog version) devices.log broken
DevicesBreak version devices Pages broken = PagesRefused version devices broken
DevicesBreak version devices Pagelog broken = PagelogRefused version devices broken
DevicesBreak version devices Maplog broken = MaplogRefused version devices broken ⊎ NotJoined version devices broken
DevicesBreak version devices Cabinet broken = ⊥

-- the contents do not open: memory ran out, or they do not belong together, which is told of the Maplog at its end
abbrev pub IsApart : Contents → ℕ → Refusal → Type 0
IsApart contents end OutOfMemory = Unit {0}
IsApart contents end (NotAStore device place) = (device ≡ Maplog) × (place ≡ end) × (AreJoined contents → ⊥)
IsApart contents end _ = ⊥
