-- What a store was opened with, and what it may have been opened to.
use Rattle.std.specs.Prelude.{◌≡◌, ◌≤◌, ◌<◌, ◌++◌, ◌↔◌, ℕ, false, List, [], Option, Some, None}
use Rattle.std.specs.List.{AllByRecursion}
use Rattle.disk_model.specs.Disk.{State}
use Rattle.retro_base.specs.declared.device.Device.{Device}
use Rattle.retro_base.specs.declared.device.Device.TheVariants.{Log, Pages, Pagelog, Maplog}
use Rattle.retro_base.specs.declared.limits.TheConstants.{WORKER_LINES}
use Rattle.history.specs.declared.entry.Base.{Base}
use Rattle.history.specs.declared.journal.Line.{Line}
use Rattle.history.specs.declared.log.Version.{Version}
use Rattle.history.specs.History.{History, now}
use Rattle.history.specs.Journal.{after_journal}
use Rattle.history.specs.Sound.{IsSound}
use Rattle.history.proofs.Journals.{front_is_sound}
use Rattle.race_model.specs.Desk.{Desk, Doubt, NewBase, capacity_of}
use Rattle.race_model.specs.Fits.{HistoryFits, VaultFits}
use Rattle.race_model.specs.Vault.{Maplog as MaplogOf, Vault}
use Rattle.archive.specs.Archive.{IsVault, Running}
use Rattle.store_core.specs.declared.desk_core.Core.{Core}
use Rattle.store_core.specs.Core.{IsCore}
use Rattle.turn.specs.Faults.{LAST, count_of}
use Rattle.turn.specs.Meanings.{OpeningMeaning}
use Rattle.store.specs.declared.start.Start.{Start}

-- a history at the opening, whose archive is kept from a floor on, with the versions of the records of its log and of
-- its
-- Maplog
pub record Origin : Type 0 where
  pub history : History
  pub floor : ℕ
  pub log : Version
  pub maplog : Version

-- a new base that is in doubt is in records of the version
abbrev pub IsDoubtIn : Version → Doubt → Type 0
IsDoubtIn version (NewBase other) = other ≡ version
IsDoubtIn version doubt = Unit {0}

-- the log is in records of the version, and stays so
abbrev pub IsDeskIn : Version → Desk → Type 0
IsDeskIn version desk = (desk.version ≡ version) × IsDoubtIn version desk.doubt

-- the Maplog is in records of the version, whichever the device has
abbrev pub IsVaultIn : Version → Vault → Type 0
IsVaultIn version vault =
    (vault.version ≡ version) × AllByRecursion (λ (other : MaplogOf). other.version ≡ version) vault.others

-- a vault with these slots, each of which is settled
abbrev pub with_slots : (ℕ → List ℕ) → Vault → Vault
with_slots slots vault = record vault { slots = slots; loose = λ slot. false }

module _ {D : Type 0} (is_honest : D → Type 0) (state : D → State) where
  -- the core is a plain desk behind that history
  pub record IsCoreFrom (origin : Origin) (core : Core D) : Type 0 where
    pub plain : Desk
    pub is : IsCore is_honest state origin.history core plain
    pub floor : plain.floor ≡ origin.floor
    pub in_version : IsDeskIn origin.log plain

  -- The archive is a vault that fits the history behind these lines, and has its sizes. Its numbers fit on any
  -- devices; its slots where the pages' device is honest, whose bytes they are.
  pub record IsVaultFrom (IsHonest : Type 0) (origin : Origin) (lines : List Line) (archive : Running D) : Type 0 where
    pub vault : Vault
    pub is : IsVault is_honest state archive vault
    pub captured : ℕ → List ℕ
    pub numbers : VaultFits (after_journal origin.history lines) origin.floor (with_slots captured vault)
    pub fits : IsHonest → VaultFits (after_journal origin.history lines) origin.floor vault
    pub slots : archive.pagelog.blocks ≡ capacity_of origin.history
    pub pages : archive.side.log.page_count ≡ (now origin.history).base.page_count
    pub in_version : IsVaultIn origin.maplog vault

  -- a core and an archive were opened to this history
  pub record AreOpenedTo (running : Core D) (archive : Running D) (origin : Origin) : Type 0 where
    pub base : (now origin.history).base ≡ running.desk.base
    pub fits : HistoryFits origin.history origin.floor
    pub core : IsCoreFrom origin running
    pub vault : IsVaultFrom (is_honest running.desk.pool.file.disk) origin [] archive

  abbrev pub IsOpenedTo : Start D → Origin → Type 0
  IsOpenedTo start origin = AreOpenedTo start.core.value start.archive.value origin

  -- A core and an archive that were just opened, to some history: nothing is told or open, and as much is held as
  -- the core knows.
  pub record AreJustOpened (core : Core D) (archive : Running D) : Type 0 where
    pub origin : Origin
    pub opened : AreOpenedTo core archive origin
    pub lines : core.ledger.book.lines ≡ []
    pub works : core.ledger.works.slots ≡ []
    pub workers : core.ledger.book.workers ≡ WORKER_LINES
    pub held : core.desk.queue.first ≤ archive.side.held
    pub slots : archive.side.log.capacity ≡ archive.pagelog.blocks

-- the devices of the one core are as honest as those of the other
pub record AreAsHonest {D : Type 0} (is_honest : D → Type 0) (old new : Core D) : Type 0 where
  pub log : is_honest old.desk.log.disk ↔ is_honest new.desk.log.disk
  pub pages : is_honest old.desk.pool.file.disk ↔ is_honest new.desk.pool.file.disk

-- and the devices of the one archive as those of the other
pub record IsAsHonest {D : Type 0} (is_honest : D → Type 0) (old new : Running D) : Type 0 where
  pub pagelog : is_honest old.pagelog.disk ↔ is_honest new.pagelog.disk
  pub maplog : is_honest old.side.disk ↔ is_honest new.side.disk

-- how many faults the two devices of a core have had, and the two of an archive
abbrev pub desk_counts : {D : Type 0} → (D → ℕ) → Core D → Device → ℕ
desk_counts faults core Log = faults core.desk.log.disk
desk_counts faults core Pages = faults core.desk.pool.file.disk
desk_counts faults core _ = 0

abbrev pub vault_counts : {D : Type 0} → (D → ℕ) → Running D → Device → ℕ
vault_counts faults archive Pagelog = faults archive.pagelog.disk
vault_counts faults archive Maplog = faults archive.side.disk
vault_counts faults archive _ = 0

-- no device of the core has had fewer faults than it had then, nor one of the archive
abbrev pub IsLaterCore : {D : Type 0} → (D → ℕ) → Core D → Core D → Type 0
IsLaterCore faults old new = (device : Device) → desk_counts faults old device ≤ desk_counts faults new device

abbrev pub IsLaterArchive : {D : Type 0} → (D → ℕ) → Running D → Running D → Type 0
IsLaterArchive faults old new = (device : Device) → vault_counts faults old device ≤ vault_counts faults new device

-- what the log said at the opening
abbrev pub opened_base : {D : Type 0} → Start D → Base
opened_base start = start.core.value.desk.base

-- how many faults each device had had
abbrev pub opened_counts : {D : Type 0} → (D → ℕ) → Start D → Device → ℕ
opened_counts faults start = count_of (desk_counts faults start.core.value) (vault_counts faults start.archive.value)

-- a fault is above what its device had had at the opening; the last count is excepted, since counts stay there
abbrev pub IsAbove : {D : Type 0} → (D → ℕ) → Start D → Device → ℕ → Type 0
IsAbove faults start device count = count < LAST → opened_counts faults start device < count

abbrev pub of_start : {D : Type 0} → (D → ℕ) → OpeningMeaning (Start D)
of_start faults = record {
  base = opened_base;
  counts = opened_counts faults;
  Lawful = λ start. IsSound (opened_base start);
}

pub sound_front : (base : Base) (lines more : List Line) → IsSound base (lines ++ more) → IsSound base lines
sound_front base lines more sound = front_is_sound base lines more sound

-- what a seat tells of the opening is this core and this archive
abbrev pub IsStartOf : {D : Type 0} → Core D → Running D → Option (Start D) → Type 0
IsStartOf core archive (Some start) = (start.core.value ≡ core) × (start.archive.value ≡ archive)
IsStartOf core archive None = ⊥
