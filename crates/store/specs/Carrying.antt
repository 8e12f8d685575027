-- A batch on its way from the desk into the vault.
use Rattle.std.specs.Prelude.{◌≡◌, ◌⊎◌, ◌≤◌, ◌<◌, ℕ, List, length, None, Some, Result, MatchResult}
use Rattle.disk_model.specs.Disk.{State}
use Rattle.block_file.specs.Blocks.{IsAsLong}
use Rattle.disk_model.specs.Moments.{Clock, LeavesOnly}
use Rattle.retro_base.specs.Cause.{IsFault}
use Rattle.retro_base.specs.declared.device.Device.TheVariants.{Maplog, Pagelog}
use Rattle.retro_base.specs.declared.limits.TheConstants.{BATCH}
use Rattle.retro_base.specs.declared.refusal.Refusal.{Refusal}
use Rattle.retro_base.specs.declared.refusal.Refusal.TheVariants.{DiskFault, OutOfMemory, Stopped}
use Rattle.history.specs.declared.journal.Line.{Line}
use Rattle.history.specs.declared.writes.PageImage.{PageImage}
use Rattle.history.specs.Journal.{after_journal}
use Rattle.history.specs.Sound.{IsSound}
use Rattle.history.specs.Writes.{pages_of}
use Rattle.archive.specs.Archive.{IsVault, Running, fault_after}
use Rattle.archive.specs.Side.{ListsMaplogOf}
use Rattle.archive.specs.Slots.{HasSlotsOf, SomeFailedLaying}
use Rattle.race_model.specs.declared.fault.Fault.{Fault}
use Rattle.race_model.specs.Fits.{BatchFits}
use Rattle.race_model.specs.Machine.{enter_failed}
use Rattle.race_model.specs.Vault.{Batch, Vault, batch_end}
use Rattle.store.specs.declared.carrying.Carried.{Carried}
use Rattle.store.specs.declared.carrying.Carried.TheVariants.{Entered, Laid, There}
use Rattle.store.specs.declared.start.Start.{Start}
use Rattle.store.specs.Sides.{VaultStands}
use Rattle.store.specs.Start.{IsOpenedTo, Origin, opened_base}

-- the archive goes on, and has nothing of the batch
pub record HasNone {D : Type 0} (batch : Batch) (archive : Running D) : Type 0 where
  pub goes : archive.first_fault ≡ None
  pub none : archive.side.held ≤ batch.first

-- so, and the batch is still to be laid; or it is laid, and still to be entered
abbrev pub IsToLay : {D : Type 0} → Batch → Running D → Type 0
IsToLay batch archive = HasNone batch archive × (archive.laid < batch_end batch)

abbrev pub IsToEnter : {D : Type 0} → Batch → Running D → Type 0
IsToEnter batch archive = HasNone batch archive × (batch_end batch ≤ archive.laid)

-- What was done to a batch: nothing, where more than its first number was held; or it was laid, where that was still to
-- be done; or entered.
abbrev pub IsCarried : {D : Type 0} → Batch → Running D → Running D → Carried → Type 0
IsCarried batch old new There = (batch.first < old.side.held) × (new ≡ old)
IsCarried batch old new Laid = IsToLay batch old × (new.side ≡ old.side) × (batch_end batch ≤ new.laid)
IsCarried batch old new (Entered count) = IsToEnter batch old × (new.pagelog ≡ old.pagelog)
    × (new.side.held ≡ batch_end batch) × (count ≡ batch_end batch)

-- Why it was refused: the archive stopped at an earlier fault, and is as it was; or, where it was to be entered, memory
-- ran out; or a call failed of the Pagelog's device, where it was to be laid, or of the Maplog's, where it was to be
-- entered. As much is held as before.
abbrev pub IsNotCarried : {D : Type 0} → (D → ℕ) → Batch → Running D → Running D → Refusal → Type 0
IsNotCarried faults batch old new (Stopped device count) =
    (old.side.held ≤ batch.first) × (old.first_fault ≡ Some (device, count)) × (new ≡ old)
IsNotCarried faults batch old new OutOfMemory = IsToEnter batch old × (new.pagelog ≡ old.pagelog)
    × (new.side.held ≡ old.side.held) × (faults new.side.disk ≡ faults old.side.disk)
IsNotCarried faults batch old new (DiskFault device count) =
    (IsToLay batch old × (new.side ≡ old.side)
    × IsFault Pagelog (faults old.pagelog.disk) (faults new.pagelog.disk) (DiskFault device count))
    ⊎ (IsToEnter batch old × (new.pagelog ≡ old.pagelog) × (new.side.held ≡ old.side.held)
    × IsFault Maplog (faults old.side.disk) (faults new.side.disk) (DiskFault device count))
IsNotCarried faults batch old new why = ⊥

module _ {D : Type 0} (is_honest : D → Type 0) (state : D → State) where
  -- The batch has captures of the history behind these lines, as far as they are known: their numbers and pages on any
  -- device, their bytes where the pages' device is honest.
  pub record IsBatchFor (start : Start D) (origin : Origin) (lines : List Line) (batch : Batch) : Type 0 where
    pub images : List PageImage
    pub pages : pages_of images ≡ pages_of batch.images
    pub bytes : is_honest start.core.value.desk.pool.file.disk → images ≡ batch.images
    pub fits : BatchFits (after_journal origin.history lines) (record batch { images = images })

  -- It has 1 to 64 of each history to which the store was opened, from a number on that is at most this one.
  pub record IsBatchIn (start : Start D) (lines : List Line) (most : ℕ) (batch : Batch) : Type 0 where
    pub some : 1 ≤ length batch.images
    pub few : length batch.images ≤ BATCH
    pub known : batch.first ≤ most
    pub origin : Origin
    pub opened : IsOpenedTo is_honest state start origin
    pub fits : (other : Origin) → IsOpenedTo is_honest state start other → IsBatchFor start other lines batch

  -- the archive is the vault of a store of which the batch has captures, from a number on that it holds
  pub record MayCarry (archive : Running D) (batch : Batch) : Type 0 where
    pub start : Start D
    pub lines : List Line
    pub stands : VaultStands is_honest state archive start lines
    pub sound : IsSound (opened_base start) lines
    pub is_batch : IsBatchIn start lines archive.side.held batch

  -- The archive stands for each journal for which it stood, and holds as much at least; its faults are no fewer, and it
  -- stops at the first. A crash at any moment of the call leaves slots as a laying of the batch that fails, as long as
  -- they were, or a Maplog as an entering that fails.
  pub record Carries (faults : D → ℕ) (remembers : Type 0) (clock : D → Clock) (batch : Batch)
      (result : Result Carried Fault) (old new : Running D) : Type 0 where
    pub stands : (start : Start D) (lines : List Line) → VaultStands is_honest state old start lines →
        IsSound (opened_base start) lines → IsBatchIn start lines old.side.held batch
        → VaultStands is_honest state new start lines
    pub held : old.side.held ≤ new.side.held
    pub pagelog : faults old.pagelog.disk ≤ faults new.pagelog.disk
    pub maplog : faults old.side.disk ≤ faults new.side.disk
    pub fault : new.first_fault ≡ fault_after old.first_fault result
    pub outcome : MatchResult result (IsCarried batch old new) (λ fault. IsNotCarried faults batch old new fault.why)
    pub laying : (vault : Vault) → IsVault is_honest state old vault → IsToLay batch old → is_honest old.pagelog.disk →
        LeavesOnly remembers (clock old.pagelog.disk) (clock new.pagelog.disk)
        (λ image. SomeFailedLaying old.pagelog.blocks vault batch (λ failed. HasSlotsOf failed image))
    pub long : IsToLay batch old → is_honest old.pagelog.disk →
        LeavesOnly remembers (clock old.pagelog.disk) (clock new.pagelog.disk) (IsAsLong (state old.pagelog.disk))
    pub entering : (vault : Vault) → IsVault is_honest state old vault → IsToEnter batch old → is_honest old.side.disk →
        LeavesOnly remembers (clock old.side.disk) (clock new.side.disk)
        (ListsMaplogOf old.side.log (enter_failed vault batch))
