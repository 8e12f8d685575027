-- A running archive and the plain vault that it is.
use Rattle.std.specs.Prelude.{◌≡◌, ◌⊎◌, max, ℕ, Option, None, is_some, Bool, List, Result, Ok, Err, OnOk, IfErr, IfOk}
use Rattle.disk_model.specs.Disk.{State}
use Rattle.disk_model.specs.Moments.{Clock, LeavesOnly}
use Rattle.retro_base.specs.declared.device.Device.{Device}
use Rattle.retro_base.specs.declared.refusal.Refusal.{Refusal}
use Rattle.retro_base.specs.declared.refusal.Refusal.TheVariants.{DiskFault}
use Rattle.gate_log.specs.Cause.{IsDiskFault}
use Rattle.block_file.specs.Blocks.{File, FillsDevice}
use Rattle.skippy.specs.Mappings.{first_in}
use Rattle.race_model.specs.Machine.{trimmed}
use Rattle.race_model.specs.Reading.{in_slot}
use Rattle.race_model.specs.Vault.{Batch, batch_end, Vault}
use Rattle.race_model.specs.declared.fault.Fault.{Fault}
use Rattle.archive.specs.Cause.{first_after}
use Rattle.archive.specs.Side.{IsMapSide, ListsMaplogOf, Side}
use Rattle.archive.specs.Slots.{AreSlots, HasSlotsOf, SomeFailedLaying, SomeLaying}

-- the mappings, the slots, below which number slots are laid, and the device and the count of the first fault of a
-- write
pub record Running (D : Type 0) : Type 0 where
  pub side : Side D
  pub pagelog : File D
  pub laid : ℕ
  pub first_fault : Option (Device × ℕ)

-- there are as many slots as the mappings' store has, and while the archive goes on, so does their log
pub record IsArchive {D : Type 0} (archive : Running D) : Type 0 where
  pub slots : archive.pagelog.blocks ≡ archive.side.log.capacity
  pub going : archive.first_fault ≡ None → archive.side.log.area.fault ≡ None

-- The archive is the vault: both stopped or both not, the same captures entered and laid, and each device holds what
-- the vault may hold; what is read of the slots' is as long as they.
pub record IsVault {D : Type 0} (is_honest : D → Type 0)
    (state : D → State) (archive : Running D) (vault : Vault) : Type 0 where
  pub stopped : vault.stopped ≡ is_some archive.first_fault
  pub mapped : IsMapSide is_honest state archive.side vault
  pub laid : vault.laid ≡ archive.laid
  pub slots : is_honest archive.pagelog.disk → AreSlots (state archive.pagelog.disk) vault.slots vault.loose
  pub fills : FillsDevice is_honest state archive.pagelog

-- the first fault of a write, after a call
abbrev pub fault_after : {T : Type 0} → Option (Device × ℕ) → Result T Fault → Option (Device × ℕ)
fault_after first (Ok x) = first
fault_after first (Err e) = first_after first e.why

-- A call on the mappings of a vault that goes on makes it `done`, or `failed` where a call of the device failed. A
-- crash at any moment leaves what its failing leaves.
pub record Turns {D T : Type 0} (is_honest : D → Type 0) (remembers : Type 0) (state : D → State)
    (clock : D → Clock) (old new : Running D) (done failed : Vault) (result : Result T Fault) : Type 0 where
  pub steps : OnOk result (IsVault is_honest state new done)
  pub fails : IfErr result (λ e. IsDiskFault e.why → IsVault is_honest state new failed)
  pub any_moment : is_honest old.side.disk → LeavesOnly remembers (clock old.side.disk) (clock new.side.disk)
      (ListsMaplogOf old.side.log failed)

-- A call that lays a batch of a vault that goes on. A crash at any moment leaves slots as its failing does.
pub record TurnsByLaying {D : Type 0} (is_honest : D → Type 0) (remembers : Type 0) (state : D → State)
    (clock : D → Clock) (old new : Running D) (vault : Vault) (batch : Batch)
    (result : Result (Unit {0}) Fault) : Type 0 where
  pub steps : OnOk result (SomeLaying old.pagelog.blocks vault batch (IsVault is_honest state new))
  pub fails : IfErr result (λ e. IsDiskFault e.why
      → SomeFailedLaying old.pagelog.blocks vault batch (IsVault is_honest state new))
  pub any_moment : is_honest old.pagelog.disk → LeavesOnly remembers (clock old.pagelog.disk) (clock new.pagelog.disk)
      (λ image. SomeFailedLaying old.pagelog.blocks vault batch (λ failed. HasSlotsOf failed image))

-- behind a fault none is laid that is not entered
abbrev pub laid_refused : {D : Type 0} → Running D → Refusal → ℕ
laid_refused archive (DiskFault which count) = archive.side.held
laid_refused archive why = archive.laid

-- below which number slots are laid behind the laying of a batch
abbrev pub laid_after : {D : Type 0} → Running D → Batch → Result (Unit {0}) Fault → ℕ
laid_after archive batch (Ok x) = max archive.laid (batch_end batch)
laid_after archive batch (Err e) = laid_refused archive e.why

-- Where memory ran out, the archive is the vault as before, or trimmed to the batch's low.
abbrev pub IsTrimmedAtMost : {D T : Type 0} → (D → Type 0) → (D → State) → Running D → Vault → Batch → Result T Fault
    → Type 0
IsTrimmedAtMost is_honest state new vault batch result = IfErr result (λ e. (IsDiskFault e.why → ⊥)
    → IsVault is_honest state new vault ⊎ IsVault is_honest state new (trimmed vault batch.low))

-- What a search finds is the vault's: the bytes in the slot of the page's first mapping from the start up to a number.
-- It leaves the vault, which may have stopped.
pub record Finds {D : Type 0} (is_honest : D → Type 0)
    (state : D → State) (old new : Running D) (vault : Vault) (start upto page : ℕ) (before after : List ℕ)
    (result : Result Bool Fault) : Type 0 where
  pub stays : IsVault is_honest state new vault
  pub found : IfOk result (λ found. found ≡ is_some (first_in vault.mappings start upto page))
  pub bytes : is_honest old.pagelog.disk → OnOk result
      (after ≡ in_slot vault old.pagelog.blocks before (first_in vault.mappings start upto page))
