-- What a crash leaves of the four devices of a store within calls.
use Rattle.std.specs.Prelude.{◌≡◌, ◌≤◌, ◌*◌, ℕ, false, List, length, Option, Some}
use Rattle.disk_model.specs.declared.four.Four.{Four}
use Rattle.disk_model.specs.Disk.{IsImage, State}
use Rattle.retro_base.specs.declared.limits.TheConstants.{PAGE_BYTES}
use Rattle.history.specs.declared.entry.Change.{Change}
use Rattle.history.specs.History.{History, now}
use Rattle.history.specs.Journal.{after_journal}
use Rattle.history.specs.Lines.{doubt_in}
use Rattle.history.specs.Right.{MayFollow}
use Rattle.race_model.specs.Desk.{Desk}
use Rattle.race_model.specs.Fits.{BatchFits}
use Rattle.race_model.specs.Machine.{MayCut, MayEnter, MayLay, MayWrite, change_failed}
use Rattle.race_model.specs.Machine.{cut_failed, enter_failed, stopped, write_failed}
use Rattle.race_model.specs.Vault.{Batch, Vault}
use Rattle.archive.specs.Archive.{Running}
use Rattle.archive.specs.Side.{ListsMaplogOf}
use Rattle.archive.specs.Slots.{HasSlotsOf, SomeFailedLaying}
use Rattle.desk.specs.Desk.{HoldsPagesOf, ListsLogOf}
use Rattle.store.specs.declared.desk_side.DeskSide.{DeskSide}
use Rattle.store.specs.Crashes.{HoldWorld}
use Rattle.store.specs.Opening.{IsHonestlyOpened}
use Rattle.store.specs.Seats.{journal}
use Rattle.store.specs.Sides.{DeskStands, VaultStands}
use Rattle.store.specs.Start.{IsCoreFrom, IsVaultFrom, Origin}

module _ {D : Type 0} (state : D → State) where
  -- What a crash leaves of the desk's two devices, as they stand, or within a call of one of them, at any moment (each
  -- call's `any_moment` says that its device then has such bytes). Within a change's call that is in doubt; else what
  -- the journal tells to be.
  pub data LeftOfDesk (side : DeskSide D) (plain : Desk) (log pages : List ℕ) : Option Change → Type 0 where
    AtRest : IsImage (state side.core.desk.log.disk) log → IsImage (state side.core.desk.pool.file.disk) pages
        → LeftOfDesk side plain log pages (doubt_in (journal side))
    InChange : (change : Change) → MayFollow (now plain.history).base change →
        ListsLogOf (change_failed plain change) log → IsImage (state side.core.desk.pool.file.disk) pages
        → LeftOfDesk side plain log pages (Some change)
    InWriteBack : (page need : ℕ) (left : List ℕ) → MayWrite plain page need →
        IsImage (state side.core.desk.log.disk) log → HoldsPagesOf (write_failed plain page need left) pages
        → LeftOfDesk side plain log pages (doubt_in (journal side))
    InSettling : IsImage (state side.core.desk.log.disk) log → HoldsPagesOf (stopped plain) pages
        → LeftOfDesk side plain log pages (doubt_in (journal side))
    InCut : MayCut plain → ListsLogOf (cut_failed plain) log → IsImage (state side.core.desk.pool.file.disk) pages
        → LeftOfDesk side plain log pages (doubt_in (journal side))

  -- And of the archive's two: as they stand, or within the laying or the entering of a batch of that history.
  pub data LeftOfVault (archive : Running D) (history : History) (vault : Vault) (slots maplog : List ℕ) : Type 0 where
    Quiet : IsImage (state archive.pagelog.disk) slots → IsImage (state archive.side.disk) maplog
        → LeftOfVault archive history vault slots maplog
    InLaying : (batch : Batch) → BatchFits history batch → vault.stopped ≡ false → MayLay vault batch →
        SomeFailedLaying archive.pagelog.blocks vault batch (λ failed. HasSlotsOf failed slots) →
        IsImage (state archive.side.disk) maplog → LeftOfVault archive history vault slots maplog
    InEntering : (batch : Batch) → BatchFits history batch → MayEnter vault batch →
        IsImage (state archive.pagelog.disk) slots → ListsMaplogOf archive.side.log (enter_failed vault batch) maplog
        → LeftOfVault archive history vault slots maplog

module _ {D : Type 0} (is_honest : D → Type 0) (state : D → State) where
  -- The desk and the archive stand for one opening, on honest devices, and one journal; the desk knows of no more
  -- captures than are held.
  pub record StandTogether (side : DeskSide D) (archive : Running D) (origin : Origin) : Type 0 where
    pub begun : IsHonestlyOpened is_honest state side.start origin
    pub stands : DeskStands is_honest state side
    pub vault : VaultStands is_honest state archive side.start (journal side)
    pub acked : side.core.desk.queue.first ≤ archive.side.held

  -- Whatever a crash leaves of the four within a call of the desk's devices, one of the archive's, or both, they open
  -- to the history behind the journal, or to it with the change in doubt. The bytes of the pages and of the slots have
  -- the sizes of these devices' files.
  abbrev pub LeftOpens : Type 0
  LeftOpens = (side : DeskSide D) (archive : Running D) (origin : Origin) (devices : Four (List ℕ))
      (doubt : Option Change) → StandTogether side archive origin →
      (desk : IsCoreFrom is_honest state origin side.core)
      (vault : IsVaultFrom is_honest state (is_honest side.start.core.value.desk.pool.file.disk) origin (journal side)
      archive)
      → length devices.pages ≡ PAGE_BYTES * side.core.desk.pool.file.blocks
      → length devices.pagelog ≡ PAGE_BYTES * archive.pagelog.blocks
      → LeftOfDesk state side desk.plain devices.log devices.pages doubt
      → LeftOfVault state archive (after_journal origin.history (journal side)) vault.vault devices.pagelog
      devices.maplog
      → HoldWorld origin.log devices (after_journal origin.history (journal side)) doubt
