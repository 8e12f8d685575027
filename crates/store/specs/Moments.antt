-- What a crash leaves of the four devices of a store at each moment of a visit.
use Rattle.std.specs.Prelude.{◌≡◌, ◌⊎◌, ℕ, Bool, List, Option, Some, Result}
use Rattle.atomic_table.specs.Seated.{TableId}
use Rattle.block_file.specs.Blocks.{IsAsLong}
use Rattle.disk_model.specs.declared.four.Four.{Four}
use Rattle.disk_model.specs.Disk.{State}
use Rattle.disk_model.specs.Moments.{Clock}
use Rattle.retro_base.specs.declared.refusal.Refusal.{Refusal}
use Rattle.retro_base.specs.declared.who.Who.{Who}
use Rattle.history.specs.declared.entry.Change.{Change}
use Rattle.history.specs.declared.entry.Change.TheVariants.{Commit, Drop}
use Rattle.history.specs.declared.journal.Line.{Line}
use Rattle.history.specs.Journal.{after_journal}
use Rattle.history.specs.Lines.{doubt_in}
use Rattle.journal_book.specs.declared.work.Transaction.{Transaction}
use Rattle.race_model.specs.declared.fault.Fault.{Fault}
use Rattle.race_model.specs.Vault.{Batch}
use Rattle.archive.specs.Archive.{Running}
use Rattle.store_core.specs.declared.copying.Peeked.{Peeked}
use Rattle.store_core.specs.declared.desk_core.Core.{Core}
use Rattle.turn.specs.Seats.{opening}
use Rattle.store.specs.declared.carrying.Carried.{Carried}
use Rattle.store.specs.declared.desk_side.DeskSide.{DeskSide}
use Rattle.store.specs.declared.start.Start.{Start}
use Rattle.store.specs.Calls.{CommitDoes, EditDoes, PeekDoes, ReadDoes}
use Rattle.store.specs.Crashes.{HoldWorld}
use Rattle.store.specs.Opening.{IsHonestlyOpened}
use Rattle.store.specs.Past.{LooksUp}
use Rattle.store.specs.RoundCalls.{CutsBelow, DropDoes, SettleDoes, WriteBackDoes}
use Rattle.store.specs.Rounds.{CarriesIn}
use Rattle.store.specs.Seats.{ArchiveBeside, Sat, VisitedVault, Visits, journal}
use Rattle.store.specs.Sides.{DeskStands}
use Rattle.store.specs.Start.{IsCoreFrom, IsVaultFrom, Origin}
use Rattle.store.specs.Within.{LeftOfDesk, LeftOfVault}

module _ {D : Type 0} (clock : D → Clock) where
  -- at some moment since the core was the old one, a crash left that of its two devices
  pub record LeftByCore (old new : Core D) (devices : Four (List ℕ)) : Type 0 where
    pub log : (clock new.desk.log.disk).left_since (clock old.desk.log.disk).moment devices.log
    pub pages : (clock new.desk.pool.file.disk).left_since (clock old.desk.pool.file.disk).moment devices.pages

  -- and of an archive's two
  pub record LeftByArchive (old new : Running D) (devices : Four (List ℕ)) : Type 0 where
    pub pagelog : (clock new.pagelog.disk).left_since (clock old.pagelog.disk).moment devices.pagelog
    pub maplog : (clock new.side.disk).left_since (clock old.side.disk).moment devices.maplog

-- the devices of a desk are as they were, as behind each call that begins, ends, looks, notes or acknowledges
pub record KeepsDevices {D : Type 0} (old new : Core D) : Type 0 where
  pub log : new.desk.log ≡ old.desk.log
  pub file : new.desk.pool.file ≡ old.desk.pool.file

-- no change of its own, and this one
abbrev pub NoChange : Change → Type 0
NoChange change = ⊥

abbrev pub OneChange : Change → Change → Type 0
OneChange own change = change ≡ own

-- in doubt is what these lines tell to be, or such a change
abbrev pub MayDoubt : List Line → (Change → Type 0) → Option Change → Type 0
MayDoubt lines Own doubt = (doubt ≡ doubt_in lines) ⊎ ((change : Change) × (doubt ≡ Some change) × Own change)

module _ {D : Type 0} (is_honest : D → Type 0) (state : D → State) where
  -- A crash leaves that of a desk's two devices, as it stands or within a call of one of them, with that in doubt; the
  -- pages as long as they are read.
  pub record DeskLeft (side : DeskSide D) (origin : Origin) (doubt : Option Change) (devices : Four (List ℕ))
      : Type 0 where
    pub from : IsCoreFrom is_honest state origin side.core
    pub left : LeftOfDesk state side from.plain devices.log devices.pages doubt
    pub long : IsAsLong (state side.core.desk.pool.file.disk) devices.pages

  -- And of an archive's two, as it stands or within a call, where it stands for the journal of a desk.
  pub record ArchiveLeft (archive : Running D) (side : DeskSide D) (origin : Origin) (devices : Four (List ℕ))
      : Type 0 where
    pub from : IsVaultFrom is_honest state (is_honest side.start.core.value.desk.pool.file.disk) origin (journal side)
        archive
    pub left : LeftOfVault state archive (after_journal origin.history (journal side)) from.vault devices.pagelog
        devices.maplog
    pub long : IsAsLong (state archive.pagelog.disk) devices.pagelog

  module _ (faults : D → ℕ) where
    -- Whatever a crash leaves of a desk and of the archive that stands beside it opens to the history behind the
    -- desk's journal, or to it with what is in doubt.
    abbrev pub BesideOpens : Type 0
    BesideOpens = (side : DeskSide D) (known : ℕ) (near : ArchiveBeside is_honest state faults side known)
        (origin : Origin) (devices : Four (List ℕ)) (doubt : Option Change) → DeskStands is_honest state side →
        IsHonestlyOpened is_honest state side.start origin → DeskLeft side origin doubt devices
        → ArchiveLeft near.archive side origin devices
        → HoldWorld origin.log devices (after_journal origin.history (journal side)) doubt

    module _ (remembers : Type 0) (clock : D → Clock) where
      -- In a visit to the desk the call did that. Whatever a crash left of the four devices since the seat entered,
      -- with the archive beside it as it was last left or within a call, opens to the history behind the journal that
      -- the seat found, or to it with the one change in doubt: what that journal told to be, or the call's own.
      abbrev pub VisitOpens : (Core D → Core D → Type 0) → (Change → Type 0) → Type 0
      VisitOpens Does Own = (z : TableId) (s0 s1 : Sat D) (visit : Visits is_honest state faults z Does s0 s1)
          (origin : Origin) (devices : Four (List ℕ)) → IsHonestlyOpened is_honest state visit.before.start origin →
          LeftByCore clock visit.before.core visit.after.core devices
          → ArchiveLeft visit.visited.beside.archive visit.before origin devices
          → (doubt : Option Change) × MayDoubt (journal visit.before) Own doubt
          × HoldWorld origin.log devices (after_journal origin.history (journal visit.before)) doubt

      -- a call that touches no device
      abbrev pub QuietOpens : Type 0
      QuietOpens = VisitOpens KeepsDevices NoChange

      -- a page read, edited, or read as of a snapshot
      abbrev pub ReadOpens : Type 0
      ReadOpens = (who : Who) (page : ℕ) (before after : List ℕ) (t : Transaction)
          (result : Result (Unit {0}) Refusal) →
          VisitOpens (ReadDoes is_honest state faults remembers clock who page before after t result) NoChange

      abbrev pub EditOpens : Type 0
      EditOpens = (who : Who) (page : ℕ) (bytes : List ℕ) (t : Transaction) (result : Result (Unit {0}) Refusal) →
          VisitOpens (EditDoes is_honest state faults remembers clock who page bytes t result) NoChange

      abbrev pub PeekOpens : Type 0
      PeekOpens = (page snapshot : ℕ) (before after : List ℕ) (result : Result Peeked Refusal) →
          VisitOpens (PeekDoes is_honest state faults remembers clock page snapshot before after result) NoChange

      -- a page written back, the pages made durable, and the log cut
      abbrev pub WriteBackOpens : Type 0
      WriteBackOpens = (who : Who) (result : Result Bool Refusal) →
          VisitOpens (WriteBackDoes is_honest state faults remembers clock who result) NoChange

      abbrev pub SettleOpens : Type 0
      SettleOpens = (who : Who) (result : Result (Unit {0}) Refusal) →
          VisitOpens (SettleDoes is_honest state faults remembers clock who result) NoChange

      abbrev pub CutOpens : Type 0
      CutOpens = (who : Who) (bytes : ℕ) (result : Result Bool Refusal) →
          VisitOpens (CutsBelow is_honest state faults remembers clock who bytes result) NoChange

      -- a commit and a drop
      abbrev pub CommitOpens : Type 0
      CommitOpens = (who : Who) (label : Option (List ℕ)) (t : Transaction) (result : Result (Option ℕ) Refusal) →
          VisitOpens (CommitDoes is_honest state faults remembers clock who label t result)
          (OneChange (Commit label t.edits))

      abbrev pub DropOpens : Type 0
      DropOpens = (who : Who) (below : ℕ) (result : Result (Unit {0}) Refusal) →
          VisitOpens (DropDoes is_honest state faults remembers clock who below result) (OneChange (Drop below))

      -- In a visit to the vault the archive came to be that. Whatever a crash left of the four devices since the seat
      -- entered, with the desk beside it as it was last left or within a call, opens to the history behind the journal
      -- of that desk, which the seat has seen, or to it with what is in doubt of the desk.
      abbrev pub VaultVisitOpens : {z : TableId} {s0 s1 : Sat D} {before after : Running D} →
          VisitedVault is_honest state faults z s0 s1 before after → Type 0
      VaultVisitOpens {s0 = s0} {before = before} {after = after} visited = (start : Start D)
          (is : opening s0 ≡ Some start) (origin : Origin) (devices : Four (List ℕ)) (doubt : Option Change) →
          IsHonestlyOpened is_honest state start origin → LeftByArchive clock before after devices
          → DeskLeft (visited.beside start is).0.side origin doubt devices
          → HoldWorld origin.log devices (after_journal origin.history (journal (visited.beside start is).0.side)) doubt

      -- a call with a batch, and a page looked up
      abbrev pub CarryOpens : Type 0
      CarryOpens = (batch : Batch) (result : Result Carried Fault) (z : TableId) (s0 s1 : Sat D)
          (visit : CarriesIn is_honest state faults z remembers clock batch result s0 s1) →
          VaultVisitOpens visit.visited

      abbrev pub LookUpOpens : Type 0
      LookUpOpens = (z : TableId) (s0 s1 : Sat D) (visit : LooksUp is_honest state faults z remembers clock s0 s1) →
          VaultVisitOpens visit.visited
