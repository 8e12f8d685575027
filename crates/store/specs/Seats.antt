-- A seat of a store between its calls, and what a visit to the desk is.
use Rattle.std.specs.Prelude.{◌≡◌, ◌<◌, ◌≤◌, ◌++◌, ℕ, List, [], length, Option, Some, IfSome, Result, Err}
use mathlib.Core.List.{IsPrefix}
use Rattle.atomic_table.specs.Seated.{TableId}
use Rattle.disk_model.specs.Disk.{State}
use Rattle.retro_base.specs.declared.device.Device.{Device}
use Rattle.retro_base.specs.declared.refusal.Refusal.{Refusal}
use Rattle.retro_base.specs.declared.refusal.Refusal.TheVariants.{DiskFault, Overlap}
use Rattle.retro_base.specs.declared.who.Who.{Who}
use Rattle.history.specs.declared.journal.Line.{Line}
use Rattle.history.specs.Lines.{lines_of}
use Rattle.history.specs.Sound.{IsSound}
use Rattle.journal_book.specs.declared.work.Look.{Look}
use Rattle.journal_book.specs.declared.work.Transaction.{Transaction}
use Rattle.journal_book.specs.declared.work.Work.{Work}
use Rattle.journal_book.specs.declared.work.Work.TheVariants.{Open, Looking, KeptDrop}
use Rattle.journal_book.specs.Works.{who_of, work_at}
use Rattle.race_model.specs.declared.fault.Fault.{Fault}
use Rattle.archive.specs.Archive.{Running}
use Rattle.store_core.specs.declared.desk_core.Core.{Core}
use Rattle.txn_set.specs.declared.ending.Ending.{Ending}
use Rattle.txn_set.specs.declared.ending.Ending.TheVariants as ending
use Rattle.turn.specs.declared.seat.SeatOver.{SeatOver}
use Rattle.turn.specs.declared.turn.Turn.{Turn}
use Rattle.turn.specs.declared.view.Holding.{Holding}
use Rattle.turn.specs.Faults.{LAST, fault_times}
use Rattle.turn.specs.Seats.{IsInDesk, IsInVault, IsSame, MayLeave, MayLeaveVault, Rests, held, mine, opening, seen}
use Rattle.turn.specs.Views.{PARTS, behind_desk, behind_vault}
use Rattle.store.specs.declared.desk_side.DeskSide.{DeskSide}
use Rattle.store.specs.declared.start.Start.{Start}
use Rattle.store.specs.Sides.{AreOfSeats, DeskStands, Keeps, VaultStands, of_desk, of_vault}
use Rattle.store.specs.Start.{IsLaterArchive, IsLaterCore, of_start, opened_base}
use Rattle.store.specs.Tried.{AreTried}
use Rattle.store.specs.Workers.{WorkersFit}

abbrev pub Sat : Type 0 → Type 0
Sat D = SeatOver (Start D) Work (DeskSide D) (Running D)

-- what a store was opened with
abbrev pub start_of : {D : Type 0} → Turn (DeskSide D) (Running D) (Start D) Work → Start D
start_of turn = turn.table.shared.key.first.value.start

-- the journal that a desk keeps, and what each session has open
abbrev pub journal : {D : Type 0} → DeskSide D → List Line
journal side = side.core.ledger.book.lines

abbrev pub slots_of : {D : Type 0} → DeskSide D → List (Option Work)
slots_of side = side.core.ledger.works.slots

-- how many lines there were before that of a work
abbrev pub began_of : Work → ℕ
began_of (Open t) = t.began
began_of (Looking look) = look.began
began_of (KeptDrop who) = 0

-- the work is of the seat's own number, and began among these lines
pub record IsOwnWork (lines : List Line) (session : ℕ) (open_work : Option Work) : Type 0 where
  pub number : (w : Work) → open_work ≡ Some w → (who_of w).session ≡ session
  pub began : (w : Work) → open_work ≡ Some w → began_of w ≤ length lines

-- the number is one of the store's seats
abbrev pub IsOneOf : {D : Type 0} → Option (Start D) → ℕ → Type 0
IsOneOf {D} begun number = (start : Start D) → begun ≡ Some start → number < start.seats.value

-- Outside both locks. The seat has seen all its own lines, and the line of what it has open.
pub record IsReady {D : Type 0} (z : TableId) (s : Sat D) : Type 0 where
  pub rests : Rests z s
  pub one : IsOneOf (opening s) s.number
  pub lines : (mine s).lines ≡ lines_of s.number (seen s)
  pub work : IsOwnWork (seen s) s.number (mine s).work

-- the page is one of the store's
abbrev pub IsPage : {D : Type 0} → Sat D → ℕ → Type 0
IsPage s page = IfSome (opening s) (λ start. page < (opened_base start).page_count)

-- the store that it sits at has so many pages
abbrev pub IsSized : {D : Type 0} → ℕ → Sat D → Type 0
IsSized {D} pages s = (start : Start D) → opening s ≡ Some start → pages ≡ (opened_base start).page_count

-- a fault that a transaction keeps is among those that its seat was told since its last line
abbrev pub KeptIsTold : Option Work → List (Device × ℕ) → Type 0
KeptIsTold work faults = (t : Transaction) (d : Device) (c : ℕ) → work ≡ Some (Open t) →
    t.kept ≡ Some (DiskFault d c) → 0 < fault_times d c faults

-- It has no helper out, and was told the fault that it keeps.
pub record IsWhole {D : Type 0} (s : Sat D) : Type 0 where
  pub parts : (mine s).parts ≡ PARTS
  pub kept : KeptIsTold (mine s).work (mine s).faults

-- the count of a fault is one of 64 bits
abbrev pub CountFits : {T : Type 0} → Result T Refusal → Type 0
CountFits result = (d : Device) (c : ℕ) → result ≡ Err (DiskFault d c) → c ≤ LAST

abbrev pub FaultFits : {T : Type 0} → Result T Fault → Type 0
FaultFits result = (fault : Fault) (d : Device) (c : ℕ) → result ≡ Err fault → fault.why ≡ DiskFault d c → c ≤ LAST

-- nothing has to be told
abbrev pub always : List (Device × ℕ) → Type 0
always faults = Unit {0}

-- a fault that ends a work is among these; and no refusal that ends one is an overlap
abbrev pub EndingIsTold : Ending → List (Device × ℕ) → Type 0
EndingIsTold (ending.Failed d c) faults = 0 < fault_times d c faults
EndingIsTold (ending.Refused (Overlap session item)) faults = ⊥
EndingIsTold why faults = Unit {0}

-- a transaction of the item is open in the seat, or a look
pub record IsOpenIn {D : Type 0} (s : Sat D) (who : Who) : Type 0 where
  pub transaction : Transaction
  pub open_there : (mine s).work ≡ Some (Open transaction)
  pub is_of : transaction.who ≡ who

pub record IsLookingIn {D : Type 0} (s : Sat D) (who : Who) : Type 0 where
  pub look : Look
  pub open_there : (mine s).work ≡ Some (Looking look)
  pub is_of : look.who ≡ who

-- the seat has seen more of the journal, with no line of its own
pub record Waits {D : Type 0} (old new : Sat D) : Type 0 where
  pub others : List Line
  pub front : seen old ++ others ≡ seen new
  pub apart : lines_of old.number others ≡ []

-- the seat is as it was, but for faults that it was told, and for what it has seen
pub record StaysIn {D : Type 0} (old new : Sat D) : Type 0 where
  pub same : IsSame old new
  pub rises : held old ≤ held new
  pub more : List (Device × ℕ)
  pub mine_is : mine new ≡ record (mine old) { faults = (mine old).faults ++ more }

-- What a seat that calls the desk has under its number, which is one of the store's; the lines that are kept for
-- workers, and whose what is open there is.
pub record HasOwn {D : Type 0} (who : Who) (tells : List (Device × ℕ) →
    Type 0) (side : DeskSide D) (mine : Holding Work) : Type 0 where
  pub parts : mine.parts ≡ PARTS
  pub one : who.session < side.start.seats.value
  pub number : mine.number ≡ who.session
  pub work : mine.work ≡ work_at (slots_of side) who.session
  pub kept : KeptIsTold mine.work mine.faults
  pub told : tells mine.faults
  pub workers : WorkersFit side.core.ledger
  pub of_seats : AreOfSeats side
  pub tried : AreTried side.core.ledger

module _ {D : Type 0} (is_honest : D → Type 0) (state : D → State) (faults : D → ℕ) where
  -- a call of the item may be made between entering the desk and leaving it, by a seat that was told so
  pub record IsVisit (who : Who) (tells : List (Device × ℕ) → Type 0) (old new : DeskSide D) : Type 0 where
    pub leaves : (most : ℕ) (mine : Holding Work) → HasOwn who tells old mine →
        IsLaterCore faults old.start.core.value old.core → old.core.desk.queue.first ≤ most
        → MayLeave (of_desk is_honest state faults) (of_start faults) most mine old new
    pub keeps : (mine : Holding Work) → HasOwn who tells old mine →
        let behind : Holding Work = behind_desk (of_desk is_honest state faults) old new mine in
        KeptIsTold behind.work behind.faults

  -- A call that tells nothing may be made so by any seat, or helper of one.
  abbrev pub IsGlance : DeskSide D → DeskSide D → Type 0
  IsGlance old new = (most : ℕ) (mine : Holding Work) → Keeps is_honest state faults old
      → old.core.desk.queue.first ≤ most
      → MayLeave (of_desk is_honest state faults) (of_start faults) most mine old new

  -- The archive as it was last left, beside a desk: both stand for one opening and one journal at that moment, the desk
  -- knows of no more captures than are held, and no fewer are held than the seat has seen.
  pub record ArchiveBeside (side : DeskSide D) (seen_held : ℕ) : Type 0 where
    pub archive : Running D
    pub stands : VaultStands is_honest state archive side.start (journal side)
    pub later : IsLaterArchive faults side.start.archive.value archive
    pub acked : side.core.desk.queue.first ≤ archive.side.held
    pub held : seen_held ≤ archive.side.held

  -- The desk as it was last left, beside an archive: both stand for this opening and one journal at that moment, which
  -- these lines begin, and the desk knows of no more captures than are held.
  pub record DeskSideBeside (archive : Running D) (start : Start D) (lines : List Line) : Type 0 where
    pub side : DeskSide D
    pub begun : side.start ≡ start
    pub stands : DeskStands is_honest state side
    pub keeps : Keeps is_honest state faults side
    pub begins : IsPrefix lines (journal side)
    pub vault : VaultStands is_honest state archive side.start (journal side)
    pub acked : side.core.desk.queue.first ≤ archive.side.held

  -- the seat has entered the desk, and found this
  pub record HasEntered (z : TableId) (old new : Sat D) (side : DeskSide D) : Type 0 where
    pub ready : IsReady z old
    pub inside : IsInDesk z new side
    pub same : IsSame old new
    pub mine_stays : mine new ≡ mine old
    pub rises : held old ≤ held new
    pub acked : side.core.desk.queue.first ≤ held new
    pub opening : opening old ≡ Some side.start
    pub stands : DeskStands is_honest state side
    pub keeps : Keeps is_honest state faults side
    pub front : IsPrefix (seen old) (journal side)
    pub lines : (mine old).lines ≡ lines_of old.number (journal side)
    pub work : (mine old).work ≡ work_at (slots_of side) old.number
    pub pages : side.core.desk.base.page_count ≡ (opened_base side.start).page_count
    pub beside : ArchiveBeside side (held new)

  -- the seat may leave this
  abbrev pub MayGiveBack : TableId → Sat D → DeskSide D → Type 0
  MayGiveBack z s side =
      (old : Sat D) × (before : DeskSide D) × HasEntered z old s before
      × MayLeave (of_desk is_honest state faults) (of_start faults) (held s) (mine old) before side

  -- A seat visited the desk, found it so, and left it so. Other seats' lines had come since what it had seen, none
  -- of its own number. Beside either stood the archive as it was last left when the seat entered, and when it left.
  pub record Visited (z : TableId) (old new : Sat D) (before after : DeskSide D) : Type 0 where
    pub ready : IsReady z new
    pub same : IsSame old new
    pub opening : opening old ≡ Some before.start
    pub start : after.start ≡ before.start
    pub stands : DeskStands is_honest state before
    pub keeps : Keeps is_honest state faults before
    pub stands_after : DeskStands is_honest state after
    pub others : List Line
    pub place : seen old ++ others ≡ journal before
    pub apart : lines_of old.number others ≡ []
    pub work : (mine old).work ≡ work_at (slots_of before) old.number
    pub seen : seen new ≡ journal after
    pub mine : mine new ≡ behind_desk (of_desk is_honest state faults) before after (mine old)
    pub rises : held old ≤ held new
    pub acked : before.core.desk.queue.first ≤ held new
    pub beside : ArchiveBeside before (held new)
    pub beside_after : ArchiveBeside after (held new)

  -- in such a visit the core did that
  pub record Visits (z : TableId) (Does : Core D → Core D → Type 0) (old new : Sat D) : Type 0 where
    pub before : DeskSide D
    pub after : DeskSide D
    pub visited : Visited z old new before after
    pub does : Does before.core after.core

  -- the seat has entered the vault, and found this
  pub record HasEnteredVault (z : TableId) (old new : Sat D) (archive : Running D) : Type 0 where
    pub ready : IsReady z old
    pub inside : IsInVault z new archive
    pub same : IsSame old new
    pub mine_stays : mine new ≡ mine old
    pub front : IsPrefix (seen old) (seen new)
    pub lines : (mine old).lines ≡ lines_of old.number (seen new)
    pub stands : (start : Start D) → opening old ≡ Some start → VaultStands is_honest state archive start (seen new)
    pub sound : (start : Start D) → opening old ≡ Some start → IsSound (opened_base start) (seen new)
    pub later : (start : Start D) → opening old ≡ Some start → IsLaterArchive faults start.archive.value archive
    pub held_is : held new ≡ archive.side.held
    pub rises : held old ≤ held new
    pub beside : (start : Start D) → opening old ≡ Some start →
        (near : DeskSideBeside archive start (seen new)) × (journal near.side ≡ seen new)

  -- the seat may leave this
  abbrev pub MayGiveBackVault : TableId → Sat D → Running D → Type 0
  MayGiveBackVault z s archive =
      (old : Sat D) × (before : Running D) × HasEnteredVault z old s before
      × MayLeaveVault (of_vault is_honest state faults) (opening s) (seen s) before archive

  -- A seat visited the vault, found it so, and left it so. It has then seen a journal for which both stand, with no
  -- more lines of its own: that of the desk as it was last left when the seat entered. Beside either stood the desk as
  -- it was last left when the seat entered, and when it left.
  pub record VisitedVault (z : TableId) (old new : Sat D) (before after : Running D) : Type 0 where
    pub ready : IsReady z new
    pub same : IsSame old new
    pub waits : Waits old new
    pub sound : (start : Start D) → opening old ≡ Some start → IsSound (opened_base start) (seen new)
    pub stands : (start : Start D) → opening old ≡ Some start → VaultStands is_honest state before start (seen new)
    pub stands_after : (start : Start D) → opening old ≡ Some start →
        VaultStands is_honest state after start (seen new)
    pub later : (start : Start D) → opening old ≡ Some start → IsLaterArchive faults start.archive.value before
    pub rises : held old ≤ held new
    pub held_is : held new ≡ after.side.held
    pub mine_is : mine new ≡ behind_vault (of_vault is_honest state faults) before after (mine old)
    pub beside : (start : Start D) → opening old ≡ Some start →
        (near : DeskSideBeside before start (seen new)) × (journal near.side ≡ seen new)
    pub beside_after : (start : Start D) → opening old ≡ Some start → DeskSideBeside after start (seen new)
