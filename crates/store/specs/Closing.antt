-- What a store that is closed leaves.
use Rattle.std.specs.Prelude.{◌≡◌, ◌≢◌, ◌<◌, ◌≤◌, ◌+◌, ◌⊎◌, ◌↔◌, ℕ, Bool, true, false, List}
use Rattle.std.specs.Prelude.{[], length, slice_get, None, Some, is_some, IfSome, Err}
use Rattle.std.specs.List.{AllByRecursion}
use mathlib.Core.List.{IsPrefix}
use Rattle.atomic_table.specs.Seated.{TableId}
use Rattle.disk_model.specs.Disk.{State}
use Rattle.disk_model.specs.Moments.{Clock}
use Rattle.retro_base.specs.declared.device.Device.{Device}
use Rattle.retro_base.specs.declared.limits.TheConstants.{SESSIONS}
use Rattle.retro_base.specs.declared.refusal.Refusal.{Refusal}
use Rattle.retro_base.specs.declared.refusal.Refusal.TheVariants.{OutOfMemory, Stopped}
use Rattle.history.specs.declared.journal.Line.{Line}
use Rattle.history.specs.Lines.{FaultsDiffer, base_of, first_stop, lines_of}
use Rattle.journal_book.specs.Works.{work_at}
use Rattle.journal_law.specs.Lawful.{IsCounted}
use Rattle.journal_law.specs.Seats.{View}
use Rattle.archive.specs.Archive.{Running}
use Rattle.opening.specs.Devices.{of_each}
use Rattle.turn.specs.Faults.{fault_lines}
use Rattle.turn.specs.Seats.{IsSame, held, mine, opening, seen, told_to}
use Rattle.store.specs.declared.closing.Closed.{Closed}
use Rattle.store.specs.declared.desk_side.DeskSide.{DeskSide}
use Rattle.store.specs.declared.pace.Worker.TheVariants.{Copier}
use Rattle.store.specs.declared.start.Start.{Start}
use Rattle.store.specs.Crashes.{CrashesMap, CrashesOpen}
use Rattle.store.specs.Opening.{IsHonestlyOpened, disks_of}
use Rattle.store.specs.Rounds.{Passes}
use Rattle.store.specs.Seats.{IsReady, IsWhole, Sat, journal, slots_of}
use Rattle.store.specs.Seen.{view_of}
use Rattle.store.specs.Sides.{DeskStands, VaultStands}
use Rattle.store.specs.Start.{IsAbove, Origin, opened_base, opened_counts}
use Rattle.store.specs.WorkerRounds.{CopierEnds, HasRun, IsFreshOrStopped, WorkerLeaves, worker}

-- each of these seats may call
abbrev pub AreReady : {D : Type 0} → TableId → List (Sat D) → Type 0
AreReady {D} z seats = (k : ℕ) (s : Sat D) → slice_get seats k ≡ Some s → IsReady z s × IsWhole s

-- what a seat has seen begins the journal, which has no more lines of its number
pub record IsSeenIn {D : Type 0} (side : DeskSide D) (s : Sat D) : Type 0 where
  pub front : IsPrefix (seen s) (journal side)
  pub lines : lines_of s.number (seen s) ≡ lines_of s.number (journal side)
  pub work : (mine s).work ≡ work_at (slots_of side) s.number

-- the archive holds captures up to the journal's last
abbrev pub IsCopied : {D : Type 0} → DeskSide D → Running D → Type 0
IsCopied side archive = archive.side.held ≡ (base_of (opened_base side.start) (journal side)).captures

-- The devices are those of a desk and a vault that stand for one opening and this journal. It has the lines of so
-- many seats, which have seen them, and no others, nor more held than is; no fault is told twice, and none above its
-- device's count. Whatever a crash leaves of the devices opens to the history behind the journal, or to it with the one
-- change in doubt; and where all is copied, its Maplog ends with the journal's last capture.
pub record Closes {D : Type 0} (is_honest : D → Type 0) (state : D → State) (faults : D → ℕ) (start : Start D)
    (limit : ℕ) (seats : List (Sat D)) (left : Closed D) : Type 0 where
  pub side : DeskSide D
  pub archive : Running D
  pub begun : side.start ≡ start
  pub stands : DeskStands is_honest state side
  pub vault : VaultStands is_honest state archive side.start (journal side)
  pub acked : side.core.desk.queue.first ≤ archive.side.held
  pub each : (k : ℕ) (s : Sat D) → slice_get seats k ≡ Some s → IsSeenIn side s
  pub known : (k : ℕ) (s : Sat D) → slice_get seats k ≡ Some s → held s ≤ archive.side.held
  pub foreign : (n : ℕ) → limit ≤ n → lines_of n (journal side) ≡ []
  pub differ : FaultsDiffer (journal side)
  pub counted : AllByRecursion (IsCounted (of_each faults left.disks)) (journal side)
  -- a fault that a line tells is of a device whose count rose to it since the opening, or stands at its last value
  pub risen : (device : Device) (count : ℕ) → 0 < fault_lines device count (journal side) →
      IsAbove faults start device count
  -- a device whose count rose has a fault that a line tells, or that a seat was told and has not told since
  pub heard : (device : Device) → opened_counts faults start device < of_each faults left.disks device →
      (count : ℕ) × (0 < fault_lines device count (journal side) + told_to device count seats)
  pub disks : left.disks ≡ disks_of side.core archive
  pub lines : left.journal ≡ journal side
  pub captures : left.captures ≡ (base_of (opened_base side.start) (journal side)).captures
  pub crashes : (origin : Origin) → IsHonestlyOpened is_honest state start origin →
      CrashesOpen state origin.log origin.history (journal side) left.disks
  pub maps : (origin : Origin) → IsHonestlyOpened is_honest state start origin → IsCopied side archive →
      CrashesMap state origin.log (base_of (opened_base side.start) (journal side)).captures left.disks

-- it is told whether all is copied
pub record ClosesTold {D : Type 0} (is_honest : D → Type 0) (state : D → State) (faults : D → ℕ) (start : Start D)
    (limit : ℕ) (seats : List (Sat D)) (left : Closed D) (copied : Bool) : Type 0 where
  pub closes : Closes is_honest state faults start limit seats left
  pub told : (copied ≡ true) ↔ IsCopied closes.side closes.archive

-- ---- a last copying

-- no seat of these is the copier's
abbrev pub HasNoCopier : {D : Type 0} → List (Sat D) → Type 0
HasNoCopier {D} seats = AllByRecursion (λ (s : Sat D). s.number ≢ SESSIONS) seats

-- at one of these seats that was done
pub record IsDoneAt {D : Type 0} (Does : Sat D → Sat D → Type 0) (old new : List (Sat D)) : Type 0 where
  pub place : ℕ
  pub before : Sat D
  pub after : Sat D
  pub was : slice_get old place ≡ Some before
  pub is : slice_get new place ≡ Some after
  pub does : Does before after

module _ {D : Type 0} (state : D → State) (faults : D → ℕ) where
  -- what a seat sees that has nothing open
  abbrev pub resting : Sat D → View
  resting s = view_of state faults None [] s

  -- at the copier's seat, if it is among these, a worker may run
  abbrev pub MayCopyLast : List (Sat D) → Type 0
  MayCopyLast seats = (k : ℕ) (s : Sat D) → slice_get seats k ≡ Some s → s.number ≡ SESSIONS →
      ((mine s).work ≡ None) × IsFreshOrStopped (resting s)

module _ {D : Type 0} (is_honest : D → Type 0) (state : D → State) (faults : D → ℕ) (z : TableId) (remembers : Type 0)
    (clock : D → Clock) where
  -- the copier has run at this seat in a phase, which is its own, unless the store had stopped
  pub record HasCopiedAt (phase : ℕ) (old new : Sat D) : Type 0 where
    pub same : IsSame old new
    pub number : old.number ≡ SESSIONS
    pub leaves : WorkerLeaves (worker phase old.number) (resting state faults old) (resting state faults new)
    pub works : HasRun is_honest state faults z remembers clock phase Copier old new

  -- These seats are as they were, but that the copier has run at its own, if it is among them.
  pub record HaveCopied (phase : ℕ) (old new : List (Sat D)) : Type 0 where
    pub count : length new ≡ length old
    pub each : (k : ℕ) (s : Sat D) → slice_get old k ≡ Some s →
        (t : Sat D) × (slice_get new k ≡ Some t) × ((t ≡ s) ⊎ HasCopiedAt phase s t)
    pub runs : HasNoCopier old ⊎ IsDoneAt (HasCopiedAt phase) old new

  -- The copier ran at its seat, where the store had not stopped, and its rounds were refused so.
  pub record IsRefusedAt (phase : ℕ) (why : Refusal) (old new : Sat D) : Type 0 where
    pub asked : Sat D
    pub asks : Passes z old asked
    pub goes : is_some (first_stop (seen asked)) ≡ false
    pub flag : ℕ
    pub ends : CopierEnds is_honest state faults z remembers clock (worker phase old.number) flag (Err why) asked new

  -- Why captures may be in the log alone: no seat of these is the copier's; the journal tells a fault of a write or a
  -- sync; or the copier's rounds were refused for want of memory, or because the archive had stopped.
  pub data IsPending (phase : ℕ) (old new : List (Sat D)) (lines : List Line) : Type 0 where
    NoCopier : HasNoCopier old → IsPending phase old new lines
    HasStopped : is_some (first_stop lines) ≡ true → IsPending phase old new lines
    NoMemory : IsDoneAt (IsRefusedAt phase OutOfMemory) old new → IsPending phase old new lines
    ArchiveStopped : (device : Device) (count : ℕ) → IsDoneAt (IsRefusedAt phase (Stopped device count)) old new →
        IsPending phase old new lines

-- The seats are one of each number below the limit, of one opening, and the copier's has seen what each of them has.
pub record HaveMet {D : Type 0} (start : Start D) (limit : ℕ) (seats : List (Sat D)) : Type 0 where
  pub each : (number : ℕ) → number < limit →
      (k : ℕ) × (s : Sat D) × (slice_get seats k ≡ Some s) × (s.number ≡ number)
  pub began : (k : ℕ) (s : Sat D) → slice_get seats k ≡ Some s →
      IfSome (opening s) (λ own. opened_base own ≡ opened_base start)
  pub seen : (k j : ℕ) (s t : Sat D) → slice_get seats k ≡ Some s → slice_get seats j ≡ Some t →
      s.number ≡ SESSIONS → IsPrefix (seen t) (seen s)

-- The copier has run once more, in that phase, and then the store was closed. Where the seats had met, not all is
-- copied only for such a cause.
pub record ClosesCopied {D : Type 0} (is_honest : D → Type 0) (state : D → State) (faults : D → ℕ) (z : TableId)
    (remembers : Type 0) (clock : D → Clock) (start : Start D) (limit phase : ℕ) (seats : List (Sat D))
    (left : Closed D) (copied : Bool) : Type 0 where
  pub last : List (Sat D)
  pub worked : HaveCopied is_honest state faults z remembers clock phase seats last
  pub ends : ClosesTold is_honest state faults start limit last left copied
  pub pending : copied ≡ false → HaveMet start limit seats →
      IsPending is_honest state faults z remembers clock phase seats last left.journal
