-- What a session has to know of a line of each kind, so that it fits.
use Rattle.std.specs.Prelude.{◌≡◌, ◌⊎◌, ◌<◌, ◌-◌, ◌^◌, ℕ, true, false, List, []}
use Rattle.std.specs.Prelude.{Option, Some, None, is_some, Result, Ok, Err}
use Rattle.retro_base.specs.declared.device.Device.{Device}
use Rattle.retro_base.specs.declared.refusal.Refusal.{Refusal}
use Rattle.retro_base.specs.declared.refusal.Refusal.TheVariants.{OutOfMemory}
use Rattle.retro_base.specs.declared.who.Who.{Who}
use Rattle.history.specs.declared.entry.Change.TheVariants as change
use Rattle.history.specs.declared.journal.FailedCall.{FailedCall}
use Rattle.history.specs.declared.journal.FailedCall.TheVariants.{Append, Read}
use Rattle.history.specs.declared.journal.Line.{Line}
use Rattle.history.specs.declared.journal.What.{What}
use Rattle.history.specs.declared.journal.What.TheVariants.{Began, Done, Overlapped, RolledBack, Looked}
use Rattle.history.specs.declared.journal.What.TheVariants.{LookedAll, Unlooked, Dropped, Refused, Fault}
use Rattle.history.specs.declared.writes.PageImage.{PageImage}
use Rattle.history.specs.History.{written}
use Rattle.history.specs.Lines.{first_stop}
use Rattle.journal_law.specs.Facts.{Fits}
use Rattle.journal_law.specs.Language.{AsOf, Commit, DropBelow, End, Kind, Language}
use Rattle.journal_law.specs.Language.{OverAll, Rollback, Transaction, answer}
use Rattle.journal_law.specs.Lawful.{AtDrop, DropRefused, Ground, IsLimit, IsOverlapBy, IsWorker, MayDrop, at_drop}
use Rattle.journal_law.specs.Own.{SinceLine, is_looking, line}
use Rattle.journal_law.specs.Pages.{Pages, page_world}
use Rattle.journal_law.specs.Shows.{Shows}
use Rattle.journal_law.specs.World.{World, as_of}

-- a look at one snapshot, or at all
pub data LookAt : Type 0 where
  At : ℕ → LookAt
  All : LookAt

abbrev pub kind_at : LookAt → Kind
kind_at (At n) = AsOf n
kind_at All = OverAll

abbrev pub opened_by : LookAt → What
opened_by (At n) = Looked n
opened_by All = LookedAll

-- the fault's count is above the device's at the opening
abbrev pub IsAbove : Ground → Device → ℕ → Type 0
IsAbove ground device count = count < 2 ^ 64 - 1 → ground.faults device < count

-- the answer of a look in whatever tables the pages held at its line
abbrev pub Answers : (L : Language) → Ground → L.Item → List Line → Result (List ℕ) Refusal → Type 0
Answers L ground item since answered = (w : World L.Tables) → Shows L (page_world ground.pages since) w
    → answer L item w ≡ answered

-- What a failed call leaves in doubt of a transaction that ends so, whatever tables the pages hold: its own commit, or
-- nothing.
abbrev pub LeavesCommit : (L : Language) → Pages → L.Item → End → FailedCall → Type 0
LeavesCommit L pages item (Commit given) (Append (change.Commit label writes)) =
    (label ≡ given)
    × ((tables : L.Tables) → L.IsStored pages tables → L.IsStored (written pages writes) (L.after item tables))
LeavesCommit L pages item end (Append change) = ⊥
LeavesCommit L pages item end call = Unit {0}

-- of a drop: itself, where it may be, or nothing
abbrev pub LeavesDrop : AtDrop → ℕ → FailedCall → Type 0
LeavesDrop at below (Append (change.Drop number)) = (number ≡ below) × MayDrop at below
LeavesDrop at below (Append change) = ⊥
LeavesDrop at below call = Unit {0}

abbrev pub LeavesNone : FailedCall → Type 0
LeavesNone (Append change) = ⊥
LeavesNone call = Unit {0}

-- for each item and each place
abbrev pub AtEachItem : (L : Language) → ((Who → Option L.Item) → Ground → List Line → Who → L.Item → Type 0) → Type 0
AtEachItem L P = (items : Who → Option L.Item) (ground : Ground) (before : List Line) (who : Who) (item : L.Item)
    → items who ≡ Some item → P items ground before who item

-- a transaction's lines
pub record TransactionsFit (L : Language) : Type 0 where
  pub began : AtEachItem L
      (λ items ground before who item. (end : End) → L.kind item ≡ Transaction end
      → Fits L items ground before (line who Began))
  -- it names an item of another session, which has had an attempt open since its own began
  pub overlapped : AtEachItem L
      (λ items ground before who item. (end : End) → L.kind item ≡ Transaction end → (session number : ℕ)
      → IsOverlapBy who before session number → Fits L items ground before (line who (Overlapped session number)))
  -- it met the limit
  pub refused : AtEachItem L
      (λ items ground before who item. (end : End) → L.kind item ≡ Transaction end → (since rest : List Line)
      → SinceLine who Began before since rest
      → (why : Refusal) → IsLimit L ground who before item end why
      → Fits L items ground before (line who (Refused why)))
  pub failed : AtEachItem L
      (λ items ground before who item. (end : End) → L.kind item ≡ Transaction end → (since rest : List Line)
      → SinceLine who Began before since rest
      → (device : Device) (count : ℕ) (call : FailedCall) → IsAbove ground device count
      → LeavesCommit L (page_world ground.pages before).current item end call
      → Fits L items ground before (line who (Fault device count call)))
  pub rolled_back : AtEachItem L
      (λ items ground before who item. L.kind item ≡ Transaction Rollback
      → Fits L items ground before (line who RolledBack))
  -- the writes make of pages that hold tables pages that hold the tables behind the statements; behind a stop nothing
  -- is committed
  pub done : AtEachItem L
      (λ items ground before who item. (label : Option (List ℕ)) (writes : List PageImage)
      → L.kind item ≡ Transaction (Commit label)
      → ((tables : L.Tables) → L.IsStored (page_world ground.pages before).current tables
      → L.IsStored (written (page_world ground.pages before).current writes) (L.after item tables))
      → (is_some (first_stop before) ≡ true → (label ≡ None) × (writes ≡ []))
      → Fits L items ground before (line who (Done label writes)))

-- a look's lines
pub record LooksFit (L : Language) : Type 0 where
  pub looked : AtEachItem L
      (λ items ground before who item. (n : ℕ) (held : Pages) → L.kind item ≡ AsOf n
      → as_of n (page_world ground.pages before) ≡ Ok held → Fits L items ground before (line who (Looked n)))
  pub looked_all : AtEachItem L
      (λ items ground before who item. L.kind item ≡ OverAll → Fits L items ground before (line who LookedAll))
  -- refused alone, by its number
  pub refused : AtEachItem L
      (λ items ground before who item. (n : ℕ) (why : Refusal) → L.kind item ≡ AsOf n → is_looking who before ≡ false
      → as_of n (page_world ground.pages before) ≡ Err why
      → Fits L items ground before (line who (Refused why)))
  -- it has an answer
  pub unlooked : AtEachItem L
      (λ items ground before who item. (look : LookAt) → L.kind item ≡ kind_at look → (since rest : List Line)
      → SinceLine who (opened_by look) before since rest
      → (text : List ℕ) → Answers L ground item since (Ok text) → Fits L items ground before (line who Unlooked))
  -- it has this refusal in place of one, or memory is wanting
  pub unanswered : AtEachItem L
      (λ items ground before who item. (look : LookAt) → L.kind item ≡ kind_at look → (since rest : List Line)
      → SinceLine who (opened_by look) before since rest
      → (why : Refusal) → (why ≡ OutOfMemory) ⊎ Answers L ground item since (Err why)
      → Fits L items ground before (line who (Refused why)))
  pub failed : AtEachItem L
      (λ items ground before who item. (look : LookAt) → L.kind item ≡ kind_at look → (device : Device) (count : ℕ)
      → IsAbove ground device count
      → Fits L items ground before (line who (Fault device count Read)))
  -- the answer at one snapshot is that over the tables which the snapshot's pages hold
  pub as_of : AtEachItem L
      (λ items ground before who item. (n : ℕ) (since : List Line) (held : Pages) (answered : Result (List ℕ) Refusal)
      → L.kind item ≡ AsOf n → as_of n (page_world ground.pages since) ≡ Ok held
      → ((tables : L.Tables) → L.IsStored held tables → L.asks item tables ≡ answered)
      → Answers L ground item since answered)
  pub over_all : AtEachItem L
      (λ items ground before who item. (since : List Line) (answered : Result (List ℕ) Refusal) → L.kind item ≡ OverAll
      → ((w : World L.Tables) → Shows L (page_world ground.pages since) w → L.asks_all item w ≡ answered)
      → Answers L ground item since answered)

-- a drop's lines, by what it meets at its place
pub record DropsFit (L : Language) : Type 0 where
  pub dropped : AtEachItem L
      (λ items ground before who item. (below : ℕ) → L.kind item ≡ DropBelow below
      → MayDrop (at_drop ground.pages (page_world ground.pages before) before) below
      → Fits L items ground before (line who (Dropped below)))
  pub refused : AtEachItem L
      (λ items ground before who item. (below : ℕ) → L.kind item ≡ DropBelow below → (why : Refusal)
      → DropRefused (at_drop ground.pages (page_world ground.pages before) before) below why
      → Fits L items ground before (line who (Refused why)))
  pub failed : AtEachItem L
      (λ items ground before who item. (below : ℕ) → L.kind item ≡ DropBelow below
      → (device : Device) (count : ℕ) (call : FailedCall) → is_looking who before ≡ false → IsAbove ground device count
      → LeavesDrop (at_drop ground.pages (page_world ground.pages before) before) below call
      → Fits L items ground before (line who (Fault device count call)))

-- a line of each kind fits
pub record LinesFit (L : Language) : Type 0 where
  pub transactions : TransactionsFit L
  pub looks : LooksFit L
  pub drops : DropsFit L
  pub workers : (items : Who → Option L.Item) (ground : Ground) (before : List Line) (who : Who) (device : Device)
      (count : ℕ) (call : FailedCall)
      → items who ≡ None → IsWorker who → is_looking who before ≡ false → IsAbove ground device count → LeavesNone call
      → Fits L items ground before (line who (Fault device count call))
