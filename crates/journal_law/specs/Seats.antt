-- The store as one seat sees it: what it has seen of the journal, and the transaction or look that it has open. Between
-- two calls other sessions may have added lines.
use Rattle.std.specs.Prelude.{◌≡◌, ◌⊎◌, ◌<◌, ◌≤◌, ◌+◌, ◌-◌, ◌^◌, ◌++◌, ℕ, Bool, true, false, List, [], ◌∷◌}
use Rattle.std.specs.Prelude.{length, map, Option, Some, None, is_some, Result, Ok, Err, IsTrue, Contains}
use Rattle.retro_base.specs.declared.device.Device.{Device}
use Rattle.retro_base.specs.declared.limits.TheConstants.{EDITED_PAGES, JOURNAL_LINES, WORKER_LINES}
use Rattle.retro_base.specs.declared.refusal.Refusal.{Refusal}
use Rattle.retro_base.specs.declared.refusal.Refusal.TheVariants as refusal
use Rattle.retro_base.specs.declared.who.Who.{Who}
use Rattle.history.specs.declared.entry.Mark.{Mark as MarkOf}
use Rattle.history.specs.declared.entry.Change.TheVariants as change
use Rattle.history.specs.declared.journal.FailedCall.TheVariants.{Append, Read, Write}
use Rattle.history.specs.declared.journal.Line.{Line}
use Rattle.history.specs.declared.journal.What.{What}
use Rattle.history.specs.declared.journal.What.TheVariants.{Began, Done, Overlapped, RolledBack, Looked}
use Rattle.history.specs.declared.journal.What.TheVariants.{LookedAll, Unlooked, Dropped, Refused, Fault}
use Rattle.history.specs.declared.writes.PageImage.{PageImage}
use Rattle.history.specs.History.{with_write, written}
use Rattle.history.specs.Lines.{base_of, first_stop, images_in}
use Rattle.history.specs.Writes.{is_among, pages_of, rises}
use Rattle.journal_law.specs.Facts.{AreOthers}
use Rattle.journal_law.specs.Lawful.{DropRefused, Ground, IsCommitRefused, IsOverlapBy, MayDrop, at_drop}
use Rattle.journal_law.specs.Own.{line}
use Rattle.journal_law.specs.Pages.{Pages, page_world}
use Rattle.journal_law.specs.World.{World, as_of, newest}
use Rattle.journal_law.specs.declared.seat.Ending.{Ending}
use Rattle.journal_law.specs.declared.seat.Ending.TheVariants as ending
use Rattle.journal_law.specs.declared.seat.ToldFault.{ToldFault}

-- An open attempt: the lines before its Began, pages among which are all that it read of the store, its edits, and the
-- refusal that it keeps.
pub record Attempt : Type 0 where
  pub who : Who
  pub since : List Line
  pub read : List ℕ
  pub edits : List PageImage
  pub kept : Option Refusal

-- an open look: the lines before its own, and the one snapshot that it looks at, or none where it looks at all
pub record Look : Type 0 where
  pub who : Who
  pub since : List Line
  pub snapshot : Option ℕ

pub data Work : Type 0 where
  Idle : Work
  Open : Attempt → Work
  Looking : Look → Work

abbrev pub is_open : Work → Bool
is_open (Open attempt) = true
is_open work = false

abbrev pub is_looking : Work → Bool
is_looking (Looking look) = true
is_looking work = false

-- what a seat sees; it was told of these faults since its last line
pub record View : Type 0 where
  pub session : ℕ
  pub opened : Ground
  pub front : List Line
  pub work : Work
  pub told : List ToldFault

abbrev pub one : Who → What → List Line
one who what = line who what ∷ []

-- the front grows by lines of other sessions, and then by these
pub record Moves (old new : View) (own : List Line) : Type 0 where
  pub session : new.session ≡ old.session
  pub opened : new.opened ≡ old.opened
  pub others : List Line
  pub apart : AreOthers old.session others
  pub front : new.front ≡ (old.front ++ others) ++ own

-- only others have added lines, and this is the work now
pub record Waits (old new : View) (work : Work) : Type 0 where
  pub moves : Moves old new []
  pub work_is : new.work ≡ work
  pub told_is : new.told ≡ old.told

-- it added this line, and this is the work now
pub record Adds (old new : View) (who : Who) (what : What) (work : Work) : Type 0 where
  pub moves : Moves old new (one who what)
  pub work_is : new.work ≡ work
  pub told_is : new.told ≡ []

-- the lines before the seat's own last one
abbrev pub lines_before : {own : List Line} → (old new : View) → Moves old new own → List Line
lines_before old new moves = old.front ++ moves.others

-- the pages and the snapshots at the place of that line
abbrev pub place : {own : List Line} → (old new : View) → Moves old new own → World Pages
place old new moves = page_world old.opened.pages (lines_before old new moves)

-- the pages at the attempt's Began
abbrev pub at_began : View → Attempt → Pages
at_began view attempt = (page_world view.opened.pages attempt.since).current

-- the snapshots and their pages at the look's line
abbrev pub at_look : View → Look → World Pages
at_look view look = page_world view.opened.pages look.since

-- the fault's count is above the device's at the opening
abbrev pub IsNew : View → Device → ℕ → Type 0
IsNew view device count = count < 2 ^ 64 - 1 → view.opened.faults device < count

-- ---- room

-- What a call that needs so many lines tells where these leave it no room: how many they are, with those that are kept
-- for what seats have open, at most one each, and its own; and how many page images they have.
pub record NeedsLines (seats : ℕ) (front : List Line) (more lines images : ℕ) : Type 0 where
  pub kept : ℕ
  pub one_each : kept ≤ seats
  pub sum : lines ≡ length front + kept + more
  pub images_are : images ≡ images_in front

-- a call that is refused for room tells what it needs behind what the seat has seen
abbrev pub TellsNeed : {T : Type 0} → ℕ → ℕ → View → Result T Refusal → Type 0
TellsNeed seats more new (Err (refusal.JournalFull lines images)) = NeedsLines seats new.front more lines images
TellsNeed seats more new result = Unit {0}

-- a drop, what it needed at some place on the way there
abbrev pub TellsDropNeed : ℕ → View → View → Result (Unit {0}) Refusal → Type 0
TellsDropNeed seats old new (Err (refusal.JournalFull lines images)) =
    (others : List Line) × (later : List Line) × (new.front ≡ (old.front ++ others) ++ later)
    × NeedsLines seats (old.front ++ others) 1 lines images
TellsDropNeed seats old new result = Unit {0}

-- ---- begin

abbrev pub BeginGives : Who → View → View → Result (Unit {0}) Refusal → Type 0
BeginGives who old new (Ok u) =
    (since : List Line)
    × Adds old new who Began (Open (record { who = who; since = since; read = []; edits = []; kept = None }))
    × (new.front ≡ since ++ one who Began)
BeginGives who old new (Err (refusal.JournalFull lines images)) =
    Waits old new old.work × (JOURNAL_LINES - WORKER_LINES < lines)
BeginGives who old new (Err why) = Waits old new old.work × (why ≡ refusal.OutOfMemory)

-- ---- what an attempt keeps

-- what a transaction keeps of a refusal
abbrev pub keeps : Refusal → Option Refusal → Option Refusal
keeps (refusal.Overlap session item) kept = Some (refusal.Overlap session item)
keeps (refusal.DiskFault device count) kept = Some (refusal.DiskFault device count)
keeps (refusal.TooManyPages needed) kept = Some (refusal.TooManyPages needed)
keeps why kept = kept

-- what may be kept
abbrev pub may_keep : Option Refusal → Bool
may_keep None = true
may_keep (Some (refusal.Overlap session item)) = true
may_keep (Some (refusal.DiskFault device count)) = true
may_keep (Some (refusal.TooManyPages needed)) = true
may_keep (Some why) = false

-- what is known where a read, an edit or a commit is refused so for the first time
abbrev pub IsWhy : View → Attempt → Refusal → Type 0
IsWhy new a (refusal.Overlap session item) = IsOverlapBy a.who new.front session item
IsWhy new a (refusal.DiskFault device count) = IsNew new device count
IsWhy new a why = Unit {0}

-- it is the refusal that was kept, or a new one
abbrev pub IsKeptOrWhy : View → Attempt → Refusal → Type 0
IsKeptOrWhy new a why = (a.kept ≡ Some why) ⊎ IsWhy new a why

-- ---- read and edit

-- these pages are among the others, and so is this one
pub record AlsoReads (old : List ℕ) (page : ℕ) (new : List ℕ) : Type 0 where
  pub here : is_among page new ≡ true
  pub before : (other : ℕ) → is_among other old ≡ true → is_among other new ≡ true

-- a read gives, where the store's devices are honest, the page as at the attempt's Began, under its own edits
abbrev pub ReadGives : Type 0 → ℕ → List ℕ → View → View → Attempt → Result (Unit {0}) Refusal → Type 0
ReadGives honest page out old new a (Ok u) =
    (read : List ℕ) × Waits old new (Open (record a { read = read })) × AlsoReads a.read page read
    × (honest → out ≡ written (at_began old a) a.edits page)
ReadGives honest page out old new a (Err (refusal.Overlap session item)) =
    Waits old new (Open (record a { kept = Some (refusal.Overlap session item) }))
    × IsKeptOrWhy new a (refusal.Overlap session item)
ReadGives honest page out old new a (Err (refusal.DiskFault device count)) =
    Waits old new (Open (record a { kept = Some (refusal.DiskFault device count) }))
    × IsKeptOrWhy new a (refusal.DiskFault device count)
ReadGives honest page out old new a (Err (refusal.TooManyPages needed)) =
    Waits old new (Open a) × (a.kept ≡ Some (refusal.TooManyPages needed))
ReadGives honest page out old new a (Err why) = Waits old new (Open a) × (why ≡ refusal.OutOfMemory)

-- edits that write like the old ones and then this one, in rising page
pub record AlsoEdits (old : List PageImage) (page : ℕ) (bytes : List ℕ) (new : List PageImage) : Type 0 where
  pub writes : (base : Pages) (other : ℕ)
      → written base new other ≡ with_write (written base old) (record { page = page; bytes = bytes }) other
  pub rise : IsTrue (rises 0 (pages_of new))
  pub only : (other : ℕ) → is_among other (pages_of new) ≡ true
      → (other ≡ page) ⊎ (is_among other (pages_of old) ≡ true)

-- an edit is added, or refused; the 1,025th page is refused as such
abbrev pub EditGives : ℕ → List ℕ → View → View → Attempt → Result (Unit {0}) Refusal → Type 0
EditGives page bytes old new a (Ok u) =
    (edits : List PageImage) × Waits old new (Open (record a { edits = edits })) × AlsoEdits a.edits page bytes edits
EditGives page bytes old new a (Err (refusal.Overlap session item)) =
    Waits old new (Open (record a { kept = Some (refusal.Overlap session item) }))
    × IsKeptOrWhy new a (refusal.Overlap session item)
EditGives page bytes old new a (Err (refusal.DiskFault device count)) =
    Waits old new (Open (record a { kept = Some (refusal.DiskFault device count) }))
    × IsKeptOrWhy new a (refusal.DiskFault device count)
EditGives page bytes old new a (Err (refusal.TooManyPages needed)) =
    Waits old new (Open (record a { kept = Some (refusal.TooManyPages needed) }))
    × ((a.kept ≡ Some (refusal.TooManyPages needed))
    ⊎ ((needed ≡ EDITED_PAGES + 1) × (length a.edits ≡ EDITED_PAGES) × (is_among page (pages_of a.edits) ≡ false)))
EditGives page bytes old new a (Err why) = Waits old new (Open a) × (why ≡ refusal.OutOfMemory)

-- ---- commit

-- these pages are the same
abbrev pub Agree : List ℕ → Pages → Pages → Type 0
Agree pages this that = (page : ℕ) → is_among page pages ≡ true → this page ≡ that page

abbrev pub number_of : Option (List ℕ) → World Pages → Option ℕ
number_of None before = None
number_of (Some label) before = Some (newest before + 1)

-- A commit is done: just before its line each page that was read is as at Began.
pub record CommitEnds (old new : View) (a : Attempt) (what : What) : Type 0 where
  pub adds : Adds old new a.who what Idle
  pub agree : Agree a.read (place old new adds.moves).current (at_began old a)

-- it is refused by the store's state there, and nothing changes
pub record CommitWaits (old new : View) (a : Attempt) (label : Option (List ℕ)) (why : Refusal) : Type 0 where
  pub waits : Waits old new (Open a)
  pub is : IsCommitRefused (base_of new.opened.base new.front) new.front label a.edits why

-- A fault while room was made for a commit ends the attempt, whatever has become of the pages that it read; so does one
-- of its own write, which leaves the commit in doubt: just before its line each page that was read is as at Began.
abbrev pub FailsCommit : Option (List ℕ) → View → View → Attempt → Device → ℕ → Type 0
FailsCommit label old new a device count =
    Adds old new a.who (Fault device count Write) Idle
    ⊎ CommitEnds old new a (Fault device count (Append (change.Commit label a.edits)))

-- A commit writes exactly the edits, and gives the number of the snapshot that it declares; behind a stop it commits
-- nothing. A fault ends the attempt with its line.
abbrev pub CommitGives : Option (List ℕ) → View → View → Attempt → Result (Option ℕ) Refusal → Type 0
CommitGives label old new a (Ok number) =
    (ends : CommitEnds old new a (Done label a.edits)) × (number ≡ number_of label (place old new ends.adds.moves))
    × (is_some (first_stop (lines_before old new ends.adds.moves)) ≡ true → (label ≡ None) × (a.edits ≡ []))
CommitGives label old new a (Err (refusal.DiskFault device count)) =
    ((a.kept ≡ Some (refusal.DiskFault device count)) × Waits old new (Open a))
    ⊎ (FailsCommit label old new a device count × IsNew new device count)
CommitGives label old new a (Err (refusal.Overlap session item)) =
    Waits old new (Open (record a { kept = Some (refusal.Overlap session item) }))
    × IsKeptOrWhy new a (refusal.Overlap session item)
CommitGives label old new a (Err (refusal.TooManyPages needed)) =
    Waits old new (Open a) × (a.kept ≡ Some (refusal.TooManyPages needed))
CommitGives label old new a (Err (refusal.Stopped device count)) =
    Waits old new (Open a) × (first_stop new.front ≡ Some (record { device = device; count = count }))
    × ((is_some label ≡ true) ⊎ (0 < length a.edits))
CommitGives label old new a (Err (refusal.JournalFull lines images)) =
    CommitWaits old new a label (refusal.JournalFull lines images)
CommitGives label old new a (Err (refusal.SnapshotsFull retained)) =
    CommitWaits old new a label (refusal.SnapshotsFull retained)
CommitGives label old new a (Err (refusal.ArchiveFull needed room)) =
    CommitWaits old new a label (refusal.ArchiveFull needed room)
CommitGives label old new a (Err why) = Waits old new (Open a) × (why ≡ refusal.OutOfMemory)

-- ---- rollback

-- the line that ends an attempt: its kept refusal goes before what is asked
abbrev pub closing : Option Refusal → Ending → What
closing (Some (refusal.Overlap session item)) why = Overlapped session item
closing (Some (refusal.DiskFault device count)) why = Fault device count Read
closing (Some kept) why = Refused kept
closing None ending.Asked = RolledBack
closing None (ending.Refused why) = Refused why
closing None (ending.Failed device count) = Fault device count Read

-- a fault is given as an end only where the seat was told of it, and no overlap is
abbrev pub MayEnd : View → Ending → Type 0
MayEnd view ending.Asked = Unit {0}
MayEnd view (ending.Refused (refusal.Overlap session item)) = ⊥
MayEnd view (ending.Refused why) = Unit {0}
MayEnd view (ending.Failed device count) = Contains view.told (record { device = device; count = count })

abbrev pub RollbackGives : Ending → View → View → Attempt → Type 0
RollbackGives why old new a = Adds old new a.who (closing a.kept why) Idle

-- ---- looks

abbrev pub LookGives : Who → ℕ → View → View → Result (Unit {0}) Refusal → Type 0
LookGives who n old new (Ok u) =
    (since : List Line) × Adds old new who (Looked n) (Looking (record { who = who; since = since; snapshot = Some n }))
    × (new.front ≡ since ++ one who (Looked n))
    × ((held : Pages) × (as_of n (page_world old.opened.pages since) ≡ Ok held)) × (n < 2 ^ 32)
LookGives who n old new (Err (refusal.JournalFull lines images)) =
    Waits old new old.work × (JOURNAL_LINES - WORKER_LINES < lines)
LookGives who n old new (Err refusal.OutOfMemory) = Waits old new old.work
LookGives who n old new (Err why) =
    (adds : Adds old new who (Refused why) Idle) × (as_of n (place old new adds.moves) ≡ Err why)

-- the numbers and labels of snapshots
pub record Name : Type 0 where
  pub number : ℕ
  pub label : List ℕ

abbrev pub names_of : List MarkOf → List Name
names_of marks = map (λ mark. record { number = mark.number; label = mark.label }) marks

abbrev pub names_in : World Pages → List Name
names_in world = map (λ mark. record { number = mark.number; label = mark.label }) world.marks

abbrev pub LookAllGives : Who → View → View → Result (List MarkOf) Refusal → Type 0
LookAllGives who old new (Ok marks) =
    (since : List Line) × Adds old new who LookedAll (Looking (record { who = who; since = since; snapshot = None }))
    × (new.front ≡ since ++ one who LookedAll) × (names_of marks ≡ names_in (page_world old.opened.pages since))
    × (rises 1 (map (λ mark. mark.number) marks) ≡ true)
LookAllGives who old new (Err (refusal.JournalFull lines images)) =
    Waits old new old.work × (JOURNAL_LINES - WORKER_LINES < lines)
LookAllGives who old new (Err why) = Waits old new old.work × (why ≡ refusal.OutOfMemory)

-- the look pins the snapshot
abbrev pub Pins : View → Look → ℕ → Type 0
Pins view look n =
    ((look.snapshot ≡ Some n) ⊎ (look.snapshot ≡ None)) × ((held : Pages) × (as_of n (at_look view look) ≡ Ok held))

-- a page as of a snapshot that the look pins, where the devices are honest; it may tell of a fault
abbrev pub PastGives : Type 0 → ℕ → ℕ → List ℕ → View → View → Look → Result (Unit {0}) Refusal → Type 0
PastGives honest n page out old new l (Ok u) =
    Waits old new (Looking l) × (honest → (held : Pages) → as_of n (at_look old l) ≡ Ok held → out ≡ held page)
PastGives honest n page out old new l (Err (refusal.DiskFault device count)) =
    Moves old new [] × (new.work ≡ Looking l) × (new.told ≡ record { device = device; count = count } ∷ old.told)
    × IsNew new device count
PastGives honest n page out old new l (Err why) = Waits old new (Looking l) × (why ≡ refusal.OutOfMemory)

abbrev pub unlooking : Ending → What
unlooking ending.Asked = Unlooked
unlooking (ending.Refused why) = Refused why
unlooking (ending.Failed device count) = Fault device count Read

abbrev pub UnlookGives : Ending → View → View → Look → Type 0
UnlookGives why old new l = Adds old new l.who (unlooking why) Idle

-- ---- drops

-- what a drop meets at the place of its line
abbrev pub MayDropThere : {own : List Line} → (old new : View) → Moves old new own → ℕ → Type 0
MayDropThere old new moves below =
    MayDrop (at_drop old.opened.pages (place old new moves) (lines_before old new moves)) below

abbrev pub DropRefusedThere : {own : List Line} → (old new : View) → Moves old new own → ℕ → Refusal → Type 0
DropRefusedThere old new moves below why =
    DropRefused (at_drop old.opened.pages (place old new moves) (lines_before old new moves)) below why

-- A fault while room was made for it ends a drop; so does one of its own write, which leaves it in doubt where it may
-- be.
abbrev pub FailsDrop : Who → ℕ → View → View → Device → ℕ → Type 0
FailsDrop who below old new device count =
    Adds old new who (Fault device count Write) Idle
    ⊎ ((adds : Adds old new who (Fault device count (Append (change.Drop below))) Idle)
    × MayDropThere old new adds.moves below)

abbrev pub DropGives : Who → ℕ → View → View → Result (Unit {0}) Refusal → Type 0
DropGives who below old new (Ok u) =
    (adds : Adds old new who (Dropped below) Idle) × MayDropThere old new adds.moves below
DropGives who below old new (Err (refusal.DiskFault device count)) =
    FailsDrop who below old new device count × IsNew new device count
DropGives who below old new (Err (refusal.JournalFull lines images)) =
    Waits old new old.work × (JOURNAL_LINES - WORKER_LINES < lines)
DropGives who below old new (Err refusal.OutOfMemory) = Waits old new old.work
DropGives who below old new (Err why) =
    (adds : Adds old new who (Refused why) Idle) × DropRefusedThere old new adds.moves below why
