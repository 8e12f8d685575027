-- The journals that a run of these items may leave: eight rules.
use Rattle.std.specs.Prelude.{◌≡◌, ◌≢◌, ◌⊎◌, ◌≤◌, ◌<◌, ◌+◌, ◌*◌, ◌-◌, ◌^◌, ◌++◌, ℕ, Bool, true, false}
use Rattle.std.specs.Prelude.{◌||◌, List, [], ◌∷◌, length, Option, Some, None, is_some, IsTrue, Ok, Err}
use Rattle.std.specs.List.{AllByRecursion}
use Rattle.retro_base.specs.declared.device.Device.{Device}
use Rattle.retro_base.specs.declared.limits.TheConstants.{ATTEMPTS, EDITED_PAGES, JOURNAL_IMAGES}
use Rattle.retro_base.specs.declared.limits.TheConstants.{MAX_CAPTURES, RETAINED_SNAPSHOTS, SESSIONS}
use Rattle.retro_base.specs.declared.refusal.Refusal.{Refusal}
use Rattle.retro_base.specs.declared.refusal.Refusal.TheVariants.{OutOfMemory, ArchiveFull, JournalFull}
use Rattle.retro_base.specs.declared.refusal.Refusal.TheVariants.{NoSuchSnapshot, PagesFull, Pinned}
use Rattle.retro_base.specs.declared.refusal.Refusal.TheVariants.{SnapshotsFull, Stopped, TooManyPages}
use Rattle.retro_base.specs.declared.who.Who.{Who}
use Rattle.history.specs.declared.entry.Base.{Base}
use Rattle.history.specs.declared.entry.Change.{Change}
use Rattle.history.specs.declared.journal.FailedCall.TheVariants.{Append}
use Rattle.history.specs.declared.journal.Line.{Line}
use Rattle.history.specs.declared.journal.What.{What}
use Rattle.history.specs.declared.journal.What.TheVariants.{Began, Done, Overlapped, RolledBack, Looked}
use Rattle.history.specs.declared.journal.What.TheVariants.{LookedAll, Unlooked, Dropped, Refused, Fault}
use Rattle.history.specs.declared.writes.PageImage.{PageImage}
use Rattle.history.specs.declared.entry.Change.TheVariants as change
use Rattle.history.specs.History.{base_after, written}
use Rattle.history.specs.Marks.{oldest_start, newest as newest_mark}
use Rattle.history.specs.Lines.{FaultsDiffer, base_of, first_stop, images_in, is_write, lines_of}
use Rattle.history.specs.declared.stop.Stop.{Stop}
use Rattle.history.specs.Sound.{Pin}
use Rattle.history.specs.Writes.{pages_of, rises}
use Rattle.journal_law.specs.Fates.{began_of, fate}
use Rattle.journal_law.specs.Language.{AsOf, Commit, DropBelow, End, Kind, Language, Lineless}
use Rattle.journal_law.specs.Language.{OverAll, Rollback, Transaction, answer, kind_of}
use Rattle.journal_law.specs.Own.{SinceBegan, is_looking, is_trying, line, own}
use Rattle.journal_law.specs.Pages.{Pages, page_world, pins_of}
use Rattle.journal_law.specs.Shows.{world}
use Rattle.journal_law.specs.World.{World, as_of, newest, oldest_of}

-- ---- shape

-- The lines of attempts: each begins and has one end, and only an overlap is followed by another attempt.
abbrev pub AreAttempts : List What → Type 0
AreAttempts [] = Unit {0}
AreAttempts (Began ∷ Overlapped session item ∷ whats) = AreAttempts whats
AreAttempts (Began ∷ Done label writes ∷ []) = Unit {0}
AreAttempts (Began ∷ RolledBack ∷ []) = Unit {0}
AreAttempts (Began ∷ Refused why ∷ []) = Unit {0}
AreAttempts (Began ∷ Fault device count call ∷ []) = Unit {0}
AreAttempts whats = ⊥

-- the end of a look
abbrev pub EndsLook : List What → Type 0
EndsLook (Unlooked ∷ []) = Unit {0}
EndsLook (Refused why ∷ []) = Unit {0}
EndsLook (Fault device count call ∷ []) = Unit {0}
EndsLook whats = ⊥

-- What the lines of an item say, in order. An item without lines was cut short, or not run, or has none.
abbrev pub IsRun : Kind → List What → Type 0
IsRun (Transaction end) whats = AreAttempts whats × (length whats ≤ 2 * ATTEMPTS)
IsRun kind [] = Unit {0}
IsRun (AsOf snapshot) (Looked number ∷ whats) = EndsLook whats
IsRun (AsOf snapshot) (Refused why ∷ []) = Unit {0}
IsRun OverAll (LookedAll ∷ whats) = EndsLook whats
IsRun (DropBelow below) (Dropped number ∷ []) = Unit {0}
IsRun (DropBelow below) (Refused why ∷ []) = Unit {0}
IsRun (DropBelow below) (Fault device count call ∷ []) = Unit {0}
IsRun kind whats = ⊥

-- the last line of an item is an overlap before the 64th attempt, or it lacks a line that it needs
abbrev pub IsCut : Kind → List What → Type 0
IsCut Lineless [] = ⊥
IsCut kind [] = Unit {0}
IsCut kind (Began ∷ Overlapped session item ∷ []) = Unit {0}
IsCut kind (what ∷ next ∷ whats) = IsCut kind whats × (length whats + 2 < 2 * ATTEMPTS) × (whats ≢ [])
IsCut kind whats = ⊥

-- phases come one after the other
abbrev pub PhasesRise : List Line → Type 0
PhasesRise [] = Unit {0}
PhasesRise (line ∷ lines) = AllByRecursion (λ (later : Line). line.who.phase ≤ later.who.phase) lines × PhasesRise lines

-- in a phase the items of these lines come one after the other
abbrev pub ItemsRise : List Line → Type 0
ItemsRise [] = Unit {0}
ItemsRise (line ∷ lines) =
    AllByRecursion (λ (later : Line). line.who.phase ≡ later.who.phase → line.who.item ≤ later.who.item) lines
    × ItemsRise lines

-- a worker of the store, or main
abbrev pub IsWorker : Who → Type 0
IsWorker who = SESSIONS ≤ who.session

abbrev pub IsFault : What → Type 0
IsFault (Fault device count call) = Unit {0}
IsFault what = ⊥

-- a line is of an item of the script, or of a worker that met a fault
abbrev pub IsKnown : {I : Type 0} → Who → Option I → What → Type 0
IsKnown who one what = (is_some one ≡ true) ⊎ (IsWorker who × IsFault what)

-- The lines of each item of a session are those of a run, and behind an item that was cut short the session has no
-- further line in its phase.
pub record HasRuns (L : Language) (items : Who → Option L.Item) (session : ℕ) (lines : List Line) : Type 0 where
  pub order : ItemsRise (lines_of session lines)
  pub runs : (who : Who) (item : L.Item) → who.session ≡ session → items who ≡ Some item
      → IsRun (L.kind item) (own who lines)
  pub cut : (who later : Who) (item : L.Item) → who.session ≡ session → items who ≡ Some item
      → IsCut (L.kind item) (own who lines)
      → later.phase ≡ who.phase → later.session ≡ session → who.item < later.item → own later lines ≡ []

pub record HasShape (L : Language) (items : Who → Option L.Item) (journal : List Line) : Type 0 where
  pub phases : PhasesRise journal
  pub sessions : (session : ℕ) → HasRuns L items session journal

-- ---- what stands at a line's place

-- what a store was opened with: what its log says, its pages, and the counts of faults of its devices
pub record Ground : Type 0 where
  pub base : Base
  pub pages : World Pages
  pub faults : Device → ℕ

-- and tables that the pages hold
pub record Opening (L : Language) : Type 0 where
  pub opened : Ground
  pub tables : World L.Tables

-- ---- ends

-- the transaction is ended by a commit with this label
abbrev pub CommitsAs : Option (List ℕ) → Option Kind → Type 0
CommitsAs label (Some (Transaction (Commit given))) = label ≡ given
CommitsAs label kind = ⊥

abbrev pub RollsBack : Option Kind → Type 0
RollsBack (Some (Transaction Rollback)) = Unit {0}
RollsBack kind = ⊥

-- done stands only where the script commits, with its label, and rolled back only where the script rolls back
abbrev pub IsEnding : Option Kind → What → Type 0
IsEnding kind (Done label writes) = CommitsAs label kind
IsEnding kind RolledBack = RollsBack kind
IsEnding kind what = Unit {0}

-- ---- overlaps

-- an item of another session, which has an attempt open at some place between this attempt's Began and the line
pub record IsOverlapOf (who other : Who) (before : List Line) : Type 0 where
  pub apart : other.session ≢ who.session
  pub since : List Line
  pub rest : List Line
  pub began : SinceBegan who before since rest
  pub front : List Line
  pub more : List Line
  pub place : rest ≡ front ++ more
  pub trying : is_trying other ((since ++ line who Began ∷ []) ++ front) ≡ true

-- some item with this session and number
pub record IsOverlapBy (who : Who) (before : List Line) (session item : ℕ) : Type 0 where
  pub other : Who
  pub session_is : other.session ≡ session
  pub item_is : other.item ≡ item
  pub overlaps : IsOverlapOf who other before

abbrev pub OverlapAt : Who → List Line → What → Type 0
OverlapAt who before (Overlapped session item) = IsOverlapBy who before session item
OverlapAt who before what = Unit {0}

-- ---- snapshots

-- a snapshot below the bound that an open look pins: the least such, then the least session
pub record IsLeastPin (pins : List Pin) (below snapshot session : ℕ) : Type 0 where
  pub lower : snapshot < below
  pub who : Who
  pub is : who.session ≡ session
  pub front : List Pin
  pub more : List Pin
  pub among : pins ≡ front ++ record { who = who; snapshot = snapshot } ∷ more
  pub least : AllByRecursion
      (λ (pin : Pin). (snapshot < pin.snapshot) ⊎ ((snapshot ≡ pin.snapshot) × (session ≤ pin.who.session))) pins

-- what stands before a drop: the first fault that stopped the store, the latest snapshot, and the pins
pub record AtDrop : Type 0 where
  pub stop : Option Stop
  pub newest : ℕ
  pub pins : List Pin

-- no snapshot has this number
abbrev pub IsNone : ℕ → ℕ → Type 0
IsNone number newest = (number ≡ 0) ⊎ (newest < number)

-- a drop is refused where the store has stopped; else by a number that is no snapshot's; else by a pin
abbrev pub DropRefused : AtDrop → ℕ → Refusal → Type 0
DropRefused at below why =
    ((stop : Stop) × (at.stop ≡ Some stop) × (why ≡ Stopped stop.device stop.count))
    ⊎ ((at.stop ≡ None) × IsNone below at.newest × (why ≡ NoSuchSnapshot below at.newest))
    ⊎ ((at.stop ≡ None) × (1 ≤ below) × (below ≤ at.newest)
    × ((snapshot : ℕ) × (session : ℕ) × IsLeastPin at.pins below snapshot session × (why ≡ Pinned snapshot session)))

-- a drop is done where none of these holds
pub record MayDrop (at : AtDrop) (below : ℕ) : Type 0 where
  pub goes : at.stop ≡ None
  pub numbered : (1 ≤ below) × (below ≤ at.newest)
  pub free : AllByRecursion (λ (pin : Pin). below ≤ pin.snapshot) at.pins

-- the snapshot is the one that is asked, and is retained
abbrev pub LooksAt : {X : Type 0} → World X → ℕ → Option Kind → Type 0
LooksAt {X} now number (Some (AsOf snapshot)) = (number ≡ snapshot) × ((held : X) × (as_of snapshot now ≡ Ok held))
LooksAt now number kind = ⊥

abbrev pub LooksAtAll : Option Kind → Type 0
LooksAtAll (Some OverAll) = Unit {0}
LooksAtAll kind = ⊥

abbrev pub DropsBelow : AtDrop → ℕ → Option Kind → Type 0
DropsBelow at number (Some (DropBelow below)) = (number ≡ below) × MayDrop at below
DropsBelow at number kind = ⊥

-- a refusal without a look that has begun
abbrev pub RefusedAlone : {X : Type 0} → World X → AtDrop → Refusal → Option Kind → Bool → Type 0
RefusedAlone now at why (Some (AsOf snapshot)) false = as_of snapshot now ≡ Err why
RefusedAlone now at why (Some OverAll) false = ⊥
RefusedAlone now at why (Some (DropBelow below)) looking = DropRefused at below why
RefusedAlone now at why kind looking = Unit {0}

-- A look begins at the snapshot that is asked, which is retained, and is refused alone only with the refusal of its
-- number; a drop is done or refused as it must be.
abbrev pub SnapshotAt : {X : Type 0} → World X → AtDrop → Option Kind → Bool → What → Type 0
SnapshotAt now at kind looking (Looked number) = LooksAt now number kind
SnapshotAt now at kind looking LookedAll = LooksAtAll kind
SnapshotAt now at kind looking (Dropped number) = DropsBelow at number kind
SnapshotAt now at kind looking (Refused why) = RefusedAlone now at why kind looking
SnapshotAt now at kind looking what = Unit {0}

-- ---- limits

-- the captures behind a commit that a store of this capacity would have to keep, and those that it would ever have had
pub record ArchiveNeeds (base : Base) (label : Option (List ℕ)) (writes : List PageImage) (kept ever : ℕ) : Type 0 where
  pub ever_is : ever ≡ (base_after base (change.Commit label writes)).captures
  pub kept_is : kept ≡ ever - oldest_start (base_after base (change.Commit label writes)).marks

-- A commit of these writes is refused there by a limit: page images of the journal; snapshots, of which no more are
-- retained or numbered; captures, of which the archive holds no more, or else a store has no more over all its runs.
abbrev pub IsCommitRefused : Base → List Line → Option (List ℕ) → List PageImage → Refusal → Type 0
IsCommitRefused base lines label writes (JournalFull count images) =
    (count ≡ length lines) × (images ≡ images_in lines + length writes) × (JOURNAL_IMAGES < images)
IsCommitRefused base lines label writes (SnapshotsFull retained) =
    (is_some label ≡ true) × (retained ≡ length base.marks)
    × ((RETAINED_SNAPSHOTS ≤ retained) ⊎ (2 ^ 32 - 1 ≤ newest_mark base.marks))
IsCommitRefused base lines label writes (ArchiveFull needed room) =
    (kept : ℕ) × (ever : ℕ) × ArchiveNeeds base label writes kept ever
    × (((needed ≡ kept) × (room ≡ base.capacity) × (room < needed))
    ⊎ ((kept ≤ base.capacity) × (needed ≡ ever) × (room ≡ MAX_CAPTURES) × (room < needed)))
IsCommitRefused base lines label writes why = ⊥

module _ (L : Language) where
  -- a commit of the item would be refused so at some place since this attempt's Began, for writes of pages that its
  -- statements may edit
  pub record MeetsLimit (ground : Ground) (who : Who) (before : List Line) (item : L.Item) (label : Option (List ℕ))
      (why : Refusal) : Type 0 where
    pub since : List Line
    pub rest : List Line
    pub began : SinceBegan who before since rest
    pub front : List Line
    pub more : List Line
    pub place : rest ≡ front ++ more
    pub writes : List PageImage
    pub rise : IsTrue (rises 0 (pages_of writes))
    pub reached : AllByRecursion (L.Reaches item (page_world ground.pages since).current) (pages_of writes)
    pub refused : IsCommitRefused (base_of ground.base ((since ++ line who Began ∷ []) ++ front))
        ((since ++ line who Began ∷ []) ++ front) label writes why

  -- from the pages at this attempt's Began a statement needs more pages than are free
  pub record LacksPages (ground : Ground) (who : Who) (before : List Line) (item : L.Item) : Type 0 where
    pub since : List Line
    pub rest : List Line
    pub began : SinceBegan who before since rest
    pub short : L.IsShort item (page_world ground.pages since).current

  -- from these pages on the statements may edit more pages than one transaction edits
  pub record ReachesTooMany (ground : Ground) (who : Who) (before : List Line) (item : L.Item) : Type 0 where
    pub since : List Line
    pub rest : List Line
    pub began : SinceBegan who before since rest
    pub pages : List ℕ
    pub rise : IsTrue (rises 0 pages)
    pub many : length pages ≡ EDITED_PAGES + 1
    pub reached : AllByRecursion (L.Reaches item (page_world ground.pages since).current) pages

  -- the item commits something: it declares a snapshot, or has a statement that is more than a select
  abbrev pub CommitsSomething : L.Item → Option (List ℕ) → Type 0
  CommitsSomething item label = (is_some label ≡ true) ⊎ (L.changes item ≡ true)

  -- an attempt of a transaction that ends so is refused only for a limit that it met
  abbrev pub IsLimit : Ground → Who → List Line → L.Item → End → Refusal → Type 0
  IsLimit ground who before item end OutOfMemory = Unit {0}
  IsLimit ground who before item (Commit label) (ArchiveFull needed room) =
      MeetsLimit ground who before item label (ArchiveFull needed room)
  IsLimit ground who before item (Commit label) (JournalFull lines images) =
      MeetsLimit ground who before item label (JournalFull lines images)
  IsLimit ground who before item (Commit label) (SnapshotsFull retained) =
      MeetsLimit ground who before item label (SnapshotsFull retained)
  IsLimit ground who before item end (PagesFull pages) =
      (pages ≡ ground.base.page_count) × LacksPages ground who before item
  IsLimit ground who before item end (TooManyPages needed) =
      (needed ≡ EDITED_PAGES + 1) × ReachesTooMany ground who before item
  IsLimit ground who before item (Commit label) (Stopped device count) =
      (first_stop before ≡ Some (record { device = device; count = count })) × CommitsSomething item label
  IsLimit ground who before item end why = ⊥

  abbrev pub limit_by : Ground → Who → List Line → L.Item → Refusal → Kind → Type 0
  limit_by ground who before item why (Transaction end) = IsLimit ground who before item end why
  limit_by ground who before item why kind = Unit {0}

  abbrev pub limit_of : Ground → Who → List Line → L.Item → Kind → What → Type 0
  limit_of ground who before item kind (Refused why) = limit_by ground who before item why kind
  limit_of ground who before item kind what = Unit {0}

  abbrev pub LimitAt : Ground → Who → List Line → Option L.Item → What → Type 0
  LimitAt ground who before None what = Unit {0}
  LimitAt ground who before (Some item) what = limit_of ground who before item (L.kind item) what

  -- ---- queries

  -- there is an answer in the world in which it looked
  abbrev pub AnsweredIn : L.Item → Bool → Option (World L.Tables) → Type 0
  AnsweredIn item true (Some looked) = (text : List ℕ) × (answer L item looked ≡ Ok text)
  AnsweredIn item looking looked = ⊥

  -- there is this refusal in place of an answer, or memory is wanting
  abbrev pub UnansweredIn : L.Item → Refusal → Bool → Option (World L.Tables) → Type 0
  UnansweredIn item why true (Some looked) = (why ≡ OutOfMemory) ⊎ (answer L item looked ≡ Err why)
  UnansweredIn item why true None = ⊥
  UnansweredIn item why false looked = Unit {0}

  abbrev pub answered_by : L.Item → Kind → Bool → Option (World L.Tables) → Type 0
  answered_by item (AsOf snapshot) looking looked = AnsweredIn item looking looked
  answered_by item OverAll looking looked = AnsweredIn item looking looked
  answered_by item kind looking looked = ⊥

  abbrev pub unanswered_by : L.Item → Refusal → Kind → Bool → Option (World L.Tables) → Type 0
  unanswered_by item why (AsOf snapshot) looking looked = UnansweredIn item why looking looked
  unanswered_by item why OverAll looking looked = UnansweredIn item why looking looked
  unanswered_by item why kind looking looked = Unit {0}

  -- a look that has begun ends with its answer only where there is one, and refused only with its refusal, or for want
  -- of memory
  abbrev pub query_end : L.Item → Kind → Option (World L.Tables) → Bool → What → Type 0
  query_end item kind looked looking Unlooked = answered_by item kind looking looked
  query_end item kind looked looking (Refused why) = unanswered_by item why kind looking looked
  query_end item kind looked looking what = Unit {0}

  abbrev pub QueryAt : Option L.Item → Option (World L.Tables) → Bool → What → Type 0
  QueryAt None looked looking Unlooked = ⊥
  QueryAt None looked looking what = Unit {0}
  QueryAt (Some item) looked looking what = query_end item (L.kind item) looked looking what

-- ---- faults

-- after the first fault that wrote nothing more is written: no commit that writes or declares, and no drop that raises
-- the oldest snapshot
abbrev pub WritesNothing : ℕ → What → Type 0
WritesNothing oldest (Done None []) = Unit {0}
WritesNothing oldest (Done label writes) = ⊥
WritesNothing oldest (Dropped below) = below ≤ oldest
WritesNothing oldest what = Unit {0}

-- the fault's count is above the device's at the opening, and a look's fault did not write
abbrev pub FaultIsNew : (Device → ℕ) → Bool → What → Type 0
FaultIsNew faults looking (Fault device count call) =
    (count < 2 ^ 64 - 1 → faults device < count) × (looking ≡ true → is_write call ≡ false)
FaultIsNew faults looking what = Unit {0}

pub record FaultAt (faults : Device → ℕ) (oldest : ℕ) (stop : Option Stop) (looking : Bool) (what : What) : Type 0 where
  pub new : FaultIsNew faults looking what
  pub stopped : is_some stop ≡ true → WritesNothing oldest what

-- no fault has a count above the device's at the end
abbrev pub CountedBy : (Device → ℕ) → What → Type 0
CountedBy faults (Fault device count call) = count ≤ faults device
CountedBy faults what = Unit {0}

abbrev pub IsCounted : (Device → ℕ) → Line → Type 0
IsCounted faults line = CountedBy faults line.what

-- ---- doubt

module _ (L : Language) where
  -- A change that is in doubt is the item's own: a commit with its label, whose writes make of these pages such as hold
  -- the tables behind its statements; or its drop, which may be.
  abbrev pub IsOwnChange : Pages → AtDrop → L.Tables → L.Item → Kind → Change → Type 0
  IsOwnChange pages at tables item (Transaction (Commit given)) (change.Commit label writes) =
      (label ≡ given) × L.IsStored (written pages writes) (L.after item tables)
  IsOwnChange pages at tables item (DropBelow below) (change.Drop number) = (number ≡ below) × MayDrop at below
  IsOwnChange pages at tables item kind other = ⊥

  -- what a fault leaves in doubt
  abbrev pub doubt_by : Pages → AtDrop → L.Tables → L.Item → Kind → What → Type 0
  doubt_by pages at tables item kind (Fault device count (Append change)) = IsOwnChange pages at tables item kind change
  doubt_by pages at tables item kind what = Unit {0}

  -- a worker's fault leaves nothing in doubt
  abbrev pub DoubtAt : Pages → AtDrop → L.Tables → Option L.Item → What → Type 0
  DoubtAt pages at tables (Some item) what = doubt_by pages at tables item (L.kind item) what
  DoubtAt pages at tables None (Fault device count (Append change)) = ⊥
  DoubtAt pages at tables None what = Unit {0}

-- ---- memory

-- want of memory ends an attempt or a look that is open, and nothing else
abbrev pub MemoryAt : Bool → What → Type 0
MemoryAt is_open (Refused OutOfMemory) = is_open ≡ true
MemoryAt is_open what = Unit {0}

-- ---- all rules

-- what a drop would meet behind these lines
abbrev pub at_drop : {X : Type 0} → World Pages → World X → List Line → AtDrop
at_drop pages now lines = record { stop = first_stop lines; newest = newest now; pins = pins_of pages lines }

module _ (L : Language) (items : Who → Option L.Item) where
  -- the rules of one line behind others, given its item and the world at its place
  pub record RulesAt (o : Opening L) (before : List Line) (who : Who) (one : Option L.Item) (now : World L.Tables)
      (what : What) : Type 0 where
    pub known : IsKnown who one what
    pub ending : IsEnding (kind_of L one) what
    pub query : QueryAt L one (began_of (fate L items who o.tables before)) (is_looking who before) what
    pub overlap : OverlapAt who before what
    pub snapshot : SnapshotAt now (at_drop o.opened.pages now before) (kind_of L one) (is_looking who before) what
    pub limit : LimitAt L o.opened who before one what
    pub fault : FaultAt o.opened.faults (oldest_of now.marks) (first_stop before) (is_looking who before) what
    pub doubt : DoubtAt L (page_world o.opened.pages before).current
        (at_drop o.opened.pages now before) now.current one what
    pub memory : MemoryAt (is_trying who before || is_looking who before) what

  abbrev pub KeepsRules : Opening L → List Line → Line → Type 0
  KeepsRules o before line = RulesAt o before line.who (items line.who) (world L items o.tables before) line.what

  -- a rule that holds at each line, given the lines before it
  abbrev pub AtEach : (List Line → Line → Type 0) → List Line → Type 0
  AtEach Rule journal = (before after : List Line) (line : Line) → journal ≡ before ++ line ∷ after → Rule before line

  -- A journal that a run of these items may leave, from this opening on, where the devices have counted so many faults
  -- at its end. The rules are those of shape, ends, queries, overlaps, snapshots, limits, faults with what they leave
  -- in doubt, and memory.
  pub record Lawful (o : Opening L) (ending : Device → ℕ) (journal : List Line) : Type 0 where
    pub shape : HasShape L items journal
    pub at_each : AtEach (KeepsRules o) journal
    pub differ : FaultsDiffer journal
    pub counted : AllByRecursion (IsCounted ending) journal
